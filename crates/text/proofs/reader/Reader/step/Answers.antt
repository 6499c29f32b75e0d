use Rattle.std.proofs.Common.{◌≡◌, ◌⊎◌, sym, ◌∙◌, rules}
use Rattle.text.specs.declared.class.Class.TheVariants.{Digit, Letter}
use Rattle.text.proofs.Steps.{word_grown, word_held, number_held}
use Rattle.text.proofs.reader.Reader.step.Goals as goal

pub returns-in-Word-Letter : goal.returns-in-Word-Letter
returns-in-Word-Letter c =
    let k : (c.class_of-c.result ≡ Letter) ⊎ (c.class_of-c.result ≡ Digit) = search rules in
    let h = word_grown c.args.self.now c.class_of-c.result c.requires c.in-Word-Letter.is-0 c.class_of-c.ensures k c.grow.new.self c.grow.result c.grow.ensures in
    search rules

pub returns-in-Word-default : goal.returns-in-Word-default
returns-in-Word-default c =
    let h = word_held c.args.self.now c.class_of-c.result c.requires c.in-Word-default.is-0 c.class_of-c.ensures c.finish.new.self c.finish.result c.finish.ensures in
    search rules

pub returns-in-Number-default : goal.returns-in-Number-default
returns-in-Number-default c =
    let h = number_held c.args.self.now c.class_of-c.result c.requires c.in-Number-default.is-0 c.class_of-c.ensures (sym c.is_number.ensures ∙ c.if-is_number.true) c.finish-in-Number-default.new.self c.finish-in-Number-default.result c.finish-in-Number-default.ensures in
    search rules
