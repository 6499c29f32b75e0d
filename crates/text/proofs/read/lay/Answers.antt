use Rattle.std.proofs.Common.{◌≡◌, arith, rules}
use Rattle.text.specs.Tokens.{tok, end}
use Rattle.text.specs.Machine.{ahead, tok_of}
use Rattle.text.proofs.Going.{going_start, going_item, going_end, good_sheet}
use Rattle.text.proofs.read.lay.Goals as goal

pub loop-item-init : goal.loop-item-init
loop-item-init c = going_start c.args.text.now _ c.args.sheet.now _ c.new-reader.ensures c.requires c.new-filler.ensures.0 c.new-filler.ensures.1

pub loop-item-preserved : goal.loop-item-preserved
loop-item-preserved c =
    let e : ahead c.loop-item.reader ≡ tok (tok_of c.in-Some.item) (ahead c.next.new.self) = search rules in
    going_item _ _ _ _ _ _ _ _ c.put.auto.rows c.loop-item.invariant e c.put.ensures.used c.put.ensures.puts

pub returns-clause-holds : goal.returns-clause-holds
returns-clause-holds c =
    let e : ahead c.loop-item.reader ≡ end = search rules in
    good_sheet c.args.text.now _ _ (going_end _ _ _ _ c.loop-item.invariant e) (omega arith)
