-- What a name stands for is below the number of states.
use Rattle.std.proofs.Common.{map, ◌∙◌}
use Rattle.language.specs.Basics.{found}
use Rattle.language.specs.Lines.{declared}
use Rattle.language.specs.OnSheet.{line_at}
use Rattle.language.specs.declared.house.Opener.TheVariants.{State}
use Rattle.translator.proofs.Bounds.{named_below, found_or_below}
use Rattle.translator.proofs.meaning.state_at.Goals as goal

pub returns-clause-below : goal.returns-clause-below
returns-clause-below c =
    let rows = c.args.sheet.lines.rows.now in
    let states = c.args.states in
    let told = c.find_name.ensures ∙ (λ i. found c.word_at-w.result.now (declared State (map (line_at (c.items.ensures.rows i)) (c.items.ensures.starts i)))) in
    found_or_below c.find_name.result states.count c.unwrap_or.result c.unwrap_or.ensures (λ n e. named_below rows states.first states.count State c.word_at-w.result.now n (rw told at e))
