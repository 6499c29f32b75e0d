-- The test of a line is that of its row.
use Rattle.std.proofs.Common.{◌∙◌, rules}
use borrow.Author.Tests.{tests}
use Rattle.std.proofs.lemmas.Iterator.Search.{any_from_yields_List}
use Rattle.text.proofs.Starts.{walked}
use Rattle.text.specs.Items.{starts_of}
use Rattle.language.specs.OnSheet.{line_at}
use Rattle.language.proofs.Tests.{any_read}
use Rattle.naming.specs.Rivals.{takes_up}
use Rattle.naming.proofs.fresh.is_met.Goals as goal

pub returns : goal.returns
returns c =
    let rows = c.args.lines.rows.now in
    let w = c.args.w.now in
    any_from_yields_List (λ at. takes_up c.args.states w (line_at rows at)) c.any.new.self _ _ c.any.ensures.ran (walked c.args.lines c.iter.ensures.rows) (λ x b q k. search (rules, tests))
    ∙ any_read (takes_up c.args.states w) (line_at rows) (starts_of c.args.lines)
