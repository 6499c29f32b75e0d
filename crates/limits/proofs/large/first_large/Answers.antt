-- The place of the first line that has a large number, counted from one.
use Rattle.std.proofs.Common.{◌+◌, ◌∙◌, [], ap, rules}
use borrow.Author.Tests.{tests}
use Rattle.std.proofs.lemmas.Iterator.Search.{position_from_yields_List}
use Rattle.text.proofs.Starts.{walked}
use Rattle.text.specs.Items.{starts_of}
use Rattle.text.specs.Sheet.{form_at}
use Rattle.language.specs.Basics.{changed}
use Rattle.language.specs.Causes.{large}
use Rattle.language.proofs.Tests.{first_read}
use Rattle.language.proofs.Changes.{mapped}
use Rattle.limits.proofs.large.first_large.Goals as goal

pub returns : goal.returns
returns c =
    let rows = c.args.lines.rows.now in
    mapped (λ i. 1 + i) (λ i n k. search (rules, tests)) c.position.result c.map.ensures.cases
    ∙ ap (changed (λ i. 1 + i)) (position_from_yields_List (λ at. large (form_at 13 rows at)) c.position.new.self _ c.position.result c.position.ensures.ran (walked c.args.lines c.iter.ensures.rows) (λ x b q k. search (rules, tests)))
    ∙ first_read large (form_at 13 rows) 1 [] (starts_of c.args.lines)
