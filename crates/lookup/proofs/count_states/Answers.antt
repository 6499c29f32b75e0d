-- As many rows as lead by the test of their lines.
use Rattle.std.proofs.Common.{◌∙◌, arith, rules}
use borrow.Author.Tests.{tests}
use Rattle.std.proofs.lemmas.Iterator.Consumers.{YieldsList-at, count_from_yields_List}
use Rattle.std.proofs.lemmas.Iterator.Search.{YieldsList-from_take_while}
use Rattle.text.proofs.Starts.{walked}
use Rattle.text.specs.Items.{starts_of}
use Rattle.language.specs.Lines.{is}
use Rattle.language.specs.OnSheet.{line_at}
use Rattle.language.specs.declared.house.Opener.TheVariants.{State}
use Rattle.language.proofs.Lines.{leading_few}
use Rattle.language.proofs.Tests.{leading_read}
use Rattle.lookup.proofs.count_states.Goals as goal

pub returns-clause-is : goal.returns-clause-is
returns-clause-is c =
    let rows = c.args.lines.rows.now in
    count_from_yields_List c.take_while.result _ c.count.ensures.ran
    (YieldsList-from_take_while _ (λ at. is State (line_at rows at)) (YieldsList-at c.take_while.ensures.source (walked c.args.lines c.iter.ensures.rows)) c.take_while.ensures.closure c.take_while.ensures.done (λ x b q k. search (rules, tests)))
    ∙ leading_read (is State) (line_at rows) (starts_of c.args.lines)

pub returns-clause-within : goal.returns-clause-within
returns-clause-within c = omega (arith, returns-clause-is c, leading_few (is State) c.args.lines.rows.now c.args.lines.first c.args.lines.count)
