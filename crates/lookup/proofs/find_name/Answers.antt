-- The place of a word among the second items of the lines that declare a name of the sort.
use Rattle.std.proofs.Common.{◌∙◌, refl, sym, ap, rules}
use borrow.Author.Tests.{tests}
use Rattle.std.proofs.lemmas.Iterator.Consumers.{YieldsList-from_filter, YieldsList-at}
use Rattle.std.proofs.lemmas.Iterator.Search.{position_from_yields_List}
use Rattle.text.proofs.Starts.{walked}
use Rattle.text.specs.Items.{starts_of}
use Rattle.language.specs.Basics.{found, same}
use Rattle.language.specs.OnSheet.{word_at, second_row, opener_at}
use Rattle.lookup.specs.Lookups.{opens_name}
use Rattle.lookup.proofs.Lookups.{declared_rows, position_read}
use Rattle.lookup.proofs.find_name.Goals as goal

pub returns : goal.returns
returns c =
    let rows = c.args.lines.rows.now in
    let w = c.args.w.now in
    position_from_yields_List (λ at. same (word_at rows (second_row rows at)) w) c.position.new.self _ _ c.position.ensures.ran
    (YieldsList-at refl (YieldsList-from_filter _ (λ at. opens_name c.args.opener (opener_at rows at)) (YieldsList-at c.filter.ensures.source (walked c.args.lines c.iter.ensures.rows)) c.filter.ensures.closure (λ x b q k. search (rules, tests))))
    (λ x b q k. search (rules, tests))
    ∙ position_read (λ at. word_at rows (second_row rows at)) w _
    ∙ ap (found w) (sym (declared_rows c.args.opener rows (starts_of c.args.lines)))
