-- The first row that passes the test.
use Rattle.std.proofs.Common.{◌∙◌, sym, rules}
use borrow.Author.Tests.{tests}
use Rattle.std.proofs.lemmas.Iterator.Adapters.{option_map_id}
use Rattle.std.proofs.lemmas.Iterator.Search.{find_from_yields_List}
use Rattle.text.proofs.Starts.{walked}
use Rattle.lookup.specs.Lookups.{declares_constant}
use Rattle.lookup.proofs.constant_row.Goals as goal

pub returns : goal.returns
returns c =
    sym (option_map_id c.find.result)
    ∙ find_from_yields_List (declares_constant c.args.lines.rows.now c.args.w.now) c.find.new.self _ c.find.result c.find.ensures.ran (walked c.args.lines c.iter.ensures.rows) (λ x b q k. search (rules, tests))
