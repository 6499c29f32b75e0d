-- The first row whose line is of the sort.
use Rattle.std.proofs.Common.{◌∙◌, rules}
use Rattle.std.proofs.lemmas.Iterator.Search.{find_from_yields_List}
use borrow.Author.Tests.{tests}
use Rattle.text.proofs.Starts.{walked}
use Rattle.language.specs.Lines.{is}
use Rattle.language.specs.OnSheet.{line_at}
use Rattle.translator.proofs.Heads.{as_it_is}
use Rattle.translator.proofs.front.first_line.Goals as goal

pub returns : goal.returns
returns c =
    let lines = c.args.sheet.lines in
    as_it_is c.find.result
    ∙ find_from_yields_List (λ at. is c.args.opener (line_at lines.rows.now at)) c.find.new.self _ c.find.result c.find.ensures.ran (walked lines c.iter.ensures.rows)
    (λ x b q k. search (rules, tests))
