-- The rows whose lines are of the sort.
use Rattle.std.proofs.Common.{◌≡◌, map, ◌∙◌, arith, rules}
use Rattle.std.proofs.lemmas.Iterator.{YieldsList}
use Rattle.std.proofs.lemmas.Iterator.Consumers.{count_from_yields_List, YieldsList-from_filter}
use Rattle.std.proofs.lemmas.List.{length-map}
use Rattle.std.specs.Iterator.{YieldsFirst}
use Rattle.std.specs.Iterator.Adapters.{filter_source}
use borrow.Author.Tests.{tests}
use Rattle.text.proofs.Starts.{walked, length-starts}
use Rattle.text.specs.Items.{starts_of, starts_left}
use Rattle.language.specs.Basics.{count}
use Rattle.language.specs.Lines.{is}
use Rattle.language.specs.OnSheet.{line_at}
use Rattle.translator.proofs.Heads.{count_rows, count_few}
use Rattle.translator.proofs.front.count_lines.Goals as goal

pub returns : goal.returns
returns c =
    let lines = c.args.sheet.lines in
    let read = line_at lines.rows.now in
    let test = is c.args.opener in
    let ats = starts_of lines in
    let walk : YieldsList (YieldsFirst starts_left) (λ at. at) (filter_source c.filter.result) ats = rw c.filter.ensures.source (walked lines c.iter.ensures.rows) in
    let e : c.count.result ≡ count test (map read ats) =
    count_from_yields_List _ c.count.result c.count.ensures.ran (YieldsList-from_filter _ (λ at. test (read at)) walk c.filter.ensures.closure (λ x b q k. search (rules, tests)))
    ∙ count_rows test read ats in
    let few = count_few test (map read ats) in
    let all = length-starts lines.rows.now lines.first lines.count in
    record { is = e; within = omega (arith, length-map ats read) }
