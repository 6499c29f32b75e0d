-- All of the statements that the body has.
use Rattle.std.proofs.Common.{rules}
use borrow.Author.Tests.{tests}
use Rattle.std.proofs.lemmas.Iterator.Search.{all_from_yields_List}
use Rattle.text.proofs.Starts.{walked}
use Rattle.text.specs.Items.{starts_of}
use Rattle.language.specs.Causes.{timely}
use Rattle.language.specs.OnSheet.{act_at}
use Rattle.limits.proofs.Ranges.{all_timely_read}
use Rattle.limits.proofs.range.is_body_timely.Goals as goal

pub returns : goal.returns
returns c =
    let rows = c.args.rows.now in
    let e = all_timely_read (act_at 12 rows) (starts_of c.body_at.result) in
    let f = all_from_yields_List (λ at. timely (act_at 12 rows at)) c.all.new.self _ c.all.result c.all.ensures.ran (walked c.body_at.result c.iter.ensures.rows) (λ x b q k. search (rules, tests)) in
    cc
