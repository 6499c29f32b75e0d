-- The first line of the sort says it.
use Rattle.std.proofs.Common.{rules}
use Rattle.text.specs.Items.{starts_of}
use Rattle.translator.proofs.Heads.{period_is}
use Rattle.translator.proofs.front.period.Goals as goal

pub returns : goal.returns
returns c =
    let lines = c.args.sheet.lines in
    let e = period_is lines.rows.now (starts_of lines) in
    search rules

pub returns-in_default : goal.returns-in_default
returns-in_default c =
    let lines = c.args.sheet.lines in
    let e = period_is lines.rows.now (starts_of lines) in
    search rules
