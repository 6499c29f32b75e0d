-- A line's name is its second item, if its sort has one.
use Rattle.std.proofs.Common.{rules}
use Rattle.language.specs.OnSheet.{line_at, opener_at}
use Rattle.lookup.proofs.Lookups.{name_is}
use Rattle.lookup.proofs.name_at.Goals as goal

pub returns-then-has_name : goal.returns-then-has_name
unfolding line_at
returns-then-has_name c =
    let e = name_is c.args.rows.now c.args.at (opener_at c.args.rows.now c.args.at) in
    search rules

pub returns-else-has_name : goal.returns-else-has_name
unfolding line_at
returns-else-has_name c =
    let e = name_is c.args.rows.now c.args.at (opener_at c.args.rows.now c.args.at) in
    search rules
