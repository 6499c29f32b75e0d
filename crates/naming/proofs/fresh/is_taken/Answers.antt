-- The lines whose names a line's name must differ from.
use Rattle.std.proofs.Common.{rules}
use Rattle.naming.specs.Splits.{line_of}
use Rattle.naming.proofs.Rivals.{met_by_state, met_by_other}
use Rattle.naming.proofs.fresh.is_taken.Goals as goal

pub returns-then-is_line : goal.returns-then-is_line
returns-then-is_line c =
    let s = c.args.spot in
    let e = met_by_state s.before s.states s.at c.args.w.now (line_of s) s.stands c.if-is_line.ensures in
    search rules

pub returns-else-is_line : goal.returns-else-is_line
returns-else-is_line c =
    let e = met_by_other c.args.spot.before c.args.w.now (line_of c.args.spot) c.if-is_line.ensures in
    search rules
