-- One more of the line's sort.
use Rattle.std.proofs.Common.{rules}
use Rattle.limits.specs.Tallies.{with_line}
use Rattle.limits.proofs.tally.Tally.with_line.Goals as goal
use Rattle.limits.proofs.tally.Tally.with_line.Goals.{then-not-is_line, else-not-is_line}

pub returns : goal.returns
unfolding with_line
returns c = elim c.if-not-is_line.branch [ then-not-is_line w ↦ search rules | else-not-is_line w ↦ search rules ]
