-- The rows so far are read, and less is left with each.
use Rattle.std.proofs.Common.{map, length, vec_items}
use Rattle.rows.proofs.RowReads.{PassedRows}
use Rattle.rows.proofs.read_rows.Given as goal

abbrev pub invariant-loop-left : goal.invariant-loop-left
invariant-loop-left l = PassedRows l.width l.text l.left (map vec_items (vec_items l.rows))

abbrev pub decreases-loop-left : goal.decreases-loop-left
decreases-loop-left l = length l.left
