use Rattle.std.proofs.Common.{◌≡◌}
use Rattle.board.specs.Rows.{ticked}
use Rattle.board.proofs.Board.tick.Given as goal

abbrev pub invariant-loop-row : goal.invariant-loop-row
invariant-loop-row l = l.row-items ≡ ticked l.row-index l.initial.row-items
