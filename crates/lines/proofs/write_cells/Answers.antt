-- One cell more is written.
use Rattle.std.proofs.Common.{rules}
use Rattle.lines.proofs.Cells.{cell_more}
use Rattle.lines.proofs.write_cells.Goals as goal

pub loop-cell-preserved : goal.loop-cell-preserved
loop-cell-preserved g c p = cell_more _ g.K.Kind.ops.writing _ _ _ _ _ _ c.loop-cell-test.true c.cell-item.is (c.loop-cell.invariant p) (search rules)
