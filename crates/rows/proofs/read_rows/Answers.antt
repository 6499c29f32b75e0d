-- Each turn reads a row, or something is left that begins with none.
use Rattle.std.proofs.Common.{vec_items}
use Rattle.std.proofs.lemmas.Result.{err_from_is_err_and}
use Rattle.rows.proofs.RowReads.{passed_more, rows_refused}
use Rattle.rows.proofs.read_rows.Goals as goal

pub returns-in_err-row : goal.returns-in_err-row
returns-in_err-row c = let p = err_from_is_err_and c.from_residual.result c.from_residual.ensures.1 in rw (p.1, p.2) (rows_refused _ _ _ _ _ c.loop-left.invariant c.loop-left-test.ensures c.in_err-row.ensures)

pub loop-left-preserved : goal.loop-left-preserved
loop-left-preserved c = passed_more vec_items _ _ _ _ _ _ _ c.loop-left.invariant c.in_ok-row.ensures c.in_ok-push.ensures.items
