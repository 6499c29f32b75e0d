-- A list of the width is the row that was wanted, and one of another length is none.
use Rattle.std.proofs.Common.{vec_items, codes, rules}
use Rattle.std.proofs.lemmas.Result.{err_from_is_err_and}
use Rattle.rows.proofs.RowReads.{other_width, read_fit, read_whole, row_refused}
use Rattle.rows.proofs.read_row.Goals as goal

pub returns-in_err-n : goal.returns-in_err-n
returns-in_err-n c =
    let p = err_from_is_err_and c.from_residual.result c.from_residual.ensures.1 in rw (p.1, p.2) (row_refused c.args.width c.args.text.now (vec_items c.new-row.result) (vec_items c.read_list.new.values) c.in_err-n.field-0.0 c.in_err-n.ensures.answer)

pub returns-then-len-width : goal.returns-then-len-width
returns-then-len-width c = other_width _ _ _ _ _ c.in_ok-n.ensures.answer c.new-row.ensures.items (search rules)

pub returns : goal.returns
returns c =
    let read = c.in_ok-n.ensures.answer in
    let empty = c.new-row.ensures.items in
    ((search rules, read_fit (codes "row") _ _ _ _ read empty), read_whole (codes "row") _ _ _ _ read empty)
