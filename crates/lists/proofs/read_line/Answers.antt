-- A bracket and the head, the values, and the end of the line.
use Rattle.std.proofs.Common.{vec_items}
use Rattle.std.proofs.lemmas.Result.{err_from_is_err_and}
use Rattle.lists.proofs.Lines.{list_read, no_ending, no_front, no_list, no_value, values_refused}
use Rattle.lists.proofs.read_line.Goals as goal

pub returns-in_err-text-clause-answer : goal.returns-in_err-text-clause-answer
returns-in_err-text-clause-answer c =
    let p = err_from_is_err_and c.from_residual.result c.from_residual.ensures.1 in
    let none = rw c.in_err-text.ensures.ok_part at c.after_head.ensures in
    rw (p.1, p.2, no_value c.after_head.result c.in_err-text.field-0.0 c.in_err-text.ensures.ok_part c.in_err-text.ensures.value)
    (no_front c.args.head.now c.args.input.now none)

pub returns-in_err-end-clause-answer : goal.returns-in_err-end-clause-answer
returns-in_err-end-clause-answer c =
    let p = err_from_is_err_and c.from_residual-in_err-end.result c.from_residual-in_err-end.ensures.1 in
    let front = rw c.in_ok-text.ensures.ok_part at c.after_head.ensures in
    rw (p.1, p.2) (values_refused c.args.head.now c.args.input.now c.in_ok-text.text.now (vec_items c.args.values.now) (vec_items c.read_values.new.values) c.in_err-end.field-0.0 front c.in_err-end.ensures.answer)

pub returns-in_err-rest-clause-answer : goal.returns-in_err-rest-clause-answer
returns-in_err-rest-clause-answer c =
    let p = err_from_is_err_and c.from_residual-in_err-rest.result c.from_residual-in_err-rest.ensures.1 in
    let front = rw c.in_ok-text.ensures.ok_part at c.after_head.ensures in
    let none = rw c.in_err-rest.ensures.ok_part at c.after.ensures in
    let passed = c.in_ok-end.ensures.answer in
    rw (p.1, p.2, no_value c.after.result c.in_err-rest.field-0.0 c.in_err-rest.ensures.ok_part c.in_err-rest.ensures.value)
    (no_list c.args.head.now c.args.input.now c.in_ok-text.text.now front (passed.0.decides (no_ending c.in_ok-end.end.now passed.1 none)))

pub returns-clause-answer : goal.returns-clause-answer
returns-clause-answer c =
    let front = rw c.in_ok-text.ensures.ok_part at c.after_head.ensures in
    let close = rw c.in_ok-rest.ensures.ok_part at c.after.ensures in
    list_read c.args.head.now c.args.input.now c.in_ok-text.text.now c.in_ok-end.end.now c.in_ok-rest.rest.now _ _ front c.in_ok-end.ensures.answer.0 close
