-- Each turn passes a space and a value.
use Rattle.std.proofs.Common.{vec_items, ◌∙◌, w32}
use Rattle.std.proofs.lemmas.Int.{to_z-of_z}
use Rattle.std.proofs.lemmas.Result.{err_from_is_err_and}
use Rattle.lists.proofs.Lines.{no_ending_after, no_value, passed_more}
use Rattle.lists.proofs.read_values.Goals as goal

pub returns-in_err-ok_or-clause-answer : goal.returns-in_err-ok_or-clause-answer
returns-in_err-ok_or-clause-answer c =
    let p = err_from_is_err_and c.from_residual.result c.from_residual.ensures.1 in
    let none = rw c.in_err-ok_or.ensures.ok_part at c.integer.ensures in
    rw (p.1, p.2, no_value c.integer.result c.in_err-ok_or.field-0.0 c.in_err-ok_or.ensures.ok_part c.in_err-ok_or.ensures.value)
    (c.loop-item.invariant.decides
    (no_ending_after c.loop-item.left.now c.in-Some.item.now c.in-Some.ensures
    (λ v vs rest fit fits t b. none v fit (c.split_token.ensures.token ∙ t))))

pub loop-item-preserved : goal.loop-item-preserved
loop-item-preserved c =
    let v = c.in_ok-ok_or.field-0 in
    let value = rw c.in_ok-ok_or.ensures.ok_part at c.integer.ensures in
    let pushed = simp (to_z-of_z w32 v value.0) at c.in_ok-push.ensures.items in
    passed_more c.args.text.now c.loop-item.left.now c.in-Some.item.now c.split_token.result.0.now c.split_token.result.1.now (vec_items c.args.values.now) (vec_items c.loop-item.values) (vec_items c.push.new.self) v
    c.loop-item.invariant c.in-Some.ensures c.split_token.ensures.token c.split_token.ensures.behind value.0 value.1 pushed
