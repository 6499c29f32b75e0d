-- The line of a code is read, or there is none.
use Rattle.std.proofs.Common.{Err, IfSome, sym, subst, vec_items}
use Rattle.std.proofs.lemmas.Result.{IfOk-weaker}
use Rattle.playback.specs.Replay.{Answered, coded, printed_for}
use Rattle.playback.proofs.Runs.{code_read, code_unplayed, told_by}
use Rattle.playback.proofs.replay.answer.Goals as goal

pub returns-in-Ok : goal.returns-in-Ok
returns-in-Ok c =
    let line = code_read _ _ _ _ _ c.in-Ok.ensures.answer c.new-code.ensures.items c.deref.ensures.value in
    IfOk-weaker _ _ _ (λ out ran. coded _ _ (vec_items out) line ran) c.run_code.ensures

pub returns : goal.returns
returns c =
    let none = code_unplayed c.args.input.now (vec_items c.new-code.result) (vec_items c.read_list.new.values) c.in-Err.e c.in-Err.ensures.answer in
    told_by vec_items (Answered c.args.input.now) _ _ (subst (λ u. IfSome (printed_for (Err u)) (Answered c.args.input.now)) (sym c.from.ensures) none) c.printed.ensures
