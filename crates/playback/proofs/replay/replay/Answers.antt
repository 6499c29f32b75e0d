-- The limit decides.
use Rattle.std.proofs.Common.{sym, subst, vec_items}
use Rattle.std.proofs.lemmas.Result.{IfOk-weaker}
use Rattle.playback.specs.Replay.{Replayed, in_limit, too_long}
use Rattle.playback.proofs.replay.replay.Goals as goal

pub returns-then-input-gt-LIMIT : goal.returns-then-input-gt-LIMIT
returns-then-input-gt-LIMIT c = IfOk-weaker _ _ _ (λ out printed. subst (Replayed c.args.input.now) (sym printed) (too_long c.if-input-gt-LIMIT.true)) c.into_bytes.ensures

pub returns : goal.returns
returns c = IfOk-weaker _ _ _ (λ out answered. in_limit c.if-input-gt-LIMIT.false (vec_items out) answered) c.answer.ensures
