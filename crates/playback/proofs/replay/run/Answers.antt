-- The code is not of the layout, or the rows are not whole, or the run is played by the code's kind.
use Rattle.std.proofs.Common.{map, vec_items, refl, ap}
use Rattle.std.proofs.lemmas.Result.{err_from_is_err_and}
use Rattle.flat.specs.declared.kind.CellKind.TheVariants.{Long, Milli}
use Rattle.playback.proofs.Runs.{kind_is, not_mounted, ran_long, ran_milli, rows_unplayed, some_kind}
use Rattle.playback.proofs.Turns.{holds_same}
use Rattle.playback.proofs.replay.run.Goals as goal

pub returns-in_err-mounted : goal.returns-in_err-mounted
returns-in_err-mounted c =
    let p = err_from_is_err_and c.from_residual.result c.from_residual.ensures.1 in
    rw (p.1, p.2) (not_mounted c.args.code.now c.args.text.now c.in_err-mounted.field-0.0 c.in_err-mounted.ensures)

pub returns-in_err-rows : goal.returns-in_err-rows
returns-in_err-rows c =
    let p = err_from_is_err_and c.from_residual-in_err-rows.result c.from_residual-in_err-rows.ensures.1 in
    let holds = holds_same _ _ _ _ refl c.head-head.ensures c.in_ok-mounted.ensures.1 in
    rw (p.1, p.2) (rows_unplayed c.args.code.now c.args.text.now c.head-head.result c.in_err-rows.field-0.0 holds c.in_err-rows.ensures)

pub unreachable-requires : goal.unreachable-requires
unreachable-requires c =
    let holds = holds_same _ _ _ _ refl c.head-head.ensures c.in_ok-mounted.ensures.1 in
    some_kind c.args.code.now c.head-head.result holds c.in-Err.field-0 c.in-Err.ensures

pub returns-in-Ok-Long : goal.returns-in-Ok-Long
returns-in-Ok-Long c =
    let holds = holds_same _ _ _ _ refl c.head-head.ensures c.in_ok-mounted.ensures.1 in
    let kind = kind_is c.args.code.now c.head-head.result holds Long (rw c.in-Ok-Long.field-0-is at c.in-Ok-Long.ensures) in
    ran_long _ _ _ _ _ _ _ holds c.in_ok-mounted.ensures.0 (ap (map vec_items) c.deref.ensures.value) c.in_ok-rows.ensures kind c.in_ok-play-in-Ok-Long.ensures

pub returns-in-Ok-Milli : goal.returns-in-Ok-Milli
returns-in-Ok-Milli c =
    let holds = holds_same _ _ _ _ refl c.head-head.ensures c.in_ok-mounted.ensures.1 in
    let kind = kind_is c.args.code.now c.head-head.result holds Milli (rw c.in-Ok-Milli.field-0-is at c.in-Ok-Milli.ensures) in
    ran_milli _ _ _ _ _ _ _ holds c.in_ok-mounted.ensures.0 (ap (map vec_items) c.deref-in-Ok-Milli.ensures.value) c.in_ok-rows.ensures kind c.in_ok-play-in-Ok-Milli.ensures
