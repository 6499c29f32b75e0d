use Rattle.std.proofs.Common.{◌≡◌, ℕ, ap, ◌∙◌, Ok, Err, sym, arith, rules}
use Rattle.bodies.specs.Memory.{meaning}
use Rattle.bodies.specs.Sweep.{sweep}
use Rattle.bodies.proofs.Sweeps.{sweep_again, sweep_told, placed, placed_ok}
use Rattle.bodies.proofs.running.Running.sweep.Goals as goal

pub returns-in_err-steps-clause-result : goal.returns-in_err-steps-clause-result
returns-in_err-steps-clause-result g c =
    let k = g.K.Kind.ops in
    let m = meaning k c.loop-q.self in
    let m₁ = meaning k c.visit.new.self in
    let r : c.map_err.result ≡ placed c.loop-q.q c.state-state.result c.visit.result = search rules in
    let z : c.from_residual.result ≡ Err c.in_err-steps.field-0.0 = search rules in
    rw z
    (sweep_told k c.args.seen.now c.args.code.now c.count_at-q-end.result c.loop-q.q c.loop-q.steps c.state-state.result c.visit.result c.in_err-steps.field-0.0 m m₁ (omega arith) c.state-state.ensures (sym r ∙ c.in_err-steps.was) c.visit.ensures.result
    ∙ c.loop-q.invariant.0
    ∙ ap (λ (n : ℕ). sweep k c.args.seen.now c.args.code.now n 0 0 (meaning k c.args.self.now)) c.count_at-q-end.ensures)

pub loop-q-preserved : goal.loop-q-preserved
loop-q-preserved g c =
    let k = g.K.Kind.ops in
    let n = c.in_ok-steps.field-0 in
    let m = meaning k c.loop-q.self in
    let m₁ = meaning k c.visit.new.self in
    let r : c.map_err.result ≡ placed c.loop-q.q c.state-state.result c.visit.result = search rules in
    let is : c.visit.result ≡ Ok n = placed_ok c.loop-q.q c.state-state.result n c.visit.result (sym r ∙ c.in_ok-steps.was) in
    let v = rw is at c.visit.ensures.result in
    let few = rw is at c.visit.ensures.few in
    let kept = rw is at c.visit.ensures.kept in
    (sweep_again k c.args.seen.now c.args.code.now c.count_at-q-end.result c.loop-q.q c.loop-q.steps n m m₁ (omega arith) v ∙ c.loop-q.invariant.0, kept ∙ c.loop-q.invariant.1, omega (arith, few))
