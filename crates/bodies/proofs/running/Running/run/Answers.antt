use Rattle.std.proofs.Common.{◌≡◌, ◌-◌, ◌*◌, length, get_or, drop, pos, ◌∙◌, arith, length-drop, rules}
use Rattle.std.proofs.lemmas.List.{take_rest}
use Rattle.flat.specs.Instructions.{decoded}
use Rattle.bodies.specs.Machine.{skip, step}
use Rattle.bodies.specs.Memory.{meaning}
use Rattle.bodies.proofs.Bodies.{turn_again, turn_short}
use Rattle.bodies.proofs.running.Running.run.Goals as goal

pub loop-left-preserved : goal.loop-left-preserved
loop-left-preserved g c =
    let k = g.K.Kind.ops in
    let left = c.loop-left.left.now in
    let n = c.in-Some.n in
    let m = meaning k c.loop-left.self in
    let m₁ = meaning k c.step.new.self in
    let is : c.decode.result ≡ decoded (get_or left 0 (pos 0)) (get_or left 1 (pos 0)) = search rules in
    let on : skip n m₁ ≡ step k c.args.turn.seen.now c.args.turn.process c.loop-left.i c.decode.result m = search rules in
    let short = turn_short k c.args.turn.seen.now c.args.turn.process (length m.cells) c.loop-left.i left m c.decode.result c.in-len2-up.len_at_least is c.loop-left.invariant.1 (skip n m₁) on in
    let both = turn_again k c.args.turn.seen.now c.args.turn.process (length m.cells) c.loop-left.i left m c.decode.result c.in-len2-up.len_at_least is c.loop-left.invariant.1 c.loop-left.steps n m₁ on in
    let size : length (drop 2 left) ≡ length left - 2 = length-drop 2 left in
    let rest : length (drop (2 * n) (drop 2 left)) ≡ length (drop 2 left) - 2 * n = length-drop (2 * n) (drop 2 left) in
    simp take_rest (both.0 ∙ c.loop-left.invariant.0, rw short.1 both.1, short.1 ∙ c.loop-left.invariant.2, omega arith, omega arith)
