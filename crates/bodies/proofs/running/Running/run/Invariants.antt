use Rattle.std.proofs.Common.{◌≡◌, ◌+◌, ◌*◌, ◌≤◌, length}
use Rattle.bodies.specs.Body.{run}
use Rattle.bodies.specs.Memory.{meaning, Sound}
use Rattle.bodies.proofs.running.Running.run.Given as goal

abbrev pub invariant-loop-left : goal.invariant-loop-left
invariant-loop-left g l =
    (run g.K.Kind.ops l.turn.seen.now l.turn.process l.i l.left 0 l.steps (meaning g.K.Kind.ops l.self)
    ≡ run g.K.Kind.ops l.turn.seen.now l.turn.process l.first l.words 0 0 (meaning g.K.Kind.ops l.initial.self))
    × Sound (length l.self.cells.now) l.i l.left
    × (length l.self.cells.now ≡ length l.initial.self.cells.now)
    × (l.i * 2 + length l.left ≤ 8192)
    × (l.steps * 2 + length l.left ≤ 8192)

abbrev pub decreases-loop-left : goal.decreases-loop-left
decreases-loop-left g l = length l.left
