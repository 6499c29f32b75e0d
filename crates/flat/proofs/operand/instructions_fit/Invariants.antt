use Rattle.std.proofs.Common.{◌≡◌, ◌+◌, ◌*◌, ◌≤◌, length}
use Rattle.flat.specs.Tests.{instructions_fit}
use Rattle.flat.proofs.operand.instructions_fit.Given as goal

abbrev pub invariant-loop-left : goal.invariant-loop-left
invariant-loop-left l =
    (instructions_fit l.head l.i l.left ≡ instructions_fit l.head 0 l.words)
    × (l.i * 2 + length l.left ≤ length l.words)

abbrev pub decreases-loop-left : goal.decreases-loop-left
decreases-loop-left l = length l.left
