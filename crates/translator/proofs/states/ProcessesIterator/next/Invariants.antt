-- No process was passed.
use Rattle.std.proofs.Common.{◌≡◌}
use Rattle.translator.specs.States.{groups_left}
use Rattle.translator.proofs.states.ProcessesIterator.next.Given as goal

abbrev pub invariant-loop-at : goal.invariant-loop-at
invariant-loop-at l = groups_left l.self ≡ groups_left l.initial.self

abbrev pub decreases-loop-at : goal.decreases-loop-at
decreases-loop-at l = l.self.left.count
