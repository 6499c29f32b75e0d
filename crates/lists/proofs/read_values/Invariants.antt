-- The values so far are passed.
use Rattle.std.proofs.Common.{length, vec_items}
use Rattle.lists.specs.Steps.{Passed}
use Rattle.lists.proofs.read_values.Given as goal

abbrev pub invariant-loop-item : goal.invariant-loop-item
invariant-loop-item l = Passed l.text l.left (vec_items l.initial.values) (vec_items l.values)

abbrev pub decreases-loop-item : goal.decreases-loop-item
decreases-loop-item l = length l.left
