-- The walk along the lines, with the counts over those that were passed.
use Rattle.limits.proofs.Progress.{Progress}
use Rattle.limits.proofs.past.first_past.Given as goal

abbrev pub invariant-loop-at : goal.invariant-loop-at
invariant-loop-at l = Progress l.lines l.left l.tally

abbrev pub decreases-loop-at : goal.decreases-loop-at
decreases-loop-at l = l.left.count
