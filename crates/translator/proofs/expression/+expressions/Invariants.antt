use Rattle.std.proofs.Common.{◌+◌, ◌*◌}
use Rattle.translator.proofs.expression.+expressions.Given as goal

abbrev pub decreases-emit_and : goal.decreases-emit_and
decreases-emit_and l = 3 * l.left + 1

abbrev pub decreases-emit_or : goal.decreases-emit_or
decreases-emit_or l = 3 * l.left + 1

abbrev pub decreases-emit_term : goal.decreases-emit_term
decreases-emit_term l = 3 * l.left

abbrev pub decreases-emit_view : goal.decreases-emit_view
decreases-emit_view l = 3 * l.left + 2
