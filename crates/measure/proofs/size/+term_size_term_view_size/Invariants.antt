-- An expression is taken apart, and then its parts are read one level less deep.
use Rattle.std.proofs.Common.{◌+◌, ◌*◌}
use Rattle.measure.proofs.size.+term_size_term_view_size.Given as goal

abbrev pub decreases-term_size : goal.decreases-term_size
decreases-term_size l = 2 * l.left

abbrev pub decreases-term_view_size : goal.decreases-term_view_size
decreases-term_view_size l = 2 * l.left + 1
