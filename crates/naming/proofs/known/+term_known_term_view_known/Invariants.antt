-- An expression is taken apart, and then its parts are read one level less deep.
use Rattle.std.proofs.Common.{◌+◌, ◌*◌}
use Rattle.naming.proofs.known.+term_known_term_view_known.Given as goal

abbrev pub decreases-term_known : goal.decreases-term_known
decreases-term_known l = 2 * l.left

abbrev pub decreases-term_view_known : goal.decreases-term_view_known
decreases-term_view_known l = 2 * l.left + 1
