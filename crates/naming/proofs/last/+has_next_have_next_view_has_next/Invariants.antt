-- A statement is taken apart, then its parts are read one level less deep; of so many, none so far has a `next`.
use Rattle.std.proofs.Common.{◌≡◌, ◌+◌, ◌*◌, map}
use Rattle.text.specs.Items.{starts_left}
use Rattle.language.specs.OnSheet.{act_at, acts_in, sequence}
use Rattle.language.specs.Resolve.{has_next}
use Rattle.naming.proofs.last.+has_next_have_next_view_has_next.Given as goal

abbrev pub decreases-has_next : goal.decreases-has_next
decreases-has_next l = 3 * l.left

abbrev pub decreases-have_next : goal.decreases-have_next
decreases-have_next l = 3 * l.left + 1

abbrev pub decreases-view_has_next : goal.decreases-view_has_next
decreases-view_has_next l = 3 * l.left + 2

abbrev pub invariant-have_next-loop-at : goal.invariant-have_next-loop-at
invariant-have_next-loop-at l =
    has_next (sequence (map (act_at l.left l.acts.rows.now) (starts_left l.at-iterator)))
    ≡ has_next (acts_in (act_at l.left l.acts.rows.now) l.acts)
