-- A statement is taken apart, then its parts are read one level less deep; and the size of the statements so far with those that are left.
use Rattle.std.proofs.Common.{◌≡◌, ◌+◌, ◌*◌, ◌≤◌, map}
use Rattle.text.specs.Items.{starts_left}
use Rattle.language.specs.OnSheet.{act_at, acts_in, sequence}
use Rattle.language.specs.Sizes.{act_size, capped}
use Rattle.measure.proofs.size.+act_size_act_view_size_acts_size.Given as goal

abbrev pub decreases-act_size : goal.decreases-act_size
decreases-act_size l = 3 * l.left

abbrev pub decreases-acts_size : goal.decreases-acts_size
decreases-acts_size l = 3 * l.left + 1

abbrev pub decreases-act_view_size : goal.decreases-act_view_size
decreases-act_view_size l = 3 * l.left + 2

abbrev pub invariant-acts_size-loop-at : goal.invariant-acts_size-loop-at
invariant-acts_size-loop-at l =
    (l.size ≤ 4097)
    × (capped (l.size + act_size (sequence (map (act_at l.left l.acts.rows.now) (starts_left l.at-iterator))))
    ≡ capped (act_size (acts_in (act_at l.left l.acts.rows.now) l.acts)))
