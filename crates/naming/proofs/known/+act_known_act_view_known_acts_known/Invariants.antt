-- A statement is taken apart, then its parts are read one level less deep; of so many, all so far are known.
use Rattle.std.proofs.Common.{◌≡◌, ◌+◌, ◌*◌, map}
use Rattle.text.specs.Items.{starts_left}
use Rattle.language.specs.OnSheet.{act_at, acts_in, sequence}
use Rattle.naming.specs.Scopes.{known_in}
use Rattle.naming.proofs.known.+act_known_act_view_known_acts_known.Given as goal

abbrev pub decreases-act_known : goal.decreases-act_known
decreases-act_known l = 3 * l.left

abbrev pub decreases-acts_known : goal.decreases-acts_known
decreases-acts_known l = 3 * l.left + 1

abbrev pub decreases-act_view_known : goal.decreases-act_view_known
decreases-act_view_known l = 3 * l.left + 2

abbrev pub invariant-acts_known-loop-at : goal.invariant-acts_known-loop-at
invariant-acts_known-loop-at l =
    known_in l.scope (sequence (map (act_at l.left l.acts.rows.now) (starts_left l.at-iterator)))
    ≡ known_in l.scope (acts_in (act_at l.left l.acts.rows.now) l.acts)
