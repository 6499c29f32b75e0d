-- The depth that is left falls. The items that are left make of the pattern what the whole form is.
use Rattle.std.proofs.Common.{◌≡◌, ◌+◌, ◌*◌, map}
use Rattle.text.specs.Items.{starts_of, starts_left}
use Rattle.shape.specs.Sorts.{sort_in}
use Rattle.shape.specs.Patterns.{whole_of}
use Rattle.shape.proofs.item.+forms.Given as goal

abbrev pub decreases-sort_at : goal.decreases-sort_at
decreases-sort_at l = 2 * l.left

abbrev pub decreases-whole : goal.decreases-whole
decreases-whole l = 2 * l.left + 1

abbrev pub invariant-whole-loop-part : goal.invariant-whole-loop-part
invariant-whole-loop-part l =
    whole_of (map (sort_in l.left l.items.rows.now) (starts_left l.part-iterator)) l.awaited ≡ whole_of (map (sort_in l.left l.items.rows.now) (starts_of l.items)) l.fn.start
