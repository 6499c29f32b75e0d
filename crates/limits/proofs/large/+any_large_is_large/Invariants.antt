-- A form's items are read one level less deep; those that are left have a large number exactly if all have.
use Rattle.std.proofs.Common.{◌≡◌, ◌+◌, ◌*◌, map}
use Rattle.text.specs.Form.{pack}
use Rattle.text.specs.Items.{starts_left, forms_in}
use Rattle.text.specs.Sheet.{form_at}
use Rattle.language.specs.Causes.{any_large}
use Rattle.limits.proofs.large.+any_large_is_large.Given as goal

abbrev pub decreases-is_large : goal.decreases-is_large
decreases-is_large l = 2 * l.left

abbrev pub decreases-any_large : goal.decreases-any_large
decreases-any_large l = 2 * l.left + 1

abbrev pub invariant-any_large-loop-at : goal.invariant-any_large-loop-at
invariant-any_large-loop-at l =
    any_large (pack (map (form_at l.left l.items.rows.now) (starts_left l.at-iterator))) ≡ any_large (forms_in (form_at l.left l.items.rows.now) l.items)
