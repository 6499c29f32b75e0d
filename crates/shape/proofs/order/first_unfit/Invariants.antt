-- The first unfit line of those that are left is the first of all.
use Rattle.std.proofs.Common.{◌≡◌, ◌+◌, ◌<◌, ◌^◌, [], map, suc, length}
use Rattle.text.specs.Items.{starts_left, forms_of}
use Rattle.language.specs.Causes.{first_unfit}
use Rattle.shape.proofs.Ordering.{unfit_from, sort_at}
use Rattle.shape.proofs.order.first_unfit.Given as goal

abbrev pub invariant-loop-i : goal.invariant-loop-i
invariant-loop-i l = record {
  few : l.i + length (starts_left l.at-iterator) < 2 ^ 64;
  left : unfit_from (suc l.i) l.latest (map (sort_at l.lines.rows.now) (starts_left l.at-iterator)) ≡ first_unfit (forms_of l.lines) [];
}
