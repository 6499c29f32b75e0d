-- All the lines are left at first.
use Rattle.std.proofs.Common.{None, map, ap, ◌∙◌, arith}
use Rattle.shape.proofs.Ordering.{unfit_from, sort_at, unfit_lines}
use Rattle.shape.proofs.order.first_unfit.Goals as goal

pub loop-i-init : goal.loop-i-init
loop-i-init c = record {
  few = omega (arith, c.iter-at-items.ensures.few);
  left = ap (λ qs. unfit_from 1 None (map (sort_at c.args.lines.rows.now) qs)) c.iter-at-items.ensures.rows ∙ unfit_lines c.args.lines.rows.now c.args.lines.first c.args.lines.count;
}
