-- Only a timeout may be out of range.
use Rattle.std.proofs.Common.{◌∙◌}
use Rattle.language.specs.OnSheet.{term_at, act_at, act_view}
use Rattle.limits.proofs.Ranges.{timely_other, same_some}
use Rattle.limits.proofs.range.is_timely.Goals as goal

pub returns-in_default-view : goal.returns-in_default-view
returns-in_default-view c =
    let rows = c.args.rows.now in
    timely_other rows (term_at 11 rows) (act_at 11 rows) (act_view rows c.args.at) (λ n s e. c.in_default-view.not-After n s (same_some (c.in-Some.ensures ∙ e)))
