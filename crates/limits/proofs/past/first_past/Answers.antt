-- A line past a limit, and one within.
use Rattle.limits.proofs.Progress.{begins, stops, goes_on}
use Rattle.limits.proofs.past.first_past.Goals as goal

pub loop-at-init : goal.loop-at-init
loop-at-init c = begins c.args.lines c.new-tally.result c.new-tally.ensures

pub returns-then-is_past_limit : goal.returns-then-is_past_limit
returns-then-is_past_limit c =
    stops c.loop-at.invariant c.in-Some.at c.in-Some.behind c.in-Some.ensures.starts c.in-Some.ensures.rows c.in-Some.ensures.count c.with_line-with.result c.with_line-with.ensures c.if-is_past_limit.ensures

pub loop-at-preserved : goal.loop-at-preserved
loop-at-preserved c =
    goes_on c.loop-at.invariant c.in-Some.at c.in-Some.behind c.in-Some.ensures.starts c.in-Some.ensures.rows c.in-Some.ensures.count c.with_line-with.result c.with_line-with.ensures c.if-is_past_limit.ensures
