-- A statement, one level less deep; one statement more of so many.
use Rattle.std.proofs.Common.{ap, map, rules}
use Rattle.language.specs.OnSheet.{act_at, sequence}
use Rattle.language.specs.Resolve.{has_next}
use Rattle.language.proofs.Depth.{act_at_more}
use Rattle.naming.proofs.last.+has_next_have_next_view_has_next.Goals as goal

pub has_next-returns-in-Some : goal.has_next-returns-in-Some
has_next-returns-in-Some t c =
    let e = act_at_more c.args.left c.args.rows.now c.args.at c.if-left-eq0.false in
    search rules

pub has_next-returns-in-None : goal.has_next-returns-in-None
has_next-returns-in-None t c =
    let e = act_at_more c.args.left c.args.rows.now c.args.at c.if-left-eq0.false in
    search rules

pub have_next-returns-then-has_next : goal.have_next-returns-then-has_next
have_next-returns-then-has_next t c =
    let e = ap (λ ats. has_next (sequence (map (act_at c.args.left c.args.acts.rows.now) ats))) c.in-Some.ensures.steps in
    search rules

pub have_next-loop-at-preserved : goal.have_next-loop-at-preserved
have_next-loop-at-preserved t c =
    let e = ap (λ ats. has_next (sequence (map (act_at c.args.left c.args.acts.rows.now) ats))) c.in-Some.ensures.steps in
    search rules
