-- A statement, one level less deep; one statement more of so many.
use Rattle.std.proofs.Common.{ap, map, rules}
use Rattle.language.specs.OnSheet.{act_at, sequence}
use Rattle.language.proofs.Depth.{act_at_more}
use Rattle.naming.specs.Scopes.{known_in}
use Rattle.naming.proofs.known.+act_known_act_view_known_acts_known.Goals as goal

pub act_known-returns-in-Some : goal.act_known-returns-in-Some
act_known-returns-in-Some t c =
    let e = act_at_more c.args.left c.args.rows.now c.args.at c.if-left-eq0.false in
    search rules

pub act_known-returns-in-None : goal.act_known-returns-in-None
act_known-returns-in-None t c =
    let e = act_at_more c.args.left c.args.rows.now c.args.at c.if-left-eq0.false in
    search rules

pub acts_known-returns-then-not-act_known : goal.acts_known-returns-then-not-act_known
acts_known-returns-then-not-act_known t c =
    let e = ap (λ ats. known_in c.args.scope (sequence (map (act_at c.args.left c.args.acts.rows.now) ats))) c.in-Some.ensures.steps in
    search rules

pub acts_known-loop-at-preserved : goal.acts_known-loop-at-preserved
acts_known-loop-at-preserved t c =
    let e = ap (λ ats. known_in c.args.scope (sequence (map (act_at c.args.left c.args.acts.rows.now) ats))) c.in-Some.ensures.steps in
    search rules
