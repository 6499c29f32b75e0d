-- A state more, and all.
use Rattle.std.proofs.Common.{map, ap, arith, rules}
use Rattle.language.specs.OnSheet.{line_at}
use Rattle.translator.specs.Writing.{states_size}
use Rattle.translator.proofs.process.size_states.Goals as goal

pub loop-at-init : goal.loop-at-init
loop-at-init c =
    let e = ap (λ ats. states_size (map (line_at c.args.sheet.lines.rows.now) ats)) c.items.ensures.starts in
    search rules

pub overflow_add-size-in-loop-at : goal.overflow_add-size-in-loop-at
overflow_add-size-in-loop-at c =
    let e = ap (λ ats. states_size (map (line_at c.args.sheet.lines.rows.now) ats)) c.in-Some.ensures.steps in
    record { fits = omega arith }

pub loop-at-preserved : goal.loop-at-preserved
loop-at-preserved c =
    let e = ap (λ ats. states_size (map (line_at c.args.sheet.lines.rows.now) ats)) c.in-Some.ensures.steps in
    omega arith

pub returns : goal.returns
returns c =
    let e = ap (λ ats. states_size (map (line_at c.args.sheet.lines.rows.now) ats)) c.in-None.ensures.steps.0 in
    omega arith
