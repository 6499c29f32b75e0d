use Rattle.std.proofs.Common.{map, ap, arith, rules}
use Rattle.language.specs.Sizes.{act_size}
use Rattle.language.specs.OnSheet.{act_at, sequence}
use Rattle.translator.proofs.Steps.{act_step}
use Rattle.translator.proofs.Going.{going_from, going_more, going_all}
use Rattle.translator.proofs.statement.+statements.Goals as goal

pub emit_act-emit_parts-requires : goal.emit_act-emit_parts-requires
emit_act-emit_parts-requires t c =
    let h = ap act_size (act_step c.args.left c.args.site.sheet.lines.rows.now c.args.at c.in-Some.view c.if-left-eq0.false c.in-Some.ensures) in
    search rules

pub emit_act-returns-in-Some : goal.emit_act-returns-in-Some
emit_act-returns-in-Some t c =
    let h = act_step c.args.left c.args.site.sheet.lines.rows.now c.args.at c.in-Some.view c.if-left-eq0.false c.in-Some.ensures in
    rw h c.emit_parts.ensures

pub emit_acts-emit_act-behind-requires : goal.emit_acts-emit_act-behind-requires
emit_acts-emit_act-behind-requires t c =
    let h = ap (λ ats. act_size (sequence (map (act_at c.args.left c.args.site.sheet.lines.rows.now) ats))) c.in-Some.ensures.steps in
    search rules

pub emit_acts-overflow_add-most : goal.emit_acts-overflow_add-most
emit_acts-overflow_add-most t c =
    let h = ap (λ ats. act_size (sequence (map (act_at c.args.left c.args.site.sheet.lines.rows.now) ats))) c.in-Some.ensures.steps in
    search rules

pub emit_acts-loop-at-init : goal.emit_acts-loop-at-init
emit_acts-loop-at-init t c = rw (c.into_iter-at-iterator.ensures.into_iter_gives, c.iter-at-items.ensures.rows) (going_from _ _ _ _ _)

pub emit_acts-loop-at-preserved : goal.emit_acts-loop-at-preserved
emit_acts-loop-at-preserved t c =
    let h = ap (λ ats. sequence (map (act_at c.args.left c.args.site.sheet.lines.rows.now) ats)) c.in-Some.ensures.steps in
    going_more _ _ _ _ _ _ _ _ _ _ _ _ c.emit_act-behind.result c.loop-at.invariant h c.emit_act-behind.ensures

pub emit_acts-returns : goal.emit_acts-returns
emit_acts-returns t c =
    let h = ap (λ ats. sequence (map (act_at c.args.left c.args.site.sheet.lines.rows.now) ats)) c.in-None.ensures.steps.0 in
    going_all _ _ _ _ _ _ _ _ _ c.loop-at.invariant h

pub emit_parts-put-requires : goal.emit_parts-put-requires
emit_parts-put-requires t c = record { room = search rules; few = omega arith }
