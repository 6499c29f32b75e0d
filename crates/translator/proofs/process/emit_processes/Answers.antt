-- One process more, and all.
use Rattle.std.proofs.Common.{length, ap, zero-add, arith, rules}
use Rattle.translator.specs.Writing.{processes_size}
use Rattle.translator.proofs.Going.{processes_from, processes_more}
use Rattle.translator.proofs.Groups.{lines_in, processes_are, groups_few}
use Rattle.translator.proofs.process.emit_processes.Goals as goal

pub loop-own-init : goal.loop-own-init
loop-own-init c =
    let lines = c.args.sheet.lines in
    let begun = c.into_iter-own-iterator.ensures.into_iter_gives in
    let source = c.enumerate-own-items.ensures.source in
    let count = c.enumerate-own-items.ensures.count in
    let left = c.processes.ensures.left in
    (rw (begun, source, count, left) (zero-add _), rw (begun, source, count, left, processes_are lines.rows.now lines.first lines.count) (processes_from _ _ _))

pub emit_states-behind-requires : goal.emit_states-behind-requires
emit_states-behind-requires c =
    let lines = c.args.sheet.lines in
    let few = groups_few lines.rows.now lines.first lines.count in
    let n = ap length c.in-Some.ensures.steps.0 in
    let m = c.loop-own.invariant.0 in
    let own = c.in-Some.ensures.steps.1 in
    let most = c.args.sheet.few in
    let h = ap (λ gs. processes_size (lines_in lines.rows.now gs)) c.in-Some.ensures.steps.0 in
    let k = c.loop-own.invariant.1.ended in
    record { few = omega arith; short = search rules; room = search rules }

pub overflow_add-total : goal.overflow_add-total
overflow_add-total c =
    let h = ap (λ gs. processes_size (lines_in c.args.sheet.lines.rows.now gs)) c.in-Some.ensures.steps.0 in
    let k = c.loop-own.invariant.1.within in
    search rules

pub loop-own-preserved : goal.loop-own-preserved
loop-own-preserved c =
    let n = ap length c.in-Some.ensures.steps.0 in
    let m = c.loop-own.invariant.0 in
    let own = c.in-Some.ensures.steps.1 in
    let next = c.in-Some.ensures.steps.2 in
    let h = ap (lines_in c.args.sheet.lines.rows.now) c.in-Some.ensures.steps.0 in
    (omega arith, rw next (processes_more _ _ _ _ _ _ _ _ _ _ _ c.emit_states-behind.result c.loop-own.invariant.1 h (rw own at c.emit_states-behind.ensures)))

pub returns : goal.returns
returns c =
    let e = ap (lines_in c.args.sheet.lines.rows.now) c.in-None.ensures.steps.0.0 in
    let k = rw e at c.loop-own.invariant.1 in
    let b = k.bound_left in
    record { bound = omega arith; wrote = k.wrote }
