-- The words of one process more, and of all.
use Rattle.std.proofs.Common.{refl, ap, arith}
use Rattle.translator.proofs.Fronts.{fronts_from, fronts_more, fronts_room}
use Rattle.translator.proofs.Groups.{lines_in, processes_are}
use Rattle.translator.proofs.front.write_processes.Goals as goal

pub loop-states-init : goal.loop-states-init
loop-states-init c =
    let lines = c.args.sheet.lines in
    rw (c.into_iter-states-iterator.ensures.into_iter_gives, c.processes-states-items.ensures.left, processes_are lines.rows.now lines.first lines.count) (fronts_from _ _)

pub write_process-requires : goal.write_process-requires
write_process-requires c =
    let e = ap (lines_in c.args.sheet.lines.rows.now) c.in-Some.ensures.steps in
    let k = fronts_room _ _ _ _ _ _ _ _ c.loop-states.invariant e c.requires.small c.requires.room c.loop-states.auto.code in
    record { small = k.0; room = k.1 }

pub size_states-p-requires : goal.size_states-p-requires
size_states-p-requires c =
    let e = ap (lines_in c.args.sheet.lines.rows.now) c.in-Some.ensures.steps in
    let k = fronts_room _ _ _ _ _ _ _ _ c.loop-states.invariant e c.requires.small c.requires.room c.loop-states.auto.code in
    record { small = omega arith }

pub loop-states-preserved : goal.loop-states-preserved
loop-states-preserved c =
    let e = ap (lines_in c.args.sheet.lines.rows.now) c.in-Some.ensures.steps in
    rw c.size_states-p.ensures (fronts_more _ _ _ _ _ _ _ _ _ _ _ c.loop-states.invariant e refl refl c.write_process.ensures)

pub returns : goal.returns
returns c =
    let k = rw (ap (lines_in c.args.sheet.lines.rows.now) c.in-None.ensures.steps.0) at c.loop-states.invariant in
    k.wrote
