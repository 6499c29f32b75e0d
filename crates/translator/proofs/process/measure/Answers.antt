-- A process more, and all.
use Rattle.std.proofs.Common.{length, ap, arith}
use Rattle.translator.specs.Writing.{processes_size}
use Rattle.translator.proofs.Groups.{lines_in, processes_are, groups_few, length-lines_in}
use Rattle.translator.proofs.process.measure.Goals as goal

pub overflow_add-count : goal.overflow_add-count
overflow_add-count c =
    let lines = c.args.sheet.lines in
    let few = groups_few lines.rows.now lines.first lines.count in
    let e = ap length c.in-Some.ensures.steps in
    record { fits = omega arith }

pub size_states-size-requires : goal.size_states-size-requires
size_states-size-requires c =
    let lines = c.args.sheet.lines in
    let all = ap processes_size (processes_are lines.rows.now lines.first lines.count) in
    let e = ap (λ gs. processes_size (lines_in lines.rows.now gs)) c.in-Some.ensures.steps in
    record { small = omega arith }

pub overflow_add-size : goal.overflow_add-size
overflow_add-size c =
    let lines = c.args.sheet.lines in
    let all = ap processes_size (processes_are lines.rows.now lines.first lines.count) in
    let e = ap (λ gs. processes_size (lines_in lines.rows.now gs)) c.in-Some.ensures.steps in
    record { fits = omega arith }

pub loop-states-preserved : goal.loop-states-preserved
loop-states-preserved c =
    let rows = c.args.sheet.lines.rows.now in
    let e = ap length c.in-Some.ensures.steps in
    let f = ap (λ gs. processes_size (lines_in rows gs)) c.in-Some.ensures.steps in
    (omega arith, omega arith)

pub returns : goal.returns
returns c =
    let lines = c.args.sheet.lines in
    let all = processes_are lines.rows.now lines.first lines.count in
    let few = groups_few lines.rows.now lines.first lines.count in
    let n = length-lines_in lines.rows.now lines.first lines.count in
    let m = ap length all in
    let s = ap processes_size all in
    let e = ap length c.in-None.ensures.steps.0 in
    let f = ap (λ gs. processes_size (lines_in lines.rows.now gs)) c.in-None.ensures.steps.0 in
    record { count = omega arith; within = omega arith; size = omega arith }
