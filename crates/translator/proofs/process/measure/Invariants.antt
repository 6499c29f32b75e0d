-- What was counted and what is left make up all.
use Rattle.std.proofs.Common.{◌≡◌, ◌+◌, length}
use Rattle.translator.specs.States.{groups_of, groups_left}
use Rattle.translator.specs.Writing.{processes_size}
use Rattle.translator.proofs.Groups.{lines_in}
use Rattle.translator.proofs.process.measure.Given as goal

abbrev pub invariant-loop-states : goal.invariant-loop-states
invariant-loop-states l =
    let rows = l.sheet.lines.rows.now in
    (l.count + length (groups_left l.states-iterator) ≡ length (groups_of l.sheet.lines))
    × (l.size + processes_size (lines_in rows (groups_left l.states-iterator)) ≡ processes_size (lines_in rows (groups_of l.sheet.lines)))
