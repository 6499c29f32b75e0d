-- The words of the processes that were passed are written.
use Rattle.language.specs.Lines.{processes}
use Rattle.language.specs.OnSheet.{lines_of}
use Rattle.translator.specs.States.{groups_left}
use Rattle.translator.proofs.Fronts.{FrontsGoing}
use Rattle.translator.proofs.Groups.{lines_in}
use Rattle.translator.proofs.front.write_processes.Given as goal

abbrev pub invariant-loop-states : goal.invariant-loop-states
invariant-loop-states l =
    FrontsGoing (processes (lines_of l.sheet.lines)) (lines_in l.sheet.lines.rows.now (groups_left l.states-iterator)) l.p l.w l.initial.code l.code
