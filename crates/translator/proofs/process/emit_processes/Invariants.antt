-- The bodies of the processes that were passed are put.
use Rattle.std.proofs.Common.{◌≡◌, ◌+◌, length}
use Rattle.std.specs.Iterator.Adapters.{enumerate_source, enumerate_count}
use Rattle.language.specs.Lines.{processes}
use Rattle.language.specs.OnSheet.{lines_of}
use Rattle.translator.specs.States.{groups_of, groups_left}
use Rattle.translator.specs.Writing.{names_at}
use Rattle.translator.proofs.Groups.{lines_in}
use Rattle.translator.proofs.Going.{ProcessesGoing}
use Rattle.translator.proofs.process.emit_processes.Given as goal

abbrev pub invariant-loop-own : goal.invariant-loop-own
invariant-loop-own l =
    let left = groups_left (enumerate_source l.own-iterator) in
    (enumerate_count l.own-iterator + length left ≡ length (groups_of l.sheet.lines))
    × ProcessesGoing (names_at l.sheet) (processes (lines_of l.sheet.lines)) (lines_in l.sheet.lines.rows.now left) (enumerate_count l.own-iterator) l.p l.total l.initial.code l.code
