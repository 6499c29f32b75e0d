-- The bodies of the states that were passed are put.
use Rattle.std.proofs.Common.{◌≡◌, ◌+◌, length, map}
use Rattle.text.specs.Items.{starts_left}
use Rattle.language.specs.OnSheet.{line_at}
use Rattle.translator.specs.Writing.{names_at, states_on}
use Rattle.translator.proofs.Going.{StatesGoing}
use Rattle.translator.proofs.process.emit_states.Given as goal

abbrev pub invariant-loop-here : goal.invariant-loop-here
invariant-loop-here l =
    (l.here + length (starts_left l.at-iterator) ≡ l.states.count)
    × StatesGoing (names_at l.sheet) l.own (states_on l.sheet l.states) (map (line_at l.sheet.lines.rows.now) (starts_left l.at-iterator)) l.here l.p l.next l.most l.initial.code
    l.code
