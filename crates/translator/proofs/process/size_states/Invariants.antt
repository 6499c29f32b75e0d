-- What was counted and what is left make up all.
use Rattle.std.proofs.Common.{◌≡◌, ◌+◌, map}
use Rattle.text.specs.Items.{starts_left}
use Rattle.language.specs.OnSheet.{line_at}
use Rattle.translator.specs.Writing.{states_on, states_size}
use Rattle.translator.proofs.process.size_states.Given as goal

abbrev pub invariant-loop-at : goal.invariant-loop-at
invariant-loop-at l = l.size + states_size (map (line_at l.sheet.lines.rows.now) (starts_left l.at-iterator)) ≡ states_size (states_on l.sheet l.fn.states)
