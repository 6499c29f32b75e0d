-- The entries of the states that were passed are written.
use Rattle.std.proofs.Common.{map}
use Rattle.text.specs.Items.{starts_left}
use Rattle.language.specs.OnSheet.{line_at}
use Rattle.translator.specs.Writing.{states_on}
use Rattle.translator.proofs.Fronts.{EntriesGoing}
use Rattle.translator.proofs.front.write_entries.Given as goal

abbrev pub invariant-loop-i : goal.invariant-loop-i
invariant-loop-i l = EntriesGoing (states_on l.sheet l.fn.states) (map (line_at l.sheet.lines.rows.now) (starts_left l.left)) l.w l.i l.p l.place l.initial.code l.code
