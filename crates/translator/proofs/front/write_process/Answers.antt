-- How many states, and their entries.
use Rattle.std.proofs.Common.{◌^◌, ◌<◌, ◌∙◌, arith, w32}
use Rattle.std.proofs.lemmas.List.{length-map}
use mir.Facts.{to_z_pos}
use Rattle.text.proofs.Starts.{length-starts}
use Rattle.text.specs.Sheet.{starts}
use Rattle.language.specs.OnSheet.{line_at}
use Rattle.translator.specs.Writing.{states_on}
use Rattle.translator.proofs.Fronts.{entries_length}
use Rattle.translator.proofs.front.write_process.Goals as goal

pub returns : goal.returns
returns c =
    let states = c.args.states in
    let rows = c.args.sheet.lines.rows.now in
    let n =
    entries_length (states_on c.args.sheet states) c.args.p
    ∙ length-map (starts rows states.first states.count) (line_at rows)
    ∙ length-starts rows states.first states.count in
    let few = states.few in
    let k : states.count < 2 ^ 31 = omega arith in
    rw n (rw (to_z_pos w32 k) at c.write_entries.ensures)
