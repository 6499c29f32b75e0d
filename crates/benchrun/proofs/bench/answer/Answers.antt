-- A sheet and a code of the right lengths are lent.
use Rattle.std.proofs.Common.{◌≡◌, length, vec_items, rules}
use Rattle.benchrun.specs.Bench.{sheet_rows, code_room}
use Rattle.benchrun.proofs.Outcomes.{at_lengths}
use Rattle.benchrun.proofs.bench.answer.Goals as goal

pub returns : goal.returns
returns c =
    let rows : length c.deref_mut.result.now ≡ sheet_rows = search rules in
    let room : length c.deref_mut-2.result.now ≡ code_room = search rules in
    at_lengths vec_items c.args.text.now c.args.tape.now c.run_text.result rows room c.run_text.ensures
