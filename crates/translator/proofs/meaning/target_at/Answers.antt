use Rattle.std.proofs.Common.{◌≡◌, rules}
use Rattle.language.specs.Basics.{otherwise}
use Rattle.language.specs.OnSheet.{word_at}
use Rattle.language.specs.Pushes.{target_instr}
use Rattle.language.specs.Resolve.{target}
use Rattle.language.specs.declared.names.Target.TheVariants.{Cell as CellTarget}
use Rattle.translator.specs.Writing.{names_at}
use Rattle.translator.proofs.Bounds.{instr_below}
use Rattle.translator.proofs.meaning.target_at.Goals as goal

pub returns : goal.returns
returns c =
    let lines = c.args.sheet.lines in
    let w = word_at lines.rows.now c.args.at in
    let e : c.map_or.result ≡ target_instr (otherwise (CellTarget 0) (target (names_at c.args.sheet) w)) = search rules in
    record { is = e; below = rw e (instr_below lines.rows.now lines.first lines.count w) }
