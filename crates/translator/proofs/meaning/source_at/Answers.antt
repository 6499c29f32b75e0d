use Rattle.std.proofs.Common.{◌≡◌, pos, rules}
use Rattle.language.specs.Basics.{otherwise}
use Rattle.language.specs.OnSheet.{word_at}
use Rattle.language.specs.Pushes.{thing_source}
use Rattle.language.specs.Resolve.{thing}
use Rattle.language.specs.declared.names.Thing.TheVariants.{Constant}
use Rattle.translator.specs.Writing.{names_at}
use Rattle.translator.proofs.Bounds.{source_below}
use Rattle.translator.proofs.meaning.source_at.Goals as goal

pub returns : goal.returns
returns c =
    let lines = c.args.sheet.lines in
    let w = word_at lines.rows.now c.args.at in
    let e : c.map_or.result ≡ thing_source (otherwise (Constant (pos 0)) (thing (names_at c.args.sheet) w)) = search rules in
    record { is = e; below = rw e (source_below lines.rows.now lines.first lines.count w) }
