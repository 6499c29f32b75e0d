use Rattle.std.proofs.Common.{◌^◌, ◌<◌, pos, sym, ap, ◌∙◌, arith, w32}
use mir.Facts.{to_z_pos}
use Rattle.language.specs.OnSheet.{lines_of}
use Rattle.translator.proofs.Heads.{declared_count}
use Rattle.translator.proofs.front.names_word.Goals as goal

pub returns : goal.returns
returns c =
    let h = declared_count c.args.opener (lines_of c.args.sheet.lines) c.requires.named in
    let k : c.count_lines.result < 2 ^ 31 = omega arith in
    to_z_pos w32 k ∙ ap pos (c.count_lines.ensures.is ∙ sym h)
