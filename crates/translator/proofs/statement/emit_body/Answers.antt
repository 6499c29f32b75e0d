use Rattle.std.proofs.Common.{sym, ap, rules}
use Rattle.language.specs.Sizes.{act_size}
use Rattle.translator.proofs.Sorted.{body_acts, no_body}
use Rattle.translator.proofs.statement.emit_body.Goals as goal

pub returns-then-not-is_line : goal.returns-then-not-is_line
returns-then-not-is_line c = let h = no_body c.args.site.sheet.lines.rows.now c.args.at (sym c.if-not-is_line.ensures) in rw h (search rules)

pub emit_acts-requires : goal.emit_acts-requires
emit_acts-requires c =
    let h = ap act_size (body_acts c.args.site.sheet.lines.rows.now c.args.at _ _ _ _ c.if-not-is_line.ensures c.third_row-from.ensures c.count_at.ensures c.saturating_sub-count.ensures c.deepest.ensures) in
    search rules

pub returns : goal.returns
returns c =
    let h = body_acts c.args.site.sheet.lines.rows.now c.args.at _ _ _ _ c.if-not-is_line.ensures c.third_row-from.ensures c.count_at.ensures c.saturating_sub-count.ensures c.deepest.ensures in
    rw h c.emit_acts.ensures
