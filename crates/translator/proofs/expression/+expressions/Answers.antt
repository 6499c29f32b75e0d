use Rattle.std.proofs.Common.{ap, rules}
use Rattle.language.specs.Sizes.{term_size}
use Rattle.translator.proofs.Steps.{term_step}
use Rattle.translator.proofs.expression.+expressions.Goals as goal

pub emit_term-emit_view-requires : goal.emit_term-emit_view-requires
emit_term-emit_view-requires t c =
    let h = ap term_size (term_step c.args.left c.args.sheet.lines.rows.now c.args.at c.in-Some.view c.if-left-eq0.false c.in-Some.ensures) in
    search rules

pub emit_term-returns-in-Some : goal.emit_term-returns-in-Some
emit_term-returns-in-Some t c =
    let h = term_step c.args.left c.args.sheet.lines.rows.now c.args.at c.in-Some.view c.if-left-eq0.false c.in-Some.ensures in
    rw h c.emit_view.ensures
