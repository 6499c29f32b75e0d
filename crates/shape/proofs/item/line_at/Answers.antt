-- A line is what its items make of the pattern of all lines.
use Rattle.std.proofs.Common.{◌≡◌, Some, None, ap, ◌∙◌, sym, rules}
use Rattle.language.specs.Basics.{and_then}
use Rattle.shape.specs.Sorts.{as_line}
use Rattle.shape.proofs.Walking.{line_of_whole}
use Rattle.shape.proofs.item.line_at.Goals as goal

pub returns-in_err-whole : goal.returns-in_err-whole
returns-in_err-whole c =
    let n : c.whole.result ≡ None = search rules in
    let r : c.from_residual.result ≡ None = search rules in
    r ∙ ap (λ o. and_then o as_line) (sym n) ∙ line_of_whole 12 c.args.rows.now c.args.at _ _ _ _ _ c.in-Items.ensures c.inner_row-first.ensures c.line_start.ensures c.whole.ensures

pub returns : goal.returns
returns c =
    let n : c.whole.result ≡ Some c.in_ok-whole.field-0 = search rules in
    c.as_line.ensures ∙ ap (λ o. and_then o as_line) (sym n) ∙ line_of_whole 12 c.args.rows.now c.args.at _ _ _ _ _ c.in-Items.ensures c.inner_row-first.ensures c.line_start.ensures c.whole.ensures
