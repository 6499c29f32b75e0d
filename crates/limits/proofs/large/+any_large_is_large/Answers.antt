-- A form by what its row shows; an item that has a large number, and one that has none.
use Rattle.std.proofs.Common.{◌∙◌, ap, map, rules}
use Rattle.text.specs.Form.{pack}
use Rattle.text.specs.Sheet.{form_at}
use Rattle.language.specs.Causes.{any_large}
use Rattle.limits.proofs.Items.{large_at}
use Rattle.limits.proofs.large.+any_large_is_large.Goals as goal

pub is_large-returns-in-Word : goal.is_large-returns-in-Word
is_large-returns-in-Word t c = large_at c.args.left c.args.rows.now c.args.at _ c.if-left-eq0.false c.in-Word.ensures

pub is_large-returns-in-Number : goal.is_large-returns-in-Number
is_large-returns-in-Number t c = c.is_long.ensures ∙ large_at c.args.left c.args.rows.now c.args.at _ c.if-left-eq0.false c.in-Number.ensures

pub is_large-returns-in-Items : goal.is_large-returns-in-Items
is_large-returns-in-Items t c =
    let e = large_at c.args.left c.args.rows.now c.args.at _ c.if-left-eq0.false c.in-Items.ensures in
    cc

pub any_large-returns-then-is_large : goal.any_large-returns-then-is_large
any_large-returns-then-is_large t c =
    let e = ap (λ ats. any_large (pack (map (form_at c.args.left c.args.items.rows.now) ats))) c.in-Some.ensures.steps in
    search rules

pub any_large-loop-at-preserved : goal.any_large-loop-at-preserved
any_large-loop-at-preserved t c =
    let e = ap (λ ats. any_large (pack (map (form_at c.args.left c.args.items.rows.now) ats))) c.in-Some.ensures.steps in
    search rules
