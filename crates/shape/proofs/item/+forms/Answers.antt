-- A form is what its items make of the pattern of all forms.
use Rattle.std.proofs.Common.{◌≡◌, suc, Some, ap, ◌∙◌, rules}
use Rattle.shape.specs.declared.sort.Sort.TheVariants.{Word}
use Rattle.shape.proofs.Walking.{form_at_rows, word_at_row}
use Rattle.shape.proofs.item.+forms.Goals as goal

pub sort_at-returns-in-Items : goal.sort_at-returns-in-Items
sort_at-returns-in-Items t c =
    let l : c.args.left ≡ suc c.in_ok-inside.inside = search rules in
    let h = form_at_rows c.args.left _ c.args.rows.now c.args.at _ _ l c.in-Items.ensures in
    search rules

pub sort_at-returns-in-Word : goal.sort_at-returns-in-Word
sort_at-returns-in-Word t c =
    let l : c.args.left ≡ suc c.in_ok-inside.inside = search rules in
    ap (λ h. Some (Word h)) c.house_word.ensures ∙ word_at_row c.args.left _ c.args.rows.now c.args.at c.in-Word.w l c.in-Word.ensures
