-- The items of a form and the lines of a text, from one to the next.
use Rattle.std.proofs.Common.{◌≡◌, ℕ, suc, ◌+◌, ◌-◌, ◌<◌, ◌≤◌, ltb, ◌≢◌, List, length, sym, ap, ◌∙◌, ⊎_elim, arith}
use Rattle.std.proofs.lemmas.List.{get_or_past}
use Rattle.std.proofs.lemmas.Bool.{cases_lt, cond-true, lt-ltb}
use Rattle.text.specs.Sheet.{row_at, items_at, shape, form_at}
use Rattle.text.specs.declared.row.Row.{Row}
use Rattle.text.specs.declared.row.Row.TheVariants.{Items}
use Rattle.language.specs.Causes.{large}
use Rattle.language.specs.OnSheet.{inner_row}

-- One level of a form that is read at most so deep. Past the last row there are no items.
form_at_more : (d : ℕ) (rows : List Row) (at : ℕ) → d ≢ 0 → shape (items_at (form_at (d - 1) rows) rows (inner_row rows at)) (row_at rows at) ≡ form_at d rows at
form_at_more d rows at h =
    let f = form_at (d - 1) rows in
    let e : suc (d - 1) ≡ d = omega arith in
    let inside = λ (l : at < length rows). ap (λ p. shape (items_at f rows p) (row_at rows at)) (cond-true (ltb at (length rows)) (at + 1) (length rows) (lt-ltb at (length rows) l)) in
    let outside = λ (l : length rows ≤ at). ap (shape (items_at f rows (inner_row rows at))) (get_or_past rows at (Items 0 0) l) ∙ sym (ap (shape (items_at f rows (at + 1))) (get_or_past rows at (Items 0 0) l)) in
    ⊎_elim inside outside (cases_lt at (length rows)) ∙ ap (λ n. form_at n rows at) e

-- A form has a large number exactly if what its row shows has.
pub large_at : (d : ℕ) (rows : List Row) (at : ℕ) (r : Row) → d ≢ 0 → r ≡ row_at rows at → large (shape (items_at (form_at (d - 1) rows) rows (inner_row rows at)) r) ≡ large (form_at d rows at)
large_at d rows at r h e = ap (λ s. large (shape (items_at (form_at (d - 1) rows) rows (inner_row rows at)) s)) e ∙ ap large (form_at_more d rows at h)
