-- Forms on a sheet, read by patterns item after item.
use Rattle.std.proofs.Common.{◌≡◌, ℕ, suc, ◌+◌, List, [], ◌∷◌, map, Bor, Some, None, Option, sym, refl, ap, ◌∙◌}
use Rattle.text.specs.Form.{Form, pack}
use Rattle.text.specs.Sheet.{row_at, starts, items_at, shape, form_at}
use Rattle.text.specs.declared.row.Row.{Row}
use Rattle.text.specs.declared.row.Row.TheVariants.{Word as WordRow, Items}
use Rattle.language.specs.Basics.{and_then, changed}
use Rattle.language.specs.Named.{Line}
use Rattle.language.specs.House.{house}
use Rattle.language.specs.Lines.{sort}
use Rattle.language.specs.Grammar.{Item, as_house, as_opener, takes, form_row, line_row, item, items, line}
use Rattle.language.specs.OnSheet.{inner_row}
use Rattle.language.proofs.OnSheets.{form_inner}
use Rattle.shape.specs.declared.sort.Sort.{Sort}
use Rattle.shape.specs.declared.sort.Sort.TheVariants.{Word}
use Rattle.shape.specs.declared.pattern.Pattern.{Pattern}
use Rattle.shape.specs.Sorts.{item_sort, sort_of, sort_in, line_sort, as_line}
use Rattle.shape.specs.Patterns.{form_start, line_start, after, whole_of}
use Rattle.shape.proofs.Matching.{Means, run, form_means, line_means}

-- What a row of the grammar reads of the items at some rows, its pattern tells of their sorts.
module _ {R : Type 0} (F : ℕ → Form) (tell : R → Sort) where
  items-walked : (qs : List ℕ) (p : Pattern) (f : List Item → Option R) → Means tell p f → changed tell (and_then (items (pack (map F qs))) f) ≡ whole_of (map (λ q. sort_of (item (F q))) qs) p
  items-walked [] p f m = m []
  items-walked (q ∷ qs) p f m = one (item (F q)) (items (pack (map F qs))) (items-walked qs)
    where
      one : (o : Option Item) (os : Option (List Item)) → ((p : Pattern) (g : List Item → Option R) → Means tell p g → changed tell (and_then os g) ≡ whole_of (map (λ q. sort_of (item (F q))) qs) p)
          → changed tell (and_then (and_then o (λ i. changed (λ is. i ∷ is) os)) f) ≡ and_then (sort_of o) (λ s. and_then (after p s) (whole_of (map (λ q. sort_of (item (F q))) qs)))
      one None os go = refl
      one (Some i) os go = front os ∙ two (after p (item_sort i)) os go (λ is. m (i ∷ is))
        where
          front : (os : Option (List Item)) → changed tell (and_then (changed (λ is. i ∷ is) os) f) ≡ changed tell (and_then os (λ is. f (i ∷ is)))
          front (Some is) = refl
          front None = refl

          two : (o : Option Pattern) (os : Option (List Item)) → ((p : Pattern) (g : List Item → Option R) → Means tell p g → changed tell (and_then os g) ≡ whole_of (map (λ q. sort_of (item (F q))) qs) p)
              → ((is : List Item) → changed tell (f (i ∷ is)) ≡ and_then o (λ q. run q is)) → changed tell (and_then os (λ is. f (i ∷ is))) ≡ and_then o (whole_of (map (λ q. sort_of (item (F q))) qs))
          two (Some q) os go n = go q (λ is. f (i ∷ is)) n
          two None (Some is) go n = n is
          two None None go n = refl

-- What a form is, by its items' rows.
pub form_walked : (d : ℕ) (rows : List Row) (at k n : ℕ) → Items k n ≡ row_at rows at → whole_of (map (sort_in d rows) (starts rows (inner_row rows at) k)) form_start ≡ sort_in (suc d) rows at
form_walked d rows at k n e =
    sym (items-walked (form_at d rows) item_sort (starts rows (inner_row rows at) k) form_start (takes as_house form_row) form_means)
    ∙ ap (λ x. sort_of (item (shape (items_at (form_at d rows) rows (inner_row rows at)) x))) e
    ∙ ap (λ f. sort_of (item f)) (sym (form_inner d rows at))

-- The same where so many levels are left.
pub form_at_rows : (left d : ℕ) (rows : List Row) (at k n : ℕ) → left ≡ suc d → Items k n ≡ row_at rows at → whole_of (map (sort_in d rows) (starts rows (inner_row rows at) k)) form_start ≡ sort_in left rows at
form_at_rows left d rows at k n l e = form_walked d rows at k n e ∙ ap (λ x. sort_in x rows at) (sym l)

pub word_at_row : (left d : ℕ) (rows : List Row) (at : ℕ) (w : Bor (List ℕ)) → left ≡ suc d → WordRow w ≡ row_at rows at → Some (Word (house w.now)) ≡ sort_in left rows at
word_at_row left d rows at w l e = ap (λ x. sort_of (item (shape (items_at (form_at d rows) rows (at + 1)) x))) e ∙ ap (λ x. sort_in x rows at) (sym l)

pub line_told : (o : Option Line) → and_then (changed line_sort o) as_line ≡ changed sort o
line_told (Some l) = refl
line_told None = refl

-- What a line is, by its items' rows.
line_walked : (d : ℕ) (rows : List Row) (at k n : ℕ) → Items k n ≡ row_at rows at → and_then (whole_of (map (sort_in d rows) (starts rows (inner_row rows at) k)) line_start) as_line ≡ changed sort (line (form_at (suc d) rows at))
line_walked d rows at k n e =
    ap (λ o. and_then o as_line) (sym (items-walked (form_at d rows) line_sort (starts rows (inner_row rows at) k) line_start (takes as_opener line_row) line_means))
    ∙ line_told (and_then (items (items_at (form_at d rows) rows (inner_row rows at) k)) (takes as_opener line_row))
    ∙ ap (λ x. changed sort (line (shape (items_at (form_at d rows) rows (inner_row rows at)) x))) e
    ∙ ap (λ f. changed sort (line f)) (sym (form_inner d rows at))

-- The same of what the code has of its items.
pub line_of_whole : (d : ℕ) (rows : List Row) (at k n first : ℕ) (o : Option Sort) (p : Pattern) → Items k n ≡ row_at rows at → first ≡ inner_row rows at → p ≡ line_start → o ≡ whole_of (map (sort_in d rows) (starts rows first k)) p → and_then o as_line ≡ changed sort (line (form_at (suc d) rows at))
line_of_whole d rows at k n first o p e f g h =
    ap (λ x. and_then x as_line) h
    ∙ (λ i. and_then (whole_of (map (sort_in d rows) (starts rows (f i) k)) (g i)) as_line)
    ∙ line_walked d rows at k n e
