-- What a sheet holds, once it is filled: rows by their spans as rows by the numbers of their items.
use Rattle.std.proofs.Common.{◌≡◌, ℕ, zero, suc, ◌+◌, ◌-◌, ◌<◌, ◌≤◌, ltb, List, [], ◌∷◌, length, take, drop, sym, refl, ap, ◌∙◌, subst, arith, length-drop}
use Rattle.std.proofs.lemmas.List.{drop_more, length-take-le, drop-drop}
use Rattle.std.proofs.lemmas.Bool.{cond-true, lt-ltb}
use Rattle.text.specs.Form.{Form, form, more, pack}
use Rattle.text.specs.Sheet.{row_at, span, next_row, items_at, shape, form_at, forms_at}
use Rattle.text.specs.Valid.{Valid, Valids, AllValid}
use Rattle.text.specs.declared.row.Row.{Row}
use Rattle.text.specs.declared.row.Row.TheVariants.{Word, Number, Items}
use Rattle.text.proofs.Pieces.{in_front}
use Rattle.text.proofs.Rows.{build, build_length, Whole, whole_drop}

-- behind the first row's span its item ends
spanned : (row : Row) (rs : List Row) (f : Form) (fs : List Form) → build (row ∷ rs) ≡ f ∷ fs → Whole (row ∷ rs) → (span row ≤ length rs) × (build (drop (span row) rs) ≡ fs)
spanned (Word w) rs f fs e h = (omega arith, cc)
spanned (Number w) rs f fs e h = (omega arith, cc)
spanned (Items k n) rs f fs e h = (h.1, let q : drop k (build rs) ≡ fs = cc in h.2 ∙ q)

-- n rows of a sheet are filled
module _ (sheet : List Row) (n : ℕ) (fits : n ≤ length sheet) (whole : Whole (take n sheet)) where
  -- the filled rows from row p on
  abbrev from : ℕ → List Row
  from p = drop p (take n sheet)

  within : (p : ℕ) (f : Form) (fs : List Form) → build (from p) ≡ f ∷ fs → p < n
  within p f fs e = omega (arith, build_length (from p), ap length e, length-drop p (take n sheet), length-take-le n sheet fits)

  split : (p : ℕ) → p < n → from p ≡ row_at sheet p ∷ from (p + 1)
  split p h =
      drop_more (take n sheet) p (Items 0 0) (omega (arith, length-take-le n sheet fits)) ∙ ap (λ r. r ∷ from (p + 1)) (sym (in_front sheet n p (Items 0 0) (Items 0 0) h fits))

  -- the row at p, and the rows behind it
  head_is : (p : ℕ) (f : Form) (fs : List Form) → build (from p) ≡ f ∷ fs → build (row_at sheet p ∷ from (p + 1)) ≡ f ∷ fs
  head_is p f fs e = ap build (sym (split p (within p f fs e))) ∙ e

  head_whole : (p : ℕ) (f : Form) (fs : List Form) → build (from p) ≡ f ∷ fs → Whole (row_at sheet p ∷ from (p + 1))
  head_whole p f fs e = subst Whole (split p (within p f fs e)) (whole_drop p (take n sheet) whole)

  -- the next item stands behind the span
  next : (p : ℕ) (f : Form) (fs : List Form) → build (from p) ≡ f ∷ fs → build (from (next_row sheet p)) ≡ fs
  next p f fs e =
      let row = row_at sheet p in
      let q = spanned row (from (p + 1)) f fs (head_is p f fs e) (head_whole p f fs e) in
      let lt : span row < length sheet - p = omega (arith, q.0, within p f fs e, length-drop (p + 1) (take n sheet), length-take-le n sheet fits) in
      ap (λ j. build (from j)) (cond-true (ltb (span row) (length sheet - p)) (p + 1 + span row) (length sheet) (lt-ltb (span row) (length sheet - p) lt))
      ∙ ap build (sym (drop-drop (span row) (p + 1) (take n sheet)))
      ∙ q.1

  -- items that are each read right are all read right
  items : (k : ℕ) (g : ℕ → Form) → ((p : ℕ) (f : Form) (fs : List Form) → build (from p) ≡ f ∷ fs → Valid f k → g p ≡ f) → (c p : ℕ) (fs : List Form) → build (from p) ≡ fs → c ≤ length fs → Valids (pack (take c fs)) k → items_at g sheet p c ≡ pack (take c fs)
  items k g each zero p fs e h v = refl
  items k g each (suc c) p [] e h v = absurd (omega arith)
  items k g each (suc c) p (f ∷ fs) e h v =
      λ i. more (each p f fs e v.0 i) (items k g each c (next_row sheet p) fs (next p f fs e) (omega arith) v.1 i)

  -- a row is read right where its items, one bracket deeper, are
  shaped : (g : ℕ → Form) (k p : ℕ) (f : Form) (fs : List Form) → (k < 12 → (q : ℕ) (h : Form) (hs : List Form) → build (from q) ≡ h ∷ hs → Valid h (k + 1) → g q ≡ h) → build (from p) ≡ f ∷ fs → Valid f k → shape (items_at g sheet (p + 1)) (row_at sheet p) ≡ f
  shaped g k p f fs each e v = by (row_at sheet p) (head_is p f fs e) (head_whole p f fs e)
    where
      by : (row : Row) → build (row ∷ from (p + 1)) ≡ f ∷ fs → Whole (row ∷ from (p + 1)) → shape (items_at g sheet (p + 1)) row ≡ f
      by (Word w) b h = cc
      by (Number w) b h = cc
      by (Items c m) b h =
          let is : f ≡ form (pack (take c (build (from (p + 1))))) = cc in
          let u = subst (λ y. Valid y k) is v in
          ap form (items (k + 1) g (each u.0) c (p + 1) (build (from (p + 1))) refl h.0 u.2) ∙ sym is

  -- the item at a row, in k brackets, read as deep as brackets may go
  reads : (d k p : ℕ) (f : Form) (fs : List Form) → d + k ≡ 12 → build (from p) ≡ f ∷ fs → Valid f k → form_at (suc d) sheet p ≡ f
  reads zero k p f fs h e v = shaped (form_at zero sheet) k p f fs (λ l. absurd (omega arith)) e v
  reads (suc d) k p f fs h e v = shaped (form_at (suc d) sheet) k p f fs (λ l q g gs. reads d (k + 1) q g gs (omega arith)) e v

-- the forms that rows stand for by the numbers of their items are those that the sheet holds
pub sheet_holds : (sheet : List Row) (n : ℕ) (fs : List Form) → n ≤ length sheet → Whole (take n sheet) → build (take n sheet) ≡ fs → AllValid fs → forms_at sheet 0 (length fs) ≡ fs
sheet_holds sheet n fs fits whole e v = all fs 0 e v
  where
    all : (fs : List Form) (p : ℕ) → build (drop p (take n sheet)) ≡ fs → AllValid fs → forms_at sheet p (length fs) ≡ fs
    all [] p e v = refl
    all (f ∷ fs) p e v = λ i. reads sheet n fits whole 12 0 p f fs refl e v.0 i ∷ all fs (next_row sheet p) (next sheet n fits whole p f fs e) v.1 i
