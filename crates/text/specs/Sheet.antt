-- What the rows of a sheet hold, for any rows.
use Rattle.std.specs.Prelude.{ℕ, zero, suc, ◌+◌, ◌-◌, cond, List, [], ◌∷◌, length, map, nat_lt, slice_index_or}
use Rattle.text.specs.Form.{Form, Forms, word, number, form, none, more, pack}
use Rattle.text.specs.declared.row.Row.{Row}
use Rattle.text.specs.declared.row.Row.TheVariants.{Word, Number, Items}

-- the row at a place, and a form of no items beyond the end
abbrev pub row_at : List Row → ℕ → Row
row_at rows at = slice_index_or rows at (Items 0 0)

-- how many rows behind a row its items take
abbrev pub span : Row → ℕ
span (Word w) = 0
span (Number w) = 0
span (Items k n) = n

-- the row behind the item at a row, never past the end
abbrev pub next_row : List Row → ℕ → ℕ
next_row rows at = cond (nat_lt (span (row_at rows at)) (length rows - at)) (at + 1 + span (row_at rows at)) (length rows)

-- the rows at which the next k items from row p on begin
abbrev pub starts : List Row → ℕ → ℕ → List ℕ
starts rows p zero = []
starts rows p (suc k) = p ∷ starts rows (next_row rows p) k

-- those items, each read by f
abbrev pub items_at : (ℕ → Form) → List Row → ℕ → ℕ → Forms
items_at f rows p k = pack (map f (starts rows p k))

-- what a row is, its items given by their number
abbrev pub shape : (ℕ → Forms) → Row → Form
shape inner (Word w) = word w.now
shape inner (Number w) = number w.now
shape inner (Items k n) = form (inner k)

-- the item at a row, read at most d deep
abbrev pub form_at : ℕ → List Row → ℕ → Form
form_at zero rows at = form none
form_at (suc d) rows at = shape (items_at (form_at d rows) rows (at + 1)) (row_at rows at)

-- the forms of m lines from row p on: twelve brackets deep, and the words and numbers inside
abbrev pub forms_at : List Row → ℕ → ℕ → List Form
forms_at rows p m = map (form_at 13 rows) (starts rows p m)

abbrev mutual
  -- a row for each word, number and form
  pub rows_of : Form → ℕ
  rows_of (word w) = 1
  rows_of (number w) = 1
  rows_of (form fs) = suc (rows_of_items fs)

  -- the rows of a form's items
  pub rows_of_items : Forms → ℕ
  rows_of_items none = 0
  rows_of_items (more f fs) = rows_of f + rows_of_items fs

-- how many rows the forms of lines take
abbrev pub rows_in : List Form → ℕ
rows_in fs = rows_of_items (pack fs)
