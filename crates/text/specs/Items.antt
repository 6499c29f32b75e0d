-- So many items of a sheet, and a walk over them.
use Rattle.std.specs.Prelude.{◌≡◌, ℕ, ◌+◌, List, ◌∷◌}
use Rattle.text.specs.Form.{Form, Forms}
use Rattle.text.specs.Sheet.{next_row, starts, items_at, forms_at}
use Rattle.text.specs.declared.items.Items.{Items}
use Rattle.text.specs.declared.items.Starts.{Starts}

-- the rows at which items begin
abbrev pub starts_of : Items → List ℕ
starts_of items = starts items.rows.now items.first items.count

-- those that a walk has not passed yet
abbrev pub starts_left : Starts → List ℕ
starts_left walk = starts_of walk.left

-- the forms that items are, each read by f
abbrev pub forms_in : (ℕ → Form) → Items → Forms
forms_in f items = items_at f items.rows.now items.first items.count

-- the forms of the lines that items are
abbrev pub forms_of : Items → List Form
forms_of items = forms_at items.rows.now items.first items.count

-- the first of some items is at row `at`, and `behind` are the others
pub record IsSplit (items : Items) (at : ℕ) (behind : Items) : Type 0 where
  pub starts : starts_of items ≡ at ∷ starts_of behind
  pub rows : behind.rows.now ≡ items.rows.now
  pub count : behind.count + 1 ≡ items.count
  pub first : at ≡ items.first
  pub next : behind.first ≡ next_row items.rows.now at
