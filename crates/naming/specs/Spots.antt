-- Places in a text: the lines before one, and those from it on.
use Rattle.std.specs.Prelude.{◌≡◌, ◌≤◌, ℕ, zero, suc, List, [], ◌∷◌, map}
use Rattle.text.specs.Sheet.{next_row}
use Rattle.text.specs.declared.items.Items.{Items}
use Rattle.text.specs.declared.row.Row.{Row}
use Rattle.language.specs.Basics.{leading}
use Rattle.language.specs.Named.{Line}
use Rattle.language.specs.Lines.{is}
use Rattle.language.specs.OnSheet.{line_at}
use Rattle.language.specs.declared.house.Opener.TheVariants.{State}

-- The row behind k lines from a row on.
abbrev pub row_behind : List Row → ℕ → ℕ → ℕ
row_behind rows p zero = p
row_behind rows p (suc k) = next_row rows (row_behind rows p k)

-- The rows of the k lines from a row on, the last first.
abbrev pub rows_back : List Row → ℕ → ℕ → List ℕ
rows_back rows p zero = []
rows_back rows p (suc k) = row_behind rows p k ∷ rows_back rows p k

-- Those lines.
abbrev pub back : List Row → ℕ → ℕ → List Line
back rows p k = map (line_at rows) (rows_back rows p k)

-- The lines that items are, the last first.
abbrev pub back_of : Items → List Line
back_of items = back items.rows.now items.first items.count

-- Behind some lines and the states that end them there is this row.
pub record Stands (before states : Items) (at : ℕ) : Type 0 where
  pub one_sheet : states.rows.now ≡ before.rows.now
  pub there : at ≡ row_behind before.rows.now before.first before.count
  pub follows : at ≡ row_behind before.rows.now states.first states.count
  pub few : states.count ≤ before.count
  pub run : leading (λ q. is State (line_at before.rows.now q)) (rows_back before.rows.now before.first before.count) ≡ rows_back before.rows.now states.first states.count
