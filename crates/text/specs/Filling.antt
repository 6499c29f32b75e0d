-- One item more on a sheet.
use Rattle.std.specs.Prelude.{◌≡◌, ℕ, ◌+◌, ◌-◌, ◌<◌, List, [], ◌∷◌, ◌++◌, slice_index_or, slice_set}
use Rattle.text.specs.declared.reader.Item.{Item}
use Rattle.text.specs.declared.reader.Item.TheVariants.{Open, Close, Word as WordItem, Number as NumberItem}
use Rattle.text.specs.declared.row.Row.{Row}
use Rattle.text.specs.declared.row.Row.TheVariants.{Word, Number, Items}
use Rattle.text.specs.declared.filler.Filler.{Filler}

-- no text has more items: at most two to a byte
abbrev pub most_items : ℕ
most_items = 65536

-- how many rows an item adds
abbrev pub weight : Item → ℕ
weight Open = 1
weight Close = 0
weight (WordItem w p) = 1
weight (NumberItem w p) = 1

-- a row more, at the end
abbrev pub Adds : Row → List Row → Filler → List Row → Filler → Type 0
Adds row xs f ys g = (ys ≡ xs ++ row ∷ []) × (g.top ≡ f.top) × (g.count ≡ f.count + 1)

-- the rows so far, xs, become ys, and the filler f becomes g; the row of a form that is open holds the count and the
-- top of the form around it
abbrev pub Puts : Item → List Row → Filler → List Row → Filler → Type 0
Puts Open xs f ys g = (ys ≡ xs ++ Items f.count f.top ∷ []) × (g.top ≡ f.used) × (g.count ≡ 0)
Puts (WordItem w p) xs f ys g = Adds (Word w) xs f ys g
Puts (NumberItem w p) xs f ys g = Adds (Number w) xs f ys g
Puts Close xs f ys g = (c t : ℕ) (d : Row) → c < most_items → f.top < f.used → slice_index_or xs f.top d ≡ Items c t → (ys ≡ slice_set xs f.top (Items f.count (f.used - f.top - 1))) × (g.top ≡ t) × (g.count ≡ c + 1)
