-- The sort of what the grammar reads.
use Rattle.std.specs.Prelude.{ℕ, Bool, true, false, List, Some, None, Option}
use Rattle.text.specs.Sheet.{form_at}
use Rattle.text.specs.declared.row.Row.{Row}
use Rattle.language.specs.Basics.{changed}
use Rattle.language.specs.Named.{Line}
use Rattle.language.specs.House.{house}
use Rattle.language.specs.Lines.{sort}
use Rattle.language.specs.Grammar.{Item, item}
use Rattle.language.specs.declared.house.House.TheVariants as house_word
use Rattle.language.specs.declared.house.Opener.{Opener}
use Rattle.shape.specs.declared.sort.Sort.{Sort}
use Rattle.shape.specs.declared.sort.Sort.TheVariants as sorts

-- What an item is.
abbrev pub item_sort : Item → Sort
item_sort (Item.word w) = sorts.Word (house w)
item_sort (Item.number ds) = sorts.Number
item_sort (Item.term e) = sorts.Term
item_sort (Item.act s) = sorts.Act
item_sort (Item.timeout s) = sorts.Timeout

-- What something is if it could be read.
abbrev pub sort_of : Option Item → Option Sort
sort_of i = changed item_sort i

-- What the item at a row is, read at most d deep.
abbrev pub sort_in : ℕ → List Row → ℕ → Option Sort
sort_in d rows at = sort_of (item (form_at d rows at))

-- What a line is among items.
abbrev pub line_sort : Line → Sort
line_sort l = sorts.Line (sort l)

abbrev pub is_word : Sort → Bool
is_word (sorts.Word h) = true
is_word _ = false

-- A word that names a kind of cell.
abbrev pub is_kind : Sort → Bool
is_kind (sorts.Word (Some (house_word.KindName k))) = true
is_kind _ = false

abbrev pub is_number : Sort → Bool
is_number sorts.Number = true
is_number _ = false

-- An expression is a name, a number or a form that is one.
abbrev pub is_term : Sort → Bool
is_term (sorts.Word h) = true
is_term sorts.Number = true
is_term sorts.Term = true
is_term _ = false

abbrev pub is_act : Sort → Bool
is_act sorts.Act = true
is_act _ = false

abbrev pub is_timeout : Sort → Bool
is_timeout sorts.Timeout = true
is_timeout _ = false

-- The sort of line that an item is.
abbrev pub as_line : Sort → Option Opener
as_line (sorts.Line o) = Some o
as_line _ = None
