-- The numbers of the kinds of cell.
use Rattle.std.specs.Prelude.{◌≡◌, ℤ, pos, Ok, Err, Result}
use Rattle.flat.specs.declared.kind.CellKind.{CellKind}
use Rattle.flat.specs.declared.kind.CellKind.TheVariants.{Long, Milli}
use Rattle.flat.specs.declared.kind.UnknownKind.{UnknownKind}

-- The number of a kind, as the first word of a code has it.
abbrev pub number_of : CellKind → ℤ
number_of Long = pos 1
number_of Milli = pos 2

-- A word was read as the kind that has it as its number, or as the number of no kind.
abbrev pub Names : ℤ → Result CellKind UnknownKind → Type 0
Names word (Ok kind) = word ≡ number_of kind
Names word (Err e) = (e.0 ≡ word) × ((kind : CellKind) → word ≡ number_of kind → ⊥)
