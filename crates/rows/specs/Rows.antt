-- Rows of levels, and their print.
use Rattle.std.specs.Prelude.{◌≡◌, ℕ, ◌≤◌, List, ◌++◌, map, length, ℤ, Ok, Err, vec_items, codes, Result, Vec, FitsSigned, ◌≢◌}
use Rattle.std.specs.Borrow.{Bor}
use Rattle.std.specs.Int.{w32}
use Rattle.std.specs.List.{flat_map, AllByRecursion}
use Rattle.std.specs.declared.alloc.Global.{Global}
use Rattle.lists.specs.declared.ListError.{ListError}
use Rattle.lists.specs.declared.ListError.TheVariants.{NotAList, NoMemory}
use Rattle.numerals.specs.Print.{shown_list}

-- The print of a row, `(row v ...)` on a line, and of rows, one after another.
abbrev pub shown_row_line : List ℤ → List ℕ
shown_row_line row = shown_list (codes "row") row

abbrev pub shown_rows : List (List ℤ) → List ℕ
shown_rows rows = flat_map shown_row_line rows

-- A row of so many numbers, each of 32 bits.
abbrev pub RowOf : ℕ → List ℤ → Type 0
RowOf width row = (length row ≡ width) × AllByRecursion (FitsSigned w32) row

-- The text is the print of these rows, each of so many numbers, of which there is at least one.
pub record WholeRows (width : ℕ) (text : List ℕ) (rows : List (List ℤ)) : Type 0 where
  pub some : 1 ≤ width
  pub each : AllByRecursion (RowOf width) rows
  pub print : text ≡ shown_rows rows

-- The print of a list tells the list: no other list of numbers of 32 bits with this head has it in front of a text.
abbrev pub PrintTells : Type 0
PrintTells = (head : List ℕ) (vs ws : List ℤ) (x y : List ℕ) → AllByRecursion (FitsSigned w32) vs → AllByRecursion (FitsSigned w32) ws → shown_list head vs ++ x ≡ shown_list head ws ++ y → (vs ≡ ws) × (x ≡ y)

-- A row of so many numbers was looked for at the start of a text: it was read, and what follows it is told; or there is none; or there
-- was no memory for it.
abbrev pub RowFound : ℕ → List ℕ → Result (Vec ℤ Global × Bor (List ℕ)) ListError → Type 0
RowFound width text (Ok (row, rest)) = RowOf width (vec_items row) × (text ≡ shown_row_line (vec_items row) ++ rest.now)
RowFound width text (Err NotAList) = (row : List ℤ) (rest : List ℕ) → RowOf width row → text ≢ shown_row_line row ++ rest
RowFound width text (Err NoMemory) = Unit {0}

-- Rows of so many numbers were looked for: these make up the text; or no such rows do; or there was no memory for them.
abbrev pub RowsFound : ℕ → List ℕ → Result (Vec (Vec ℤ Global) Global) ListError → Type 0
RowsFound width text (Ok rows) = WholeRows width text (map vec_items (vec_items rows))
RowsFound width text (Err NotAList) = (rows : List (List ℤ)) → WholeRows width text rows → ⊥
RowsFound width text (Err NoMemory) = Unit {0}
