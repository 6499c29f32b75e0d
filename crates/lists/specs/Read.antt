-- What is read of a line: a list whose print it is.
use Rattle.std.specs.Prelude.{◌≡◌, ℕ, ◌≤◌, List, ◌++◌, length, take, ℤ, Ok, Err, Result, FitsSigned, ◌≢◌}
use Rattle.std.specs.Int.{w32}
use Rattle.std.specs.List.{AllByRecursion}
use Rattle.lists.specs.declared.ListError.{ListError}
use Rattle.lists.specs.declared.ListError.TheVariants.{NotAList, NoMemory}
use Rattle.numerals.specs.Print.{shown_list}

-- The first n bytes of the input are the print of a list with this head and the values vs, each of 32 bits.
pub record Shown (head input : List ℕ) (vs : List ℤ) (n : ℕ) : Type 0 where
  pub fit : AllByRecursion (FitsSigned w32) vs
  pub within : n ≤ length input
  pub print : take n input ≡ shown_list head vs

-- The input begins with the print of no list with this head.
abbrev pub NoList : (head input : List ℕ) → Type 0
NoList head input = (vs : List ℤ) (rest : List ℕ) → AllByRecursion (FitsSigned w32) vs → input ≢ shown_list head vs ++ rest

-- A list with this head was looked for at the start of the input. It was read whole, and its values were appended to those of
-- before; or there is none; or there was no memory for its values.
abbrev pub ListRead : (head input : List ℕ) (before : List ℤ) → Result ℕ ListError → (after : List ℤ) → Type 0
ListRead head input before (Ok n) after = (vs : List ℤ) × Shown head input vs n × (after ≡ before ++ vs)
ListRead head input before (Err NotAList) after = NoList head input
ListRead head input before (Err NoMemory) after = Unit {0}
