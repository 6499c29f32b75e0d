-- The steps of reading a line: a front, the bytes of one number, a number, and the values up to the line's end.
use Rattle.std.specs.Prelude.{◌≡◌, ℕ, Bool, not, ◌||◌, List, ◌∷◌, ◌++◌, take, drop, ℤ, Some, None, Ok, Err, Option, Result, FitsSigned, ◌==◌, ◌≢◌}
use Rattle.std.specs.Borrow.{Bor}
use Rattle.std.specs.Int.{w32}
use Rattle.std.specs.List.{position_or_len, AllByRecursion}
use Rattle.lists.specs.declared.ListError.{ListError}
use Rattle.lists.specs.declared.ListError.TheVariants.{NotAList, NoMemory}
use Rattle.numerals.specs.Print.{items}

-- How a line goes on behind its head: the values, a closing bracket and a line feed, and then the rest.
abbrev pub ending : List ℤ → List ℕ → List ℕ
ending vs rest = items vs ++ 41 ∷ 10 ∷ rest

-- No line goes on with this text behind its head.
abbrev pub NoEnding : List ℕ → Type 0
NoEnding text = (vs : List ℤ) (rest : List ℕ) → AllByRecursion (FitsSigned w32) vs → text ≢ ending vs rest

-- The values vs were read from the text and appended to those of before; where no line goes on with the rest, none does with the text.
pub record Passed (text rest : List ℕ) (before after : List ℤ) : Type 0 where
  pub vs : List ℤ
  pub fit : AllByRecursion (FitsSigned w32) vs
  pub values : after ≡ before ++ vs
  pub front : text ≡ items vs ++ rest
  pub decides : NoEnding rest → NoEnding text

-- The values at the start of a text were looked for: they were read and appended, and a rest without a space in front is left;
-- or what stands there are no values; or there was no memory for them.
abbrev pub ValuesRead : (text : List ℕ) (before : List ℤ) → Result (Bor (List ℕ)) ListError → (after : List ℤ) → Type 0
ValuesRead text before (Ok rest) after = Passed text rest.now before after × ((more : List ℕ) → rest.now ≢ 32 ∷ more)
ValuesRead text before (Err NotAList) after = NoEnding text
ValuesRead text before (Err NoMemory) after = Unit {0}

-- The value that the text is the print of, among those that are good; or no such value has it as its print.
abbrev pub Reads : {V : Type 0} → (print : V → List ℕ) (Good : V → Type 0) (text : List ℕ) → Option V → Type 0
Reads print Good text (Some v) = Good v × (text ≡ print v)
Reads {V} print Good text None = (v : V) → Good v → text ≢ print v

-- What follows the front in a text that begins with it; or the text does not.
abbrev pub After : (front text : List ℕ) → Option (Bor (List ℕ)) → Type 0
After front text (Some rest) = text ≡ front ++ rest.now
After front text None = (rest : List ℕ) → text ≢ front ++ rest

-- A number ends before a space or a closing bracket; any other byte is inside it.
abbrev pub ends : ℕ → Bool
ends b = b == 32 || b == 41

abbrev pub inside : ℕ → Bool
inside b = not (ends b)

-- The bytes of a text before the first that ends a number, and those from it on.
abbrev pub token : List ℕ → List ℕ
token text = take (position_or_len ends text) text

abbrev pub behind : List ℕ → List ℕ
behind text = drop (position_or_len ends text) text
