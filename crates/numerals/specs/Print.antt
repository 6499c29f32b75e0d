-- The bytes that numbers and lists of numbers are printed as, and what an append of bytes does.
use Rattle.std.specs.Prelude.{◌≡◌, ℕ, ◌^◌, ◌<◌, List, [], ◌∷◌, ◌++◌, length, take, ℤ, Ok, Err, decimal, Result, slice_index, slice_index_or}
use Rattle.std.specs.List.{flat_map}
use Rattle.std.specs.Str.Parse.{digits_value}
use Rattle.std.specs.Int.{IsInRange}
use Rattle.std.specs.Fmt.{signed_decimal}

-- The bytes are the digits of n in base ten: one or more, each from `0` to `9`, no zero in front of another, and they write n.
pub record BaseTen (n : ℕ) (bytes : List ℕ) : Type 0 where
  pub some : 0 < length bytes
  pub digits : (i : ℕ) → i < length bytes → IsInRange 48 57 (slice_index bytes i)
  pub plain : slice_index_or bytes 0 0 ≡ 48 → length bytes ≡ 1
  pub writes : digits_value 10 bytes ≡ n

-- The digits of each number of 64 bits are its digits in base ten.
abbrev pub BaseTenDigits : Type 0
BaseTenDigits = (n : ℕ) → n < 2 ^ 64 → BaseTen n (decimal n)

-- For each value a space and its digits, a minus sign before those of a negative one.
abbrev pub items : List ℤ → List ℕ
items vs = flat_map (λ v. 32 ∷ signed_decimal v) vs

-- The values with one space between.
abbrev pub spaced : List ℤ → List ℕ
spaced [] = []
spaced (v ∷ vs) = signed_decimal v ++ items vs

-- The values with one space between, in brackets.
abbrev pub bracketed : List ℤ → List ℕ
bracketed vs = 40 ∷ (spaced vs ++ 41 ∷ [])

-- One line: a head word and the values in brackets, and a line feed.
abbrev pub shown_list : List ℕ → List ℤ → List ℕ
shown_list head vs = 40 ∷ (head ++ (items vs ++ 41 ∷ 10 ∷ []))

-- What was there before is still in front.
abbrev pub Kept : {X : Type 0} → (before after : List X) → Type 0
Kept before after = take (length before) after ≡ before

-- The bytes new were to be appended to those of before: they were where there was memory, and where there was none,
-- those of before are kept.
abbrev pub Appended : {U E : Type 0} → (before new : List ℕ) → Result U E → (after : List ℕ) → Type 0
Appended before new (Ok _) after = after ≡ before ++ new
Appended before new (Err _) after = Kept before after
