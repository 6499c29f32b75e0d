-- The value of a number's digits.
use Rattle.std.specs.Prelude.{ℕ, ◌+◌, ◌-◌, ◌*◌, Bool, cond, not, ◌||◌, List, [], ◌∷◌, ℤ, pos, negsuc, neg_ℤ, Some, None, Option, ◌==◌, int_lt}
use Rattle.language.specs.Basics.{otherwise}

-- The number that digits are, behind the number n.
abbrev pub digits : ℕ → List ℕ → ℕ
digits n [] = n
digits n (b ∷ bs) = digits (10 * n + (b - 48)) bs

-- The value of a number: a minus sign or none, and digits.
abbrev pub value_of : List ℕ → ℤ
value_of [] = pos 0
value_of (b ∷ bs) = cond (b == 45) (neg_ℤ (pos (digits 0 bs))) (pos (digits 0 (b ∷ bs)))

-- A value from low to high.
abbrev pub within : ℤ → ℤ → ℤ → Bool
within low high z = not (int_lt z low || int_lt high z)

-- A number's value has 32 bits.
abbrev pub short : List ℕ → Bool
short ds = within (negsuc 2147483647) (pos 2147483647) (value_of ds)

-- The value, if it has 32 bits.
abbrev pub short_value : List ℕ → Option ℤ
short_value ds = cond (short ds) (Some (value_of ds)) None

-- The value as a word of 32 bits. One that has more, which no well-formed text has, counts as 0.
abbrev pub word_value : List ℕ → ℤ
word_value ds = otherwise (pos 0) (short_value ds)

-- A word as a count: a negative one, which no well-formed text has there, counts as 0.
abbrev pub natural : ℤ → ℕ
natural (pos n) = n
natural (negsuc n) = 0
