-- Tests of whole numbers.
use Rattle.std.specs.Prelude.{Bool, false, not, ℤ, pos, negsuc, ◌==◌}

-- Whether two whole numbers are the same.
abbrev pub int_eq : ℤ → ℤ → Bool
int_eq (pos a) (pos b) = a == b
int_eq (pos a) (negsuc b) = false
int_eq (negsuc a) (pos b) = false
int_eq (negsuc a) (negsuc b) = a == b

-- Whether a whole number is not zero.
abbrev pub nonzero : ℤ → Bool
nonzero a = not (int_eq a (pos 0))
