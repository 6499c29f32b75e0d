-- Numbers of 32 bits.
use Rattle.std.specs.Prelude.{cond, ℤ, pos, negsuc, Some, None, Option}
use Rattle.language.specs.Numbers.{within}

-- A number, if it has 32 bits.
abbrev pub of_32_bits : ℤ → Option ℤ
of_32_bits z = cond (within (negsuc 2147483647) (pos 2147483647) z) (Some z) None
