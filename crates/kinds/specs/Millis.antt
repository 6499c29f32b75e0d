-- Milli: thousandths of 32 bits whose results stop at the ends.
use Rattle.std.specs.Prelude.{cond, ℤ, pos, ◌+ℤ◌, ◌-ℤ◌, ◌*ℤ◌, Ok, Err, Result, int_lt}
use Rattle.std.specs.Int.{saturate_to_bits}
use Rattle.kinds.specs.declared.milli.Milli.{Milli}
use Rattle.kinds.specs.declared.NoQuotient.{NoQuotient}
use Rattle.kinds.specs.declared.NoQuotient.TheVariants.{ZeroDivisor}
use Rattle.kinds.specs.Integers.{int_eq, nonzero}
use Rattle.kinds.specs.Ops.{Ops}
use Rattle.kinds.specs.Rounding.{nearest}

-- The milli that holds a number of thousandths.
abbrev pub milli : ℤ → Milli
milli z = record { 0 = z }

-- The milli nearest to a number of thousandths: below -2 ^ 31 and above 2 ^ 31 - 1 it is that end.
abbrev pub stop : ℤ → Milli
stop z = milli (saturate_to_bits 31 z)

-- a × b / 1000, to the nearest whole number.
abbrev pub product : Milli → Milli → Milli
product a b = stop (nearest (a.0 *ℤ b.0) (pos 1000))

-- 1000 × a / b, to the nearest whole number; by zero there is none.
abbrev pub quotient : Milli → Milli → Result Milli NoQuotient
quotient a b = cond (int_eq b.0 (pos 0)) (Err ZeroDivisor) (Ok (stop (nearest (pos 1000 *ℤ a.0) b.0)))

-- Milli as a kind. Reading and writing change nothing.
abbrev pub ops : Ops Milli
ops = record {
  number = pos 2;
  zero = milli (pos 0);
  one = milli (pos 1000);
  truth = λ a. nonzero a.0;
  reading = milli;
  writing = λ a. a.0;
  sum = λ a b. stop (a.0 +ℤ b.0);
  difference = λ a b. stop (a.0 -ℤ b.0);
  product = product;
  quotient = quotient;
  less = λ a b. int_lt a.0 b.0;
  same = λ a b. int_eq a.0 b.0;
}
