-- Long: whole numbers of 32 bits whose results wrap.
use Rattle.std.specs.Prelude.{cond, ℤ, pos, ◌+ℤ◌, ◌-ℤ◌, ◌*ℤ◌, Ok, Err, Result, int_div, int_lt}
use Rattle.std.specs.Int.{int_wrap, w32}
use Rattle.kinds.specs.declared.long.Long.{Long}
use Rattle.kinds.specs.declared.NoQuotient.{NoQuotient}
use Rattle.kinds.specs.declared.NoQuotient.TheVariants.{ZeroDivisor}
use Rattle.kinds.specs.Integers.{int_eq, nonzero}
use Rattle.kinds.specs.Ops.{Ops}

-- The long that holds a number.
abbrev pub long : ℤ → Long
long z = record { 0 = z }

-- The long that a whole number wraps to: the one of 32 bits that differs from it by a multiple of 2 ^ 32.
abbrev pub wrap : ℤ → Long
wrap z = long (int_wrap w32 z)

-- The quotient drops the fraction; the lowest number by -1 wraps to itself; by zero there is none.
abbrev pub quotient : Long → Long → Result Long NoQuotient
quotient a b = cond (int_eq b.0 (pos 0)) (Err ZeroDivisor) (Ok (wrap (int_div a.0 b.0)))

-- Long as a kind. Reading and writing change nothing.
abbrev pub ops : Ops Long
ops = record {
  number = pos 1;
  zero = long (pos 0);
  one = long (pos 1);
  truth = λ a. nonzero a.0;
  reading = long;
  writing = λ a. a.0;
  sum = λ a b. wrap (a.0 +ℤ b.0);
  difference = λ a b. wrap (a.0 -ℤ b.0);
  product = λ a b. wrap (a.0 *ℤ b.0);
  quotient = quotient;
  less = λ a b. int_lt a.0 b.0;
  same = λ a b. int_eq a.0 b.0;
}
