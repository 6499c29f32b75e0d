-- What a kind of cell means: one record, which every definition about cells takes as an argument.
use Rattle.std.specs.Prelude.{Bool, cond, ℤ, Result}
use Rattle.kinds.specs.declared.NoQuotient.{NoQuotient}

-- A kind over the values V: its number in flat code, its zero and one, which values are true, how a raw number of
-- 32 bits is read and how a value is written back as one, and the six operations. Only a division may have no answer.
pub record Ops (V : Type 0) : Type 0 where
  pub number : ℤ
  pub zero : V
  pub one : V
  pub truth : V → Bool
  pub reading : ℤ → V
  pub writing : V → ℤ
  pub sum : V → V → V
  pub difference : V → V → V
  pub product : V → V → V
  pub quotient : V → V → Result V NoQuotient
  pub less : V → V → Bool
  pub same : V → V → Bool

-- A truth as a value: the kind's one or its zero.
abbrev pub flag : {V : Type 0} → Ops V → Bool → V
flag k b = cond b k.one k.zero
