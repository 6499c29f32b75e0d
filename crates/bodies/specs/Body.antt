-- A body of flat code, from its entry to its end.
use Rattle.std.specs.Prelude.{ℕ, zero, suc, ◌+◌, List, [], ◌∷◌, ℤ}
use Rattle.kinds.specs.Ops.{Ops}
use Rattle.flat.specs.Instructions.{decoded}
use Rattle.bodies.specs.Machine.{Machine, Outcome, over, skip, no_quotient, no_room, step}

-- What comes of a body: it ends after so many steps, or the scan is given up.
pub data Ran (V : Type 0) : Type 0 where
  done : ℕ → Machine V → Ran V
  zero_divisor : Ran V
  stack_fault : Ran V

-- The body goes on from what came of an instruction, which was the steps-th.
abbrev pub follow : {V : Type 0} → Outcome V → ℕ → (ℕ → Machine V → Ran V) → Ran V
follow (over m) steps f = done steps m
follow (skip n m) steps f = f n m
follow no_quotient steps f = zero_divisor
follow no_room steps f = stack_fault

-- The words from instruction i on, two to each: n instructions are passed over, and the rest runs. Each one run is a step, end too.
abbrev pub run : {V : Type 0} → Ops V → List ℤ → ℕ → ℕ → List ℤ → ℕ → ℕ → Machine V → Ran V
run k seen p i [] n steps m = done steps m
run k seen p i (op ∷ []) n steps m = done steps m
run k seen p i (op ∷ (x ∷ rest)) zero steps m = follow (step k seen p i (decoded op x) m) (steps + 1) (λ n m₁. run k seen p (i + 1) rest n (steps + 1) m₁)
run k seen p i (op ∷ (x ∷ rest)) (suc n) steps m = run k seen p (i + 1) rest n steps m
