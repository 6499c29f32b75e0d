-- All processes of a code, in order.
use Rattle.std.specs.Prelude.{ℕ, zero, suc, ◌+◌, cond, List, [], ℤ, nat_lt}
use Rattle.kinds.specs.Ops.{Ops}
use Rattle.flat.specs.Words.{states, entry, body}
use Rattle.board.specs.Rows.{state}
use Rattle.bodies.specs.Machine.{Machine, with_stack}
use Rattle.bodies.specs.Body.{Ran, done, zero_divisor, stack_fault, run}

-- Process q in its state s: the body of that state runs on an empty stack, or nothing if s is not among the process's states.
abbrev pub visit_in : {V : Type 0} → Ops V → List ℤ → List ℤ → ℕ → ℕ → Machine V → Ran V
visit_in k seen code q s m = cond (nat_lt s (states code q)) (run k seen q (entry code q s) (body code (entry code q s)) 0 0 (with_stack [] m)) (done 0 m)

abbrev pub visit : {V : Type 0} → Ops V → List ℤ → List ℤ → ℕ → Machine V → Ran V
visit k seen code q m = visit_in k seen code q (state m.board q) m

-- What comes of all processes: so many steps, or the scan is given up in a process and the state whose body ran.
pub data Swept (V : Type 0) : Type 0 where
  swept : ℕ → Machine V → Swept V
  no_divisor : ℕ → ℕ → Swept V
  no_stack : ℕ → ℕ → Swept V

abbrev pub onward : {V : Type 0} → Ran V → ℕ → ℕ → (ℕ → Machine V → Swept V) → Swept V
onward (done n m) q s f = f n m
onward zero_divisor q s f = no_divisor q s
onward stack_fault q s f = no_stack q s

-- The next n processes, from q on, after so many steps.
abbrev pub sweep : {V : Type 0} → Ops V → List ℤ → List ℤ → ℕ → ℕ → ℕ → Machine V → Swept V
sweep k seen code zero q steps m = swept steps m
sweep k seen code (suc n) q steps m = onward (visit k seen code q m) q (state m.board q) (λ j m₁. sweep k seen code n (q + 1) (steps + j) m₁)
