-- Laws of the stack in its memory.
use Rattle.std.proofs.Common.{◌≡◌, ℕ, zero, suc, ◌+◌, ◌<◌, ◌≤◌, true, ltb, ◌≢◌, List, ◌∷◌, length, set, refl, ap, ap₂, add-one, arith, get_or-set_other, get_or-set_same}
use Rattle.std.proofs.lemmas.Bool.{lt-ltb}
use Rattle.bodies.specs.Machine.{Machine, skip, push, with_stack}
use Rattle.bodies.specs.Memory.{stack}

module _ {V : Type 0} (d : V) where
  pub stack_length : (w : List V) (n : ℕ) → length (stack d w n) ≡ n
  stack_length w zero = refl
  stack_length w (suc n) = ap suc (stack_length w n)

  -- a write at or above the top leaves the stack
  pub stack_above : (w : List V) (n i : ℕ) (v : V) → n ≤ i → stack d (set w i v) n ≡ stack d w n
  stack_above w zero i v h = refl
  stack_above w (suc n) i v h =
      let ne : n ≢ i = omega arith in
      ap₂ (λ (x : V) (xs : List V). x ∷ xs) (get_or-set_other w i n v d ne) (stack_above w n i v (omega arith))

  pub stack_push : (w : List V) (n : ℕ) (v : V) → n < length w → stack d (set w n v) (n + 1) ≡ v ∷ stack d w n
  stack_push w n v h =
      rw add-one (ap₂ (λ (x : V) (xs : List V). x ∷ xs) (get_or-set_same w n v d h) (stack_above w n n v (omega arith)))

  -- a value pushed on the stack of a machine, where there is room
  pub pushed_on : (m : Machine V) (w : List V) (n : ℕ) (v : V) → 16 ≤ length w → n < 16 → skip 0 (with_stack (stack d (set w n v) (n + 1)) m) ≡ push v (with_stack (stack d w n) m)
  pushed_on m w n v room h =
      let full : ltb (length (stack d w n)) 16 ≡ true = rw stack_length (lt-ltb n 16 h) in
      rw (full, stack_push w n v (omega arith)) refl
