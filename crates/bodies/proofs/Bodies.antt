-- Laws of a body's run.
use Rattle.std.proofs.Common.{◌≡◌, ℕ, zero, suc, ◌+◌, ◌-◌, ◌*◌, ◌≤◌, Bool, true, false, cond, ltb, List, [], ◌∷◌, length, get_or, drop, ℤ, pos, Ok, Err, Result, sym, refl, ap, ◌∙◌, subst, add-zero, arith}
use Rattle.std.proofs.Math.ListN.{length-set}
use Rattle.kinds.specs.Ops.{Ops}
use Rattle.kinds.specs.declared.NoQuotient.{NoQuotient}
use Rattle.flat.specs.Instructions.{decoded}
use Rattle.flat.specs.declared.instr.Instr.{Instr}
use Rattle.flat.specs.declared.instr.Instr.TheVariants.{End, Push, Convert, Combine, Jump, Unless, Keep, Drive, Set}
use Rattle.bodies.specs.Machine.{Machine, Outcome, over, skip, no_quotient, no_room, step, with_stack, top_of, push, push_result, combined}
use Rattle.bodies.specs.Body.{run, follow}
use Rattle.bodies.specs.Memory.{InRange, Inside, Sound}

-- an outcome passes over at most half of `size` words, and leaves so many cells
abbrev pub Short : {V : Type 0} → ℕ → ℕ → Outcome V → Type 0
Short size cells (over m) = length m.cells ≡ cells
Short size cells (skip n m) = (2 * n ≤ size) × (length m.cells ≡ cells)
Short size cells no_quotient = Unit {0}
Short size cells no_room = Unit {0}

module _ {V : Type 0} (size cells : ℕ) where
  short_push : (v : V) (m : Machine V) → length m.cells ≡ cells → Short size cells (push v m)
  short_push v m l = elim (ltb (length m.stack) 16) as (λ b. Short size cells (cond b (skip 0 (with_stack (v ∷ m.stack) m)) no_room)) [ true ↦ (omega arith, l) | false ↦ tt ]

  short_push_result : (o : Result V NoQuotient) (m : Machine V) → length m.cells ≡ cells → Short size cells (push_result o m)
  short_push_result (Err e) m l = tt
  short_push_result (Ok v) m l = short_push v m l

  short_top : (s : List V) (m : Machine V) (f : V → Machine V → Outcome V) → length m.cells ≡ cells → ((v : V) (m₁ : Machine V) → length m₁.cells ≡ cells → Short size cells (f v m₁)) → Short size cells (top_of s m f)
  short_top [] m f l h = tt
  short_top (v ∷ rest) m f l h = h v (with_stack rest m) l

  short_cond : (b : Bool) (x : ℕ) (m : Machine V) → length m.cells ≡ cells → 2 * x ≤ size → Short size cells (cond b (skip 0 m) (skip x m))
  short_cond true x m l h = (omega arith, l)
  short_cond false x m l h = (h, l)

module _ {V : Type 0} (k : Ops V) (seen : List ℤ) (p : ℕ) where
  pub short_step : (at : ℕ) (rest : List ℤ) (i : Instr) (m : Machine V) → Inside at rest i → Short (length rest) (length m.cells) (step k seen p at i m)
  short_step at rest End m h = refl
  short_step at rest (Push s) m h = short_push (length rest) (length m.cells) _ m refl
  short_step at rest (Convert u) m h = short_top (length rest) (length m.cells) m.stack m _ refl (λ a m₁ l. short_push (length rest) (length m.cells) _ m₁ l)
  short_step at rest (Combine o) m h =
      short_top (length rest) (length m.cells) m.stack m _ refl (λ b m₁ l. short_top (length rest) (length m.cells) m₁.stack m₁ _ l (λ a m₂ l₂. short_push_result (length rest) (length m.cells) (combined k o a b) m₂ l₂))
  short_step at rest (Jump x) m h = (omega arith, refl)
  short_step at rest (Unless x) m h = short_top (length rest) (length m.cells) m.stack m _ refl (λ a m₁ l. short_cond (length rest) (length m.cells) (k.truth a) (x - (at + 1)) m₁ l (omega arith))
  short_step at rest (Keep x) m h = short_top (length rest) (length m.cells) m.stack m _ refl (λ a m₁ l. (omega arith, length-set m₁.cells x a ∙ l))
  short_step at rest (Drive x) m h = short_top (length rest) (length m.cells) m.stack m _ refl (λ a m₁ l. (omega arith, l))
  short_step at rest (Set c) m h = (omega arith, refl)

  -- one instruction, and the rest of the words
  pub run_turn :
      (at : ℕ) (left : List ℤ) (steps : ℕ) (m : Machine V)
      → 2 ≤ length left
      → run k seen p at left 0 steps m ≡ follow (step k seen p at (decoded (get_or left 0 (pos 0)) (get_or left 1 (pos 0))) m) (steps + 1) (λ n m₁. run k seen p (at + 1) (drop 2 left) n (steps + 1) m₁)
  run_turn at [] steps m h = absurd (omega arith)
  run_turn at (op ∷ []) steps m h = absurd (omega arith)
  run_turn at (op ∷ (x ∷ rest)) steps m h = refl

  -- instructions passed over
  pub run_skip :
      (n at : ℕ) (left : List ℤ) (steps : ℕ) (m : Machine V)
      → 2 * n ≤ length left
      → run k seen p at left n steps m ≡ run k seen p (at + n) (drop (2 * n) left) 0 steps m
  run_skip zero at left steps m h = rw add-zero refl
  run_skip (suc n) at [] steps m h = absurd (omega arith)
  run_skip (suc n) at (op ∷ []) steps m h = absurd (omega arith)
  run_skip (suc n) at (op ∷ (x ∷ rest)) steps m h =
      let e : 2 * suc n ≡ suc (suc (2 * n)) = omega arith in
      let f : at + suc n ≡ (at + 1) + n = omega arith in
      rw (e, f) (run_skip n (at + 1) rest steps m (omega arith))

pub sound_turn : (cells at : ℕ) (left : List ℤ) → 2 ≤ length left → Sound cells at left → InRange cells at (decoded (get_or left 0 (pos 0)) (get_or left 1 (pos 0))) × Inside at (drop 2 left) (decoded (get_or left 0 (pos 0)) (get_or left 1 (pos 0))) × Sound cells (at + 1) (drop 2 left)
sound_turn cells at [] h s = absurd (omega arith)
sound_turn cells at (op ∷ []) h s = absurd (omega arith)
sound_turn cells at (op ∷ (x ∷ rest)) h s = s

pub sound_skip : (n cells at : ℕ) (left : List ℤ) → 2 * n ≤ length left → Sound cells at left → Sound cells (at + n) (drop (2 * n) left)
sound_skip zero cells at left h s = rw add-zero s
sound_skip (suc n) cells at [] h s = absurd (omega arith)
sound_skip (suc n) cells at (op ∷ []) h s = absurd (omega arith)
sound_skip (suc n) cells at (op ∷ (x ∷ rest)) h s =
    let e : 2 * suc n ≡ suc (suc (2 * n)) = omega arith in
    let f : at + suc n ≡ (at + 1) + n = omega arith in
    rw (e, f) (sound_skip n cells (at + 1) rest (omega arith) s.2)

-- a turn of the loop over a body
module _ {V : Type 0} (k : Ops V) (seen : List ℤ) (p base at : ℕ) (left : List ℤ) (m : Machine V) (i : Instr) (two : 2 ≤ length left) (is : i ≡ decoded (get_or left 0 (pos 0)) (get_or left 1 (pos 0))) (sound : Sound base at left) where
  -- what came of the instruction passes over no more words than are left, and leaves as many cells
  pub turn_short : (o : Outcome V) → o ≡ step k seen p at i m → Short (length (drop 2 left)) (length m.cells) o
  turn_short o e =
      let inside : Inside at (drop 2 left) i = rw is (sound_turn base at left two sound).1 in
      subst (Short (length (drop 2 left)) (length m.cells)) (sym e) (short_step k seen p at (drop 2 left) i m inside)

  -- an instruction that goes on
  pub turn_again :
      (steps n : ℕ) (m₁ : Machine V)
      → skip n m₁ ≡ step k seen p at i m
      → (run k seen p (at + (1 + n)) (drop (2 * n) (drop 2 left)) 0 (steps + 1) m₁ ≡ run k seen p at left 0 steps m)
      × Sound base (at + (1 + n)) (drop (2 * n) (drop 2 left))
  turn_again steps n m₁ o =
      let few : 2 * n ≤ length (drop 2 left) = (turn_short (skip n m₁) o).0 in
      let f : at + (1 + n) ≡ (at + 1) + n = omega arith in (
        rw f
            (sym (run_skip k seen p n (at + 1) (drop 2 left) (steps + 1) m₁ few)
            ∙ ap (λ (q : Outcome V). follow q (steps + 1) (λ j m₂. run k seen p (at + 1) (drop 2 left) j (steps + 1) m₂)) (o ∙ ap (λ (j : Instr). step k seen p at j m) is)
            ∙ sym (run_turn k seen p at left steps m two)),
        rw f (sound_skip n base (at + 1) (drop 2 left) few (sound_turn base at left two sound).2),
      )
