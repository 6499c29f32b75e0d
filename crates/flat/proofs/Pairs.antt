-- Laws of the test of instructions, two words to each.
use Rattle.std.proofs.Common.{◌≡◌, ℕ, zero, suc, ◌+◌, ◌-◌, ◌*◌, ◌<◌, ◌≤◌, Bool, true, ◌&&◌, List, [], ◌∷◌, length, get_or, drop, ℤ, pos, sym, refl, ap, ◌∙◌, arith}
use Rattle.std.proofs.lemmas.Bool.{and_parts}
use Rattle.flat.specs.declared.head.Head.{Head}
use Rattle.flat.specs.Tests.{instruction_fits, instructions_fit}

module _ (h : Head) where
  -- an instruction fits, and the rest is looked at
  pub fit_go :
      (i : ℕ) (left : List ℤ)
      → 2 ≤ length left
      → instruction_fits h i (get_or left 0 (pos 0)) (get_or left 1 (pos 0)) ≡ true
      → instructions_fit h (i + 1) (drop 2 left) ≡ instructions_fit h i left
  fit_go i [] two e = absurd (omega arith)
  fit_go i (op ∷ []) two e = absurd (omega arith)
  fit_go i (op ∷ (x ∷ rest)) two e = sym (ap (λ (b : Bool). b && instructions_fit h (i + 1) rest) e)

  -- what the test says of each instruction
  pub fit_at :
      (n i : ℕ) (words : List ℤ) (j : ℕ)
      → length words ≡ 2 * n
      → instructions_fit h i words ≡ true
      → j < n
      → instruction_fits h (i + j) (get_or words (2 * j) (pos 0)) (get_or words (1 + 2 * j) (pos 0)) ≡ true
  fit_at n i [] j size e l = absurd (omega arith)
  fit_at n i (op ∷ []) j size e l = absurd (omega arith)
  fit_at n i (op ∷ (x ∷ rest)) zero size e l =
      let z : i + 0 ≡ i = omega arith in
      rw z (and_parts (instruction_fits h i op x) (instructions_fit h (i + 1) rest) e).0
  fit_at n i (op ∷ (x ∷ rest)) (suc j) size e l =
      let two : 2 * suc j ≡ suc (suc (2 * j)) = omega arith in
      let next : i + suc j ≡ (i + 1) + j = omega arith in
      let three : 1 + 2 * suc j ≡ suc (suc (1 + 2 * j)) = omega arith in
      rw (three, two, next) (fit_at (n - 1) (i + 1) rest j (omega arith) (and_parts (instruction_fits h i op x) (instructions_fit h (i + 1) rest) e).1 (omega arith))

  pub fit_made :
      (n i : ℕ) (words : List ℤ)
      → length words ≡ 2 * n
      → ((j : ℕ) → j < n → instruction_fits h (i + j) (get_or words (2 * j) (pos 0)) (get_or words (1 + 2 * j) (pos 0)) ≡ true)
      → instructions_fit h i words ≡ true
  fit_made n i [] size each = refl
  fit_made n i (op ∷ []) size each = absurd (omega arith)
  fit_made n i (op ∷ (x ∷ rest)) size each =
      let z : i + 0 ≡ i = omega arith in
      ap (λ (b : Bool). b && instructions_fit h (i + 1) rest) (rw z at (each 0 (omega arith)))
      ∙ fit_made (n - 1) (i + 1) rest (omega arith) (λ j l.
      let two : 2 * suc j ≡ suc (suc (2 * j)) = omega arith in
      let next : i + suc j ≡ (i + 1) + j = omega arith in
      let three : 1 + 2 * suc j ≡ suc (suc (1 + 2 * j)) = omega arith in
      rw (three, two, next) at (each (suc j) (omega arith)))
