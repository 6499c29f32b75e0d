-- The first place where a tape line begins is the first at which its four bytes stand.
use Rattle.std.proofs.Common.{◌≡◌, ℕ, zero, suc, ◌+◌, ◌<◌, ◌≤◌, Bool, true, false, cond, List, [], ◌∷◌, length, get_or, drop, Some, None, Option, refl, ap, sym, ◌∙◌, arith, length-drop}
use Rattle.std.specs.Option.{unwrap_or}
use Rattle.std.proofs.lemmas.Bool.{and_parts, eqb-true}
use Rattle.std.proofs.lemmas.List.{drop_more, drop_all, get_or-drop}
use Rattle.memchr.specs.Find.{FindsNeedle, OccursAt}
use Rattle.benchrun.specs.Split.{begins_tape, tape_at}

abbrev row_bytes : List ℕ
row_bytes = 40 ∷ 114 ∷ 111 ∷ 119 ∷ []

-- What stands in front where a tape line begins.
record Front (bytes : List ℕ) : Type 0 where
  long : 4 ≤ length bytes
  reads : (j : ℕ) → j < 4 → get_or bytes j 0 ≡ get_or row_bytes j 0

four_reads : (a b c d : ℕ) (rest : List ℕ) → a ≡ 40 → b ≡ 114 → c ≡ 111 → d ≡ 119 → (j : ℕ) → j < 4 → get_or (a ∷ b ∷ c ∷ d ∷ rest) j 0 ≡ get_or row_bytes j 0
four_reads a b c d rest e f g i zero h = e
four_reads a b c d rest e f g i (suc zero) h = f
four_reads a b c d rest e f g i (suc (suc zero)) h = g
four_reads a b c d rest e f g i (suc (suc (suc zero))) h = i
four_reads a b c d rest e f g i (suc (suc (suc (suc j)))) h = absurd (omega arith)

begun_front : (bytes : List ℕ) → begins_tape bytes ≡ true → Front bytes
begun_front [] e = absurd (let z : false ≡ true = e in cc)
begun_front (a ∷ []) e = absurd (let z : false ≡ true = e in cc)
begun_front (a ∷ b ∷ []) e = absurd (let z : false ≡ true = e in cc)
begun_front (a ∷ b ∷ c ∷ []) e = absurd (let z : false ≡ true = e in cc)
begun_front (a ∷ b ∷ c ∷ d ∷ rest) e =
    let one = and_parts _ _ e in
    let two = and_parts _ _ one.1 in
    let three = and_parts _ _ two.1 in
    record { long = omega arith; reads = four_reads a b c d rest (eqb-true a 40 one.0) (eqb-true b 114 two.0) (eqb-true c 111 three.0) (eqb-true d 119 three.1) }

front_begun : (bytes : List ℕ) → Front bytes → begins_tape bytes ≡ true
front_begun [] f = absurd (omega (arith, f.long))
front_begun (a ∷ []) f = absurd (omega (arith, f.long))
front_begun (a ∷ b ∷ []) f = absurd (omega (arith, f.long))
front_begun (a ∷ b ∷ c ∷ []) f = absurd (omega (arith, f.long))
front_begun (a ∷ b ∷ c ∷ d ∷ rest) f =
    let first : a ≡ 40 = f.reads 0 (omega arith) in
    let second : b ≡ 114 = f.reads 1 (omega arith) in
    let third : c ≡ 111 = f.reads 2 (omega arith) in
    let fourth : d ≡ 119 = f.reads 3 (omega arith) in
    rw (first, second, third, fourth) refl

-- A tape line begins in front, or does not.
begun : (bytes : List ℕ) → begins_tape bytes ≡ true → tape_at bytes ≡ 0
begun [] e = refl
begun (b ∷ bs) e = ap (λ t. cond t 0 (suc (tape_at bs))) e

not_begun : (b : ℕ) (bs : List ℕ) → begins_tape (b ∷ bs) ≡ false → tape_at (b ∷ bs) ≡ suc (tape_at bs)
not_begun b bs e = ap (λ t. cond t 0 (suc (tape_at bs))) e

untrue : (b : Bool) → (b ≡ true → ⊥) → b ≡ false
untrue true never = absurd (never refl)
untrue false never = refl

module _ (input : List ℕ) where
  -- The four bytes stand at a place where a tape line begins there, and nowhere else.
  begins_there : (i : ℕ) → OccursAt input row_bytes i → begins_tape (drop i input) ≡ true
  begins_there i o = front_begun (drop i input) (record { long = omega (arith, o.fits, length-drop i input); reads = λ j h. get_or-drop i input j 0 ∙ o.reads j h })

  stands_there : (i : ℕ) → begins_tape (drop i input) ≡ true → OccursAt input row_bytes i
  stands_there i e =
      let f = begun_front (drop i input) e in
      record { fits = omega (arith, f.long, length-drop i input); reads = λ j h. sym (get_or-drop i input j 0) ∙ f.reads j h }

  -- Where it begins at none of the first places, it is looked for behind them.
  passed : (i : ℕ) → i ≤ length input → ((j : ℕ) → j < i → begins_tape (drop j input) ≡ false) → tape_at input ≡ i + tape_at (drop i input)
  passed zero within none = omega arith
  passed (suc i) within none =
      let so_far = passed i (omega arith) (λ j h. none j (omega arith)) in
      let front = drop_more input i 0 (omega arith) in
      let here = none i (omega arith) in
      let step = ap tape_at front ∙ not_begun _ (drop (i + 1) input) (ap begins_tape (sym front) ∙ here) in
      let one_more : i + 1 ≡ suc i = omega arith in
      omega (arith, so_far, step, ap (λ n. tape_at (drop n input)) one_more)

  pub first_place : (r : Option ℕ) → FindsNeedle input row_bytes 0 r → unwrap_or r (length input) ≡ tape_at input
  first_place (Some i) found =
      let here = begun (drop i input) (begins_there i found.1) in
      let so_far = passed i (omega (arith, found.1.fits)) (λ j h. untrue _ (λ e. found.0.before j (omega arith) h (stands_there j e))) in
      omega (arith, so_far, here)
  first_place None none =
      let so_far = passed (length input) (omega arith) (λ j h. untrue _ (λ e. none j (omega arith) (omega arith) (stands_there j e))) in
      omega (arith, so_far, ap tape_at (drop_all (length input) input (omega arith)))

-- The same, where it was looked for in a list that is the input.
pub first_place_in : (whole input : List ℕ) (r : Option ℕ) → FindsNeedle whole row_bytes 0 r → whole ≡ input → unwrap_or r (length input) ≡ tape_at input
first_place_in whole input r found same = rw (← same) (first_place whole r found)

-- The place lies within the input.
within_input : (input : List ℕ) → tape_at input ≤ length input
within_input [] = omega arith
within_input (b ∷ bs) = elim (begins_tape (b ∷ bs)) as (λ t. cond t 0 (suc (tape_at bs)) ≤ suc (length bs)) [ true ↦ omega arith | false ↦ omega (arith, within_input bs) ]

pub tape_within : (input : List ℕ) (r : ℕ) → r ≡ tape_at input → r ≤ length input
tape_within input r e = omega (arith, e, within_input input)
