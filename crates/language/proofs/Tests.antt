-- Tests of lines and statements by the rows at which they begin, and the first that passes one.
use Rattle.std.proofs.Common.{◌≡◌, ℕ, suc, ◌+◌, Bool, true, false, cond, not, ◌||◌, ltb, List, [], ◌∷◌, map, length, take, position, Some, None, Option, refl, ap, ◌∙◌, ⊎_elim, arith}
use Rattle.std.proofs.lemmas.Bool.{cases_lt}
use Rattle.std.proofs.lemmas.List.Folds.{length-prefix_len}
use Rattle.std.proofs.lemmas.Bool.Decides.{nat_tests}
use Rattle.std.specs.List.{list_any, position_or_len, prefix_len}
use Rattle.language.specs.Basics.{any, changed, first_where, leading}

-- A test holds of what f reads at one of some rows.
pub any_read : {A : Type 0} (p : A → Bool) (f : ℕ → A) (rows : List ℕ) → list_any (λ at. p (f at)) rows ≡ any p (map f rows)
any_read p f [] = refl
any_read p f (at ∷ rows) = ap (λ b. p (f at) || b) (any_read p f rows)

-- A place behind the first is one more than among the others.
place_on : (k n : ℕ) → cond (ltb (1 + k) (suc n)) (Some (1 + k)) None ≡ changed suc (cond (ltb k n) (Some k) None)
place_on k n = ⊎_elim (λ h. grind (arith, nat_tests)) (λ h. grind (arith, nat_tests)) (cases_lt k n)

-- The first place at which a test holds is the first of all, or is told by the others.
pub position_more : {A : Type 0} (p : A → Bool) (x : A) (xs : List A) → position p (x ∷ xs) ≡ cond (p x) (Some 0) (changed suc (position p xs))
position_more p x xs =
    let k = position_or_len p xs in
    elim (p x)
    as (λ b. cond (ltb (cond (not b) (1 + k) 0) (suc (length xs))) (Some (cond (not b) (1 + k) 0)) None ≡ cond b (Some 0) (changed suc (position p xs)))
    [ true ↦ grind (arith, nat_tests) | false ↦ place_on k (length xs) ]

-- The same where places are counted from n on.
pub counted_on : (n : ℕ) (b : Bool) (o : Option ℕ) → changed (λ i. n + i) (cond b (Some 0) (changed suc o)) ≡ cond b (Some n) (changed (λ i. suc n + i) o)
counted_on n true o = ap Some (omega arith)
counted_on n false None = refl
counted_on n false (Some i) = ap Some (omega arith)

-- A test that asks nothing of the places around holds first where it does of what f reads at some rows.
pub first_read : {A : Type 0} (t : A → Bool) (f : ℕ → A) (n : ℕ) (before : List A) (ats : List ℕ)
    → changed (λ i. n + i) (position (λ at. t (f at)) ats) ≡ first_where (λ bs x xs. t x) n before (map f ats)
first_read t f n before [] = refl
first_read t f n before (at ∷ ats) =
    ap (changed (λ i. n + i)) (position_more (λ q. t (f q)) at ats)
    ∙ counted_on n (t (f at)) (position (λ q. t (f q)) ats)
    ∙ ap (cond (t (f at)) (Some n)) (first_read t f (suc n) (f at ∷ before) ats)

-- How many lead by a test of what f reads at some rows.
prefix_read : {A : Type 0} (t : A → Bool) (f : ℕ → A) (ats : List ℕ) → prefix_len (λ at. t (f at)) ats ≡ length (leading t (map f ats))
prefix_read t f [] = refl
prefix_read t f (at ∷ ats) =
    elim (t (f at)) as (λ b. cond b (1 + prefix_len (λ q. t (f q)) ats) 0 ≡ length (cond b (f at ∷ leading t (map f ats)) []))
    [ true ↦ omega (arith, prefix_read t f ats) | false ↦ refl ]

pub leading_read : {A : Type 0} (t : A → Bool) (f : ℕ → A) (ats : List ℕ) → length (take (prefix_len (λ at. t (f at)) ats) ats) ≡ length (leading t (map f ats))
leading_read t f ats = length-prefix_len (λ at. t (f at)) ats ∙ prefix_read t f ats
