-- A walk along a list to the first place where a test holds.
use Rattle.std.proofs.Common.{◌≡◌, ℕ, suc, ◌+◌, Bool, true, false, cond, List, [], ◌∷◌, Some, None, sym, ap, ◌∙◌, add-one}
use Rattle.language.specs.Basics.{first_where}

-- After i places, of which none was the one: what was passed, the nearest first, and that the place is to be found in the rest.
pub record Walk {A : Type 0} (p : List A → A → List A → Bool) (all rest : List A) (i : ℕ) : Type 0 where
  pub passed : List A
  pub goes : first_where p (i + 1) passed rest ≡ first_where p 1 [] all

-- It is not at the next place.
abbrev pub walk_further : {A : Type 0} {p : List A → A → List A → Bool} {all rest : List A} {i : ℕ} (w : Walk p all rest i) (x : A) (xs : List A) → rest ≡ x ∷ xs → false ≡ p w.passed x xs → Walk p all xs (i + 1)
walk_further {p = p} {i = i} w x xs e here = record {
  passed = x ∷ w.passed;
  goes =
      ap (λ n. first_where p n (x ∷ w.passed) xs) (add-one (i + 1))
      ∙ ap (λ b. cond b (Some (i + 1)) (first_where p (suc (i + 1)) (x ∷ w.passed) xs)) here
      ∙ ap (first_where p (i + 1) w.passed) (sym e)
      ∙ w.goes;
}

-- It is the next place.
pub walk_here : {A : Type 0} {p : List A → A → List A → Bool} {all rest : List A} {i : ℕ} (w : Walk p all rest i) (x : A) (xs : List A) → rest ≡ x ∷ xs → true ≡ p w.passed x xs → Some (i + 1) ≡ first_where p 1 [] all
walk_here {p = p} {i = i} w x xs e here =
    ap (λ b. cond b (Some (i + 1)) (first_where p (suc (i + 1)) (x ∷ w.passed) xs)) here
    ∙ ap (first_where p (i + 1) w.passed) (sym e)
    ∙ w.goes

-- There is none.
pub walk_ends : {A : Type 0} {p : List A → A → List A → Bool} {all rest : List A} {i : ℕ} (w : Walk p all rest i) → rest ≡ [] → None ≡ first_where p 1 [] all
walk_ends {p = p} {i = i} w e = ap (first_where p (i + 1) w.passed) (sym e) ∙ w.goes
