-- The print of a list tells the list.
use Rattle.std.proofs.Common.{◌≡◌, ℕ, List, [], ◌∷◌, ◌++◌, ℤ, sym, refl, ap, ◌∙◌, arith, w32, SFits}
use Rattle.std.specs.Fmt.{signed_decimal}
use Rattle.std.specs.List.{AllByRecursion}
use Rattle.std.proofs.lemmas.Fmt.{signed_decimal_injective}
use Rattle.std.proofs.lemmas.List.{append_cancel_left}
use Rattle.lists.specs.Steps.{behind, ending, token}
use Rattle.lists.proofs.Lines.{behind_value, ending_more, shown_ending, small, token_value}
use Rattle.rows.specs.Rows.{PrintTells}

-- How a line goes on behind its head tells the values and the rest.
ending_tells : (vs ws : List ℤ) (x y : List ℕ) → AllByRecursion (SFits w32) vs → AllByRecursion (SFits w32) ws → ending vs x ≡ ending ws y → (vs ≡ ws) × (x ≡ y)
ending_tells [] [] x y fit fit₁ e = (refl, cc)
ending_tells [] (w ∷ ws) x y fit fit₁ e = absurd (let other : ◌≡◌ {A = ℕ} 41 32 = cc in omega arith)
ending_tells (v ∷ vs) [] x y fit fit₁ e = absurd (let other : ◌≡◌ {A = ℕ} 32 41 = cc in omega arith)
ending_tells (v ∷ vs) (w ∷ ws) x y fit fit₁ e =
    let tails : signed_decimal v ++ ending vs x ≡ signed_decimal w ++ ending ws y = (let same = sym (ending_more v vs x) ∙ e ∙ ending_more w ws y in cc) in
    let first = signed_decimal_injective v w (small v fit.0) (small w fit₁.0) (sym (token_value v vs x fit.0) ∙ ap token tails ∙ token_value w ws y fit₁.0) in
    let rest = ending_tells vs ws x y fit.1 fit₁.1 (sym (behind_value v vs x fit.0) ∙ ap behind tails ∙ behind_value w ws y fit₁.0) in
    (ap (λ z. z ∷ vs) first ∙ ap (λ z. w ∷ z) rest.0, rest.1)

pub print_tells : PrintTells
print_tells head vs ws x y fit fit₁ e =
    let lines = sym (shown_ending head vs x) ∙ e ∙ shown_ending head ws y in
    ending_tells vs ws x y fit fit₁ (append_cancel_left head (ending vs x) (ending ws y) (let tails : head ++ ending vs x ≡ head ++ ending ws y = cc in tails))
