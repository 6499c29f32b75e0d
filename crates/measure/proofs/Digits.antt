-- Digits behind a number that is counted up to a limit.
use Rattle.std.proofs.Common.{◌≡◌, ℕ, ◌+◌, ◌-◌, ◌*◌, ◌≤◌, min, List, [], ◌∷◌, ap, ◌∙◌, ⊎_elim, arith}
use Rattle.std.specs.List.{fold}
use Rattle.std.proofs.lemmas.Bool.{cases_lt}
use Rattle.language.specs.Numbers.{digits}

-- A number only grows with each digit behind it.
grows : (n : ℕ) (ds : List ℕ) → n ≤ digits n ds
grows n [] = omega arith
grows n (d ∷ ds) = omega (arith, grows (10 * n + (d - 48)) ds)

-- Past the limit it is no matter which number it is.
pub digits_limited : (m n : ℕ) (ds : List ℕ) → min (digits (min n m) ds) m ≡ min (digits n ds) m
digits_limited m n ds =
    ⊎_elim
    (λ h. ap (λ k. min (digits k ds) m) (omega arith))
    (λ h. omega (arith, grows (min n m) ds, grows n ds))
    (cases_lt n m)

-- Digit by digit, each time up to the limit, it is what all give up to the limit.
pub digits_counted : (m n : ℕ) (ds : List ℕ) → n ≤ m → fold (λ k d. min (10 * k + (d - 48)) m) n ds ≡ min (digits n ds) m
digits_counted m n [] h = omega arith
digits_counted m n (d ∷ ds) h = digits_counted m (min (10 * n + (d - 48)) m) ds (omega arith) ∙ digits_limited m (10 * n + (d - 48)) ds
