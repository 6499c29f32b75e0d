-- Parts of lists: of a text, and of the rows of a sheet.
use Rattle.std.proofs.Common.{◌≡◌, ℕ, zero, suc, ◌+◌, ◌-◌, ◌<◌, ◌≤◌, List, [], ◌∷◌, ◌++◌, length, get_or, take, drop, set, sym, refl, ap, ◌∙◌, arith}
use Rattle.std.proofs.lemmas.List.Edits.{between_more}
use Rattle.std.proofs.lemmas.List.{get_or-take, get_or_default}

-- the part of one byte
pub part_one : (t : List ℕ) (j : ℕ) → j < length t → take (j + 1 - j) (drop j t) ≡ get_or t j 0 ∷ []
part_one t j l =
    let none : j - j ≡ 0 = omega arith in
    between_more t j j 0 (omega arith) l ∙ ap (λ n. take n (drop j t) ++ get_or t j 0 ∷ []) none

-- the front of a list that is written to
pub take_set_in : {X : Type 0} (n : ℕ) (xs : List X) (i : ℕ) (y : X) → take n (set xs i y) ≡ set (take n xs) i y
take_set_in zero [] i y = refl
take_set_in zero (x ∷ xs) i y = refl
take_set_in (suc n) [] i y = refl
take_set_in (suc n) (x ∷ xs) zero y = refl
take_set_in (suc n) (x ∷ xs) (suc i) y = ap (λ l. x ∷ l) (take_set_in n xs i y)

-- what stands in the front of a list, at any default
pub in_front : {X : Type 0} (xs : List X) (n i : ℕ) (d e : X) → i < n → n ≤ length xs → get_or xs i e ≡ get_or (take n xs) i d
in_front xs n i d e h l = get_or_default xs i e d (omega arith) ∙ sym (get_or-take n xs i d h)
