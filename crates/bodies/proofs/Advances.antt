-- A front copied value by value.
use Rattle.std.proofs.Common.{◌≡◌, ℕ, ◌+◌, ◌<◌, List, [], ◌∷◌, ◌++◌, length, get_or, take, drop, set, sym, ap, ◌∙◌, append_assoc, arith}
use Rattle.std.proofs.lemmas.List.{take_more, drop_more, set_at, length-take-le}

-- one value more is copied
pub copied_more : {V : Type 0} (to from : List V) (i : ℕ) (d : V) → i < length to → i < length from → set (take i from ++ drop i to) i (get_or from i d) ≡ take (i + 1) from ++ drop (i + 1) to
copied_more to from i d h l =
    let p : length (take i from) ≡ i = length-take-le i from (omega arith) in
    ap (λ (x : List _). set (take i from ++ x) i (get_or from i d)) (drop_more to i d h)
    ∙ set_at (take i from) (get_or to i d) (drop (i + 1) to) (get_or from i d) i p
    ∙ sym (ap (λ (x : List _). x ++ drop (i + 1) to) (take_more from i d l) ∙ append_assoc (take i from) (get_or from i d ∷ []) (drop (i + 1) to))
