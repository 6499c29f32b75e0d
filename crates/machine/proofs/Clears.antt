-- One cell more is cleared.
use Rattle.std.proofs.Common.{◌≡◌, ℕ, ◌+◌, ◌<◌, List, [], ◌∷◌, ◌++◌, length, get_or, drop, set, replicate, sym, ap, ◌∙◌, append_assoc}
use lib.ListN.{length-replicate}
use Rattle.std.proofs.lemmas.List.{drop_more, set_at, replicate_more}

pub cleared_more : {V : Type 0} (xs : List V) (i : ℕ) (z : V) → i < length xs → set (replicate i z ++ drop i xs) i z ≡ replicate (i + 1) z ++ drop (i + 1) xs
cleared_more xs i z h =
    ap (λ (x : List _). set (replicate i z ++ x) i z) (drop_more xs i z h)
    ∙ set_at (replicate i z) (get_or xs i z) (drop (i + 1) xs) z i (length-replicate i z)
    ∙ sym (ap (λ (x : List _). x ++ drop (i + 1) xs) (sym (replicate_more i z)) ∙ append_assoc (replicate i z) (z ∷ []) (drop (i + 1) xs))
