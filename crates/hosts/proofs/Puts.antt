-- One line more of the outputs that are put or cleared.
use Rattle.std.proofs.Common.{◌≡◌, ℕ, zero, suc, ◌+◌, ◌<◌, ◌≤◌, List, [], ◌∷◌, ◌++◌, length, get_or, take, drop, set, replicate, ℤ, pos, Some, None, Option, refl, ap, ◌∙◌, add-one, arith}
use Rattle.hosts.specs.Levels.{settled, cleared}

-- The held outputs after line i took its value, if it has one.
abbrev pub settle_one : List ℤ → ℕ → Option ℤ → List ℤ
settle_one held i None = held
settle_one held i (Some v) = set held i v

-- Where there are no lines, none takes a value.
one_nil : (i : ℕ) (p : Option ℤ) → [] ≡ settle_one [] i p
one_nil i None = refl
one_nil i (Some v) = refl

-- Behind a line y, what line i takes is taken by the line after i.
one_behind : (y : ℤ) (held after : List ℤ) (i : ℕ) (p : Option ℤ) → after ≡ settle_one held i p → y ∷ after ≡ settle_one (y ∷ held) (suc i) p
one_behind y held after i None e = ap (λ (r : List ℤ). y ∷ r) e
one_behind y held after i (Some v) e = ap (λ (r : List ℤ). y ∷ r) e

-- After one value more, line i was put last: by induction on the lines.
settles : (i : ℕ) (puts : List (Option ℤ)) (held : List ℤ) → i < length puts → settled (take (suc i) puts) held ≡ settle_one (settled (take i puts) held) i (get_or puts i None)
settles i [] held h = absurd (omega arith)
settles zero (p ∷ puts) [] h = one_nil 0 p
settles (suc i) (p ∷ puts) [] h = one_nil (suc i) (get_or puts i None)
settles zero (None ∷ puts) (x ∷ held) h = refl
settles zero (Some v ∷ puts) (x ∷ held) h = refl
settles (suc i) (None ∷ puts) (x ∷ held) h = one_behind x _ _ i _ (settles i puts held (omega arith))
settles (suc i) (Some v ∷ puts) (x ∷ held) h = one_behind v _ _ i _ (settles i puts held (omega arith))

-- The same at i + 1, for a value known to be line i's.
pub settled_more : (i : ℕ) (puts : List (Option ℤ)) (held : List ℤ) (p : Option ℤ) → i < length puts → get_or puts i None ≡ p → settled (take (i + 1) puts) held ≡ settle_one (settled (take i puts) held) i p
settled_more i puts held p h e = rw add-one (settles i puts held h ∙ ap (settle_one (settled (take i puts) held) i) e)

-- After one line more, line i was cleared last: by induction on the lines.
clears : (i : ℕ) (held : List ℤ) → cleared (suc i) held ≡ set (cleared i held) i (pos 0)
clears zero [] = refl
clears (suc i) [] = refl
clears zero (x ∷ held) = refl
clears (suc i) (x ∷ held) = ap (λ (r : List ℤ). pos 0 ∷ r) (clears i held)

-- The same at i + 1.
pub cleared_more : (i : ℕ) (held : List ℤ) → cleared (i + 1) held ≡ set (cleared i held) i (pos 0)
cleared_more i held = rw add-one (clears i held)

-- Where there are n lines, clearing them is n zeros and then the rest.
pub cleared_zeros : (n : ℕ) (held : List ℤ) → n ≤ length held → cleared n held ≡ replicate n (pos 0) ++ drop n held
cleared_zeros zero held h = refl
cleared_zeros (suc n) [] h = absurd (omega arith)
cleared_zeros (suc n) (x ∷ held) h = ap (λ (r : List ℤ). pos 0 ∷ r) (cleared_zeros n held (omega arith))
