-- One clock more rises.
use Rattle.std.proofs.Common.{◌≡◌, ℕ, zero, suc, ◌+◌, List, [], ◌∷◌, ◌++◌, get_or, set, take, drop, refl, ap, add-one}
use Rattle.board.specs.declared.rows.Row.{Row}
use Rattle.board.specs.Rows.{ticked, risen}

rises : (i : ℕ) (rows : List Row) (d : Row) → ticked (suc i) rows ≡ set (ticked i rows) i (risen (get_or (ticked i rows) i d))
rises zero [] d = refl
rises (suc i) [] d = refl
rises zero (r ∷ rows) d = refl
rises (suc i) (r ∷ rows) d = ap (λ (x : List Row). risen r ∷ x) (rises i rows d)

pub ticked_more : (i : ℕ) (rows : List Row) (d : Row) → ticked (i + 1) rows ≡ set (ticked i rows) i (risen (get_or (ticked i rows) i d))
ticked_more i rows d = rw (add-one i) (rises i rows d)

-- The first n clocks rise in front of the rows that stay.
pub ticked_front : (n : ℕ) (rows : List Row) → ticked n (take n rows) ++ drop n rows ≡ ticked n rows
ticked_front zero rows = refl
ticked_front (suc n) [] = refl
ticked_front (suc n) (r ∷ rows) = ap (λ (x : List Row). risen r ∷ x) (ticked_front n rows)
