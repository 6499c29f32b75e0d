-- Arrays made by the calls of one closure.
use Rattle.std.proofs.Common.{◌≡◌, ℕ, zero, suc, ◌+◌, ◌<◌, ◌≤◌, List, length, map, get_or, inl, inr, ◌∙◌, sym, subst, arith}
use denote.Param.Members.{Mut, Called}
use Rattle.std.proofs.lemmas.Bool.{cases_order}
use Rattle.std.proofs.lemmas.List.{get_or-map, length-map}
use Rattle.std.proofs.lemmas.List.FromFn.{fill_by_all}
use Rattle.std.specs.List.{range_with_len}
use Rattle.std.specs.Array.{IsFromFnResultFrom, IsFromFnResult}

-- Each call answers f of its index, and what holds of the closure stays: the elements are f of their places.
module _ {F B : Type 0} (g : Mut F (ℕ × Unit {0}) B) (Same : F → Type 0) (f : ℕ → B) (calls : (p : F) (i : ℕ) (y : B) (q : F) → Same p → Called g p (i, tt) y q → (y ≡ f i) × Same q) where
  made_at : (ys : List B) (d : B) (n i : ℕ) (p : F) → Same p → IsFromFnResultFrom g p ys i n → (k : ℕ) → i ≤ k → k < i + n → get_or ys k d ≡ f k
  made_at ys d zero i p s e k from below = absurd (omega arith)
  made_at ys d (suc n) i p s (q, y, at, call, rest) k from below =
      let one = calls p i y q s call in
      elim (cases_order i k) [
        | inl is ↦ subst (λ j. get_or ys j d ≡ f j) is (at.1 d ∙ one.0)
        | inr (inl above) ↦ made_at ys d n (i + 1) q one.1 rest k (omega arith) (omega arith)
        | inr (inr under) ↦ absurd (omega arith)
      ]

  pub made_by : (p : F) (ys : List B) (n : ℕ) (d : B) → Same p → IsFromFnResult g p ys n → ys ≡ map f (range_with_len 0 n)
  made_by p ys n d s made = fill_by_all f ys n d made.long (λ k h. made_at ys d n 0 p s made.each k (omega arith) (omega arith))

-- Each call answers f of the element of xs at its index, and what holds of the closure stays: the elements are f of those.
module _ {F A B : Type 0} (g : Mut F (ℕ × Unit {0}) B) (Same : F → Type 0) (f : A → B) (xs : List A) (d : A) (calls : (p : F) (i : ℕ) (y : B) (q : F) → Same p → Called g p (i, tt) y q → (y ≡ f (get_or xs i d)) × Same q) where
  pub mapped_by : (p : F) (ys : List B) (n : ℕ) (e : B) → length xs ≡ n → Same p → IsFromFnResult g p ys n → ys ≡ map f xs
  mapped_by p ys n e long s made =
      made_by g Same (λ i. f (get_or xs i d)) calls p ys n e s made
      ∙ sym (fill_by_all _ (map f xs) n e (length-map xs f ∙ long) (λ k h. get_or-map f xs k d e (omega arith)))
