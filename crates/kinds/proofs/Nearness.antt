-- The number that `nearest` gives is the nearest whole number.
use Rattle.std.proofs.Common.{◌≡◌, ℕ, zero, suc, ◌+◌, ◌*◌, ◌/◌, ◌%◌, ◌<◌, ◌≤◌, leb, ◌⊎◌, ℤ, pos, negsuc, ◌*ℤ◌, neg_ℤ, nat_abs, sym, refl, ap, ◌∙◌, inl, inr, mul-le-mul_left, mul-suc, mul-add, arith}
use native.Mathlib.Nat.{div-add-mod}
use borrow.Author.Differences.{up, down}
use lib.IntN.{*ℤ-zero, *ℤ-negsuc}
use Rattle.std.proofs.lemmas.Nat.{mod_below}
use Rattle.std.proofs.lemmas.Int.{ints}
use Rattle.std.proofs.lemmas.Bool.{cases_order, cond_both, leb-true, leb-false}
use Rattle.kinds.specs.Rounding.{distance, nearest_size, Nearest, NearestLaw}

-- d × q is at most half of d above n, and less than half of d below it
record Close (n d q : ℕ) : Type 0 where
  above : 2 * (d * q) ≤ 2 * n + d
  below : 2 * n < 2 * (d * q) + d

-- the nearest size is close
size_close : (n d : ℕ) → 0 < d → Close n d (nearest_size n d)
size_close n d h =
    let split = div-add-mod n d in
    let rest = mod_below n d h in
    cond_both (leb d (2 * (n % d))) 1 0 (λ more. Close n d (n / d + more))
    (λ e. let high = leb-true _ _ e in let sum = mul-add d (n / d) 1 in record { above = omega arith; below = omega arith })
    (λ e. let low = leb-false _ _ e in let sum = mul-add d (n / d) 0 in record { above = omega arith; below = omega arith })

-- a and b are the same or at least m apart
abbrev Apart : ℕ → ℕ → ℕ → Type 0
Apart m a b = (a ≡ b) ⊎ ((a + m ≤ b) ⊎ (b + m ≤ a))

-- two multiples of m
multiples_apart : (m u v : ℕ) → Apart m (m * u) (m * v)
multiples_apart m u v = elim (cases_order u v) [
  | inl e ↦ inl (ap (λ x. m * x) e)
  | inr (inl h) ↦ inr (inl (rw (← mul-suc) (mul-le-mul_left m h)))
  | inr (inr h) ↦ inr (inr (rw (← mul-suc) (mul-le-mul_left m h)))
]

-- m × k and m × q, with what is taken away on the other side
products_apart : (m : ℕ) (k q : ℤ) → Apart m (m * up k + m * down q) (m * up q + m * down k)
products_apart m k q = simp mul-add at (multiples_apart m (up k + down q) (up q + down k))

-- what is at most half of d away is the best, since another multiple of d is d away from it
near_best : (n d q k : ℤ) → 2 * distance n d q ≤ nat_abs d → distance n d q ≤ distance n d k
near_best n (pos m) q k h = omega (arith, ints, products_apart m k q)
near_best n (negsuc m) q k h = omega (arith, ints, products_apart (suc m) k q)

-- a is m and b is k, or each is so with a minus
abbrev Alike : ℤ → ℕ → ℤ → ℕ → Type 0
Alike a m b k = ((a ≡ pos m) × (b ≡ pos k)) ⊎ ((a ≡ neg_ℤ (pos m)) × (b ≡ neg_ℤ (pos k)))

-- what is near for the sizes is near for the numbers, where d × q has the sign of n
signed_near : (n d q : ℤ) (m : ℕ) → (d ≡ pos 0 → ⊥) → Alike n m (d *ℤ q) (nat_abs d * nearest_size m (nat_abs d)) → Nearest n d q
signed_near n d q m h p =
    let c = size_close m (nat_abs d) (omega (arith, ints)) in
    let near : 2 * distance n d q ≤ nat_abs d = omega (arith, ints) in
    record { near = near; best = λ k. near_best n d q k near; half = λ e. omega (arith, ints) }

-- a factor with a minus
times_negated : (d : ℤ) (k : ℕ) → d *ℤ neg_ℤ (pos k) ≡ neg_ℤ (d *ℤ pos k)
times_negated d zero = *ℤ-zero d ∙ sym (ap neg_ℤ (*ℤ-zero d))
times_negated d (suc k) = *ℤ-negsuc d k

-- by the signs of n and d
pub nearest_near : NearestLaw
nearest_near (pos n) (pos d) h = signed_near _ _ _ n h (inl (refl, refl))
nearest_near (pos n) (negsuc d) h = signed_near _ _ _ n h (inl (refl, times_negated (negsuc d) (nearest_size n (suc d)) ∙ omega (arith, ints)))
nearest_near (negsuc n) (pos d) h = signed_near _ _ _ (suc n) h (inr (refl, times_negated (pos d) (nearest_size (suc n) d)))
nearest_near (negsuc n) (negsuc d) h = signed_near _ _ _ (suc n) h (inr (refl, refl))
