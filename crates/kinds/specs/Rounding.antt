-- Quotients to the nearest whole number, an exact half away from zero.
use Rattle.std.specs.Prelude.{◌≡◌, ℕ, suc, ◌+◌, ◌*◌, ◌/◌, ◌%◌, ◌<◌, ◌≤◌, cond, ℤ, pos, negsuc, ◌-ℤ◌, ◌*ℤ◌, neg_ℤ, ◌≢◌, nat_le, unsigned_abs}

-- The size of the nearest whole number to n / d: the quotient, and one more where the remainder is half of d or more.
abbrev pub nearest_size : ℕ → ℕ → ℕ
nearest_size n d = n / d + cond (nat_le d (2 * (n % d))) 1 0

-- The whole number nearest to n / d, by the signs of n and d.
abbrev pub nearest : ℤ → ℤ → ℤ
nearest (pos n) (pos d) = pos (nearest_size n d)
nearest (pos n) (negsuc d) = neg_ℤ (pos (nearest_size n (suc d)))
nearest (negsuc n) (pos d) = neg_ℤ (pos (nearest_size (suc n) d))
nearest (negsuc n) (negsuc d) = pos (nearest_size (suc n) (suc d))

-- How far d × q lies from n.
abbrev pub distance : ℤ → ℤ → ℤ → ℕ
distance n d q = unsigned_abs (d *ℤ q -ℤ n)

-- What it means that q is the whole number nearest to n / d: d × q is at most half of d away from n; no other whole
-- number comes nearer; and where d × q is exactly half of d away, it lies farther from zero than n.
pub record Nearest (n d q : ℤ) : Type 0 where
  pub near : 2 * distance n d q ≤ unsigned_abs d
  pub best : (k : ℤ) → distance n d q ≤ distance n d k
  pub half : 2 * distance n d q ≡ unsigned_abs d → unsigned_abs n < unsigned_abs (d *ℤ q)

-- The law of the rounding: for every n and every d but zero, `nearest n d` is the whole number nearest to n / d.
abbrev pub NearestLaw : Type 0
NearestLaw = (n d : ℤ) → (d ≢ pos 0) → Nearest n d (nearest n d)
