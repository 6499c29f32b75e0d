-- A quotient of 32 bits, wrapped.
use Rattle.std.proofs.Common.{◌≡◌, ℕ, zero, suc, ◌/◌, ◌^◌, ◌≤◌, ℤ, pos, negsuc, neg_ℤ, nat_abs, refl, sym, ap, ◌∙◌, mod-eq_of_lt, div-le_self, arith, w32, SFits, to_z, of_z}
use lib.Signed.{quot_z}
use Rattle.std.specs.Int.{int_wrap}
use Rattle.std.proofs.lemmas.Int.{to_z-of_z, int_wrap_fits, ints}

-- a number of at most 2 ^ 31 is read back from its bits as it wraps
small_wrapped : (z : ℤ) → nat_abs z ≤ 2 ^ 31 → to_z w32 (of_z w32 z) ≡ int_wrap w32 z
unfolding int_wrap
small_wrapped (pos n) h = ap (to_z w32) (sym (mod-eq_of_lt (omega arith)))
small_wrapped (negsuc n) h =
    let f : SFits w32 (negsuc n) = omega (arith, ints) in
    to_z-of_z w32 (negsuc n) f ∙ sym (int_wrap_fits w32 (negsuc n) f)

-- a minus changes no size
size_negated : (n : ℕ) → nat_abs (neg_ℤ (pos n)) ≡ n
size_negated zero = refl
size_negated (suc n) = refl

-- the size of a quotient is the quotient of the sizes
pub size_quotient : (a b : ℤ) → nat_abs (quot_z a b) ≡ nat_abs a / nat_abs b
size_quotient (pos a) (pos b) = refl
size_quotient (pos a) (negsuc b) = size_negated (a / suc b)
size_quotient (negsuc a) (pos b) = size_negated (suc a / b)
size_quotient (negsuc a) (negsuc b) = refl

-- a quotient is no larger than what is divided
quotient_small : (a b : ℤ) → nat_abs (quot_z a b) ≤ nat_abs a
quotient_small a b = rw size_quotient (div-le_self (nat_abs a) (nat_abs b))

-- a quotient is read back from its bits as it wraps
pub quotient_wrapped : (a b : ℤ) → SFits w32 a → to_z w32 (of_z w32 (quot_z a b)) ≡ int_wrap w32 (quot_z a b)
quotient_wrapped a b f = small_wrapped (quot_z a b) (omega (arith, ints, quotient_small a b))
