-- What is known of bytes that print a number, and of digits that were read as one.
use Rattle.std.proofs.Common.{◌≡◌, ℕ, zero, suc, ◌+◌, ◌*◌, ◌^◌, ◌<◌, ◌≤◌, List, [], ◌∷◌, length, get_or, take, ℤ, pos, negsuc, decimal, sym, refl, ap, ◌∙◌, arith, w32, SFits}
use Rattle.std.specs.Str.Parse.{AllDigits, digits_value, digits_value_after}
use Rattle.std.specs.Char.{digit_value}
use Rattle.std.specs.Fmt.{signed_decimal}
use Rattle.std.proofs.lemmas.Fmt.{decimal_digit, decimal_nonempty, decimal-digits_value, digits_decimal, first_decimal, digits_value-decimal}
use Rattle.std.proofs.lemmas.List.{take_all}
use Rattle.std.proofs.lemmas.Str.Parse.{IsNumeralModel, digit_at, numerals_by_value, tells_digits}
use Rattle.numerals.specs.Print.{BaseTen}

own : IsNumeralModel (AllDigits 10) (digits_value 10)
own = numerals_by_value (AllDigits 10) tells_digits

-- Only 0 has a zero in front.
zero_first : (n : ℕ) → n < 2 ^ 64 → get_or (decimal n) 0 0 ≡ 48 → n ≡ 0
zero_first zero small z = refl
zero_first (suc n) small z = omega (arith, first_decimal (suc n) (omega arith) small)

-- The digits of a number are its digits in base ten.
pub base_ten : (n : ℕ) → n < 2 ^ 64 → BaseTen n (decimal n)
base_ten n small = record {
  some = decimal_nonempty n small;
  digits = λ i h. digit_at (decimal n) i (digits_decimal own n small) h;
  plain = λ z. ap length (ap decimal (zero_first n small z) ∙ decimal_digit 0 (omega arith));
  writes = digits_value-decimal own n small;
}

pub base_ten_print : (bytes : List ℕ) (n : ℕ) → n < 2 ^ 64 → bytes ≡ decimal n → BaseTen n bytes
base_ten_print bytes n small e = rw e (base_ten n small)

-- More digits make no smaller number.
grown : (a : ℕ) (ds : List ℕ) → a ≤ digits_value_after 10 a ds
grown a [] = omega arith
grown a (d ∷ ds) = omega (arith, grown (a * 10 + digit_value d) ds)

front_after_le : (a i : ℕ) (ds : List ℕ) → digits_value_after 10 a (take i ds) ≤ digits_value_after 10 a ds
front_after_le a zero ds = grown a ds
front_after_le a (suc i) [] = omega arith
front_after_le a (suc i) (d ∷ ds) = front_after_le (a * 10 + digit_value d) i ds

-- A front of the digits of n is no more than n.
pub front_le : (bytes : List ℕ) (n i : ℕ) → BaseTen n bytes → digits_value 10 (take i bytes) ≤ n
front_le bytes n i b = omega (arith, front_after_le 0 i bytes)

-- Digits that are all read, of which a zero in front is the only one, are the print of their number.
pub read_print : (ds : List ℕ) (i : ℕ) → AllDigits 10 (take i ds) → length ds ≤ i → 0 < length ds → (get_or ds 0 0 ≡ 48 → length ds ≡ 1) → digits_value 10 (take i ds) < 2 ^ 64 → ds ≡ decimal (digits_value 10 (take i ds))
read_print ds i all whole some zero-alone small =
    let same = take_all i ds whole in
    rw same (sym (decimal-digits_value own ds (rw same at all) some zero-alone (rw same at small)))

-- The digits of a number do not begin with a minus sign.
no_minus : (n : ℕ) (rest : List ℕ) → n < 2 ^ 64 → 45 ∷ rest ≡ decimal n → ⊥
no_minus n rest small e = omega (arith, (base_ten_print (45 ∷ rest) n small e).digits 0 (omega arith))

-- Bytes behind a minus sign that are the digits of no number print no number of 32 bits.
pub none_below : (bytes digits : List ℕ) → bytes ≡ 45 ∷ digits → ((n : ℕ) → 0 < n → n ≤ 2 ^ 31 → digits ≡ decimal n → ⊥) → (z : ℤ) → SFits w32 z → bytes ≡ signed_decimal z → ⊥
none_below bytes digits b none (pos n) fit e = no_minus n digits (omega arith) (sym b ∙ e)
none_below bytes digits b none (negsuc n) fit e = none (suc n) (omega arith) (omega arith) (let same : 45 ∷ digits ≡ 45 ∷ decimal (suc n) = sym b ∙ e in cc)
