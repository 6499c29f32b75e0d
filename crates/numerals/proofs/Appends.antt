-- Appends by one call, and one append after another.
use Rattle.std.proofs.Common.{◌≡◌, ℕ, suc, ◌+◌, ◌<◌, ◌≤◌, true, false, cond, List, [], ◌∷◌, ◌++◌, length, get_or, take, ℤ, pos, negsuc, nat_abs, is_ok, is_err, Ok, Err, decimal, Result, sym, refl, ap, ◌∙◌, append_assoc, arith, length-append, rules}
use lib.Signed.{lt_z}
use Rattle.std.specs.Fmt.{signed_decimal}
use Rattle.std.proofs.lemmas.List.{append-nil, flat_map_more, take_at, take_more, take-take}
use Rattle.std.proofs.lemmas.Int.{ints}
use Rattle.numerals.specs.Print.{Appended, Kept, items, spaced, bracketed}

-- What more follows is kept, and so is what did not change.
pub kept_front : {X : Type 0} (before rest after : List X) → after ≡ before ++ rest → Kept before after
kept_front before rest after e = rw e (take_at before rest (length before) refl)

pub kept_same : {X : Type 0} (before after : List X) → after ≡ before → Kept before after
kept_same before after e = kept_front before [] after (e ∙ sym (append-nil before))

-- What a call that appends all or nothing did.
pub appended : {U E : Type 0} (before new after : List ℕ) (r : Result U E) → after ≡ cond (is_ok r) (before ++ new) before → Appended before new r after
appended before new after (Ok u) e = e
appended before new after (Err f) e = kept_same before after e

-- What stood in front of bytes that are kept is kept.
pub kept_after : (before first mid after : List ℕ) → mid ≡ before ++ first → Kept mid after → Kept before after
kept_after before first mid after e k =
    let longer : length before ≤ length mid = omega (arith, ap length e, length-append before first) in
    sym (take-take (length before) (length mid) after longer) ∙ ap (take (length before)) (k ∙ e) ∙ take_at before first (length before) refl

-- An append after bytes that were appended appends both.
pub appended_after : {U E : Type 0} (before first mid new after : List ℕ) (r : Result U E) → mid ≡ before ++ first → Appended mid new r after → Appended before (first ++ new) r after
appended_after before first mid new after (Ok u) e a = a ∙ rw (e, append_assoc)
appended_after before first mid new after (Err f) e a = kept_after before first mid after e a

-- A call that failed has kept what was there.
pub failed : {U E : Type 0} (before new after : List ℕ) (r : Result U E) → is_err r ≡ true → Kept before after → Appended before new r after
failed before new after (Ok u) e b = search rules
failed before new after (Err f) e b = b

-- A minus sign and the digits of the magnitude make a negative number.
pub appended_below : {U E : Type 0} (before mid after : List ℕ) (z : ℤ) (r : Result U E) → lt_z z (pos 0) ≡ true → mid ≡ before ++ 45 ∷ [] → Appended mid (decimal (nat_abs z)) r after → Appended before (signed_decimal z) r after
appended_below before mid after (pos n) r h e a = search (rules, ints)
appended_below before mid after (negsuc n) r h e a = appended_after before (45 ∷ []) mid (decimal (suc n)) after r e a

-- The digits of the magnitude make any other number.
pub appended_above : {U E : Type 0} (before after : List ℕ) (z : ℤ) (r : Result U E) → lt_z z (pos 0) ≡ false → Appended before (decimal (nat_abs z)) r after → Appended before (signed_decimal z) r after
appended_above before after (pos n) r h a = a
appended_above before after (negsuc n) r h a = search (rules, ints)

-- A space and a value more.
pub items_more : (before : List ℕ) (vs : List ℤ) (i : ℕ) → i < length vs → before ++ items (take (i + 1) vs) ≡ (before ++ items (take i vs)) ++ 32 ∷ [] ++ signed_decimal (get_or vs i (pos 0))
items_more before vs i h = rw (take_more vs i (pos 0) h, ← flat_map_more (λ v. 32 ∷ signed_decimal v)) (simp append_assoc)

-- The first value, and the others with a space before each.
pub appended_spaced : {U E : Type 0} (before mid after : List ℕ) (vs : List ℤ) (v : ℤ) (ws : List ℤ) (r : Result U E) → vs ≡ v ∷ ws → mid ≡ before ++ signed_decimal v → Appended mid (items ws) r after → Appended before (spaced vs) r after
appended_spaced before mid after vs v ws r e f a = rw e (appended_after before (signed_decimal v) mid (items ws) after r f a)

-- The brackets, and the values between them.
pub in_brackets : (before one two after : List ℕ) (vs : List ℤ) → one ≡ before ++ 40 ∷ [] → two ≡ one ++ spaced vs → after ≡ two ++ 41 ∷ [] → after ≡ before ++ bracketed vs
in_brackets before one two after vs left values right = right ∙ rw (values, left) (simp append_assoc)
