-- Digits alone are the print of a number from 0 on, and those behind a minus sign of one below 0.
use Rattle.std.proofs.Common.{◌≡◌, ◌≢◌, ◌^◌, ◌<◌, ◌∷◌, List, ℕ, zero, suc, decimal, ℤ, pos, negsuc, rules, refl, ◌-ℤ◌, Some, None, Option, sym, ap, ◌∙◌, subst, arith, w32, SFits}
use lib.Signed.{mag}
use Rattle.std.specs.Fmt.{signed_decimal}
use Rattle.std.specs.Option.{SomeIff}
use Rattle.std.proofs.lemmas.Fmt.{decimal_injective, signed_decimal_injective}
use Rattle.numerals.proofs.Numbers.{none_below}
use Rattle.std.proofs.lemmas.Int.{ints}
use Rattle.lists.specs.Steps.{Reads}
use Rattle.lists.proofs.Lines.{small}
use Rattle.lists.proofs.integer.Goals as goal

-- The print of a number is read as the number, and as none where it is not one of 32 bits.
reads : (bytes : List ℕ) (z : ℤ) (o : Option ℤ) → mag z < 2 ^ 63 → bytes ≡ signed_decimal z → SomeIff o (SFits w32 z) z → Reads signed_decimal (SFits w32) bytes o
reads bytes z (Some v) least is some = (subst (SFits w32) (sym some.1) some.0, is ∙ ap signed_decimal (sym some.1))
reads bytes z None least is none = λ v fit e. none (subst (SFits w32) (signed_decimal_injective v z (small v fit) least (sym e ∙ is)) fit)

-- So is a minus sign with the digits behind it of a number other than 0, which is taken from 0.
reads_below : (bytes digits : List ℕ) (n : ℕ) (o : Option ℤ) → n ≢ 0 → bytes ≡ 45 ∷ digits → n < 2 ^ 63 → digits ≡ decimal n → SomeIff o (SFits w32 (pos 0 -ℤ pos n)) (pos 0 -ℤ pos n) → Reads signed_decimal (SFits w32) bytes o
reads_below bytes digits zero o some minus least is h = absurd (some refl)
reads_below bytes digits (suc n) o some minus least is h =
    let z : pos 0 -ℤ pos (suc n) ≡ negsuc n = search (rules, ints) in
    reads bytes (negsuc n) o (omega (arith, least)) (minus ∙ ap (λ ds. 45 ∷ ds) is) (rw z at h)

-- A minus sign and the print of 0 are the print of no number.
no_zero : (bytes digits : List ℕ) → bytes ≡ 45 ∷ digits → digits ≡ decimal 0 → (v : ℤ) → SFits w32 v → bytes ≡ signed_decimal v → ⊥
no_zero bytes digits minus is = none_below bytes digits minus (λ n some least e. omega (arith, decimal_injective 0 n (omega arith) (omega arith) (sym is ∙ e)))

pub returns-in_default : goal.returns-in_default
returns-in_default c = reads _ (pos c.in_ok-n.n) _ (omega arith) c.in_ok-n.ensures.1 (search rules)

pub returns-in_err-magnitude : goal.returns-in_err-magnitude
returns-in_err-magnitude c =
    rw c.from_residual-in_err-magnitude.ensures
    (none_below c.args.bytes.now c.in-Some.digits.now c.in-Some.ensures (λ n some good e. c.in_err-magnitude.ensures n (omega arith) e))

pub returns-in-0 : goal.returns-in-0
returns-in-0 c = search (rules, no_zero)

pub returns-in_default-2 : goal.returns-in_default-2
returns-in_default-2 c =
    reads_below _ _ c.in_ok-magnitude.magnitude _ (search rules) c.in-Some.ensures (omega (arith, c.in_ok-magnitude.ensures.0)) c.in_ok-magnitude.ensures.1 c.checked_sub_unsigned.ensures
