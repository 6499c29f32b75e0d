-- Worked values of the kinds.
use Rattle.std.specs.Prelude.{◌≡◌, ℕ, List, [], ◌∷◌, map, ℤ, pos, neg_ℤ, Some, None, Ok, Err, Option, Result}
use Rattle.kinds.specs.declared.NoQuotient.{NoQuotient}
use Rattle.kinds.specs.Ops.{Ops}
use Rattle.kinds.specs.Longs as Longs
use Rattle.kinds.specs.Millis as Millis

-- What an operation answers and what it should answer, as raw numbers; none stands for no quotient.
pub record Case : Type 0 where
  pub answer : Option ℤ
  pub wanted : Option ℤ

-- A case, as it reads: an answer gives what is wanted.
infix 40 ◌gives◌
abbrev ◌gives◌ : Option ℤ → Option ℤ → Case
a gives w = record { answer = a; wanted = w }

-- The number -n.
abbrev minus : ℕ → ℤ
minus n = neg_ℤ (pos n)

-- What a kind answers, written back as a raw number.
abbrev written : {V : Type 0} → Ops V → Result V NoQuotient → Option ℤ
written k (Ok v) = Some (k.writing v)
written k (Err _) = None

-- The sum of two raw numbers in a kind.
abbrev sum_of : {V : Type 0} → Ops V → ℤ → ℤ → Option ℤ
sum_of k a b = written k (Ok (k.sum (k.reading a) (k.reading b)))

-- The product of two raw numbers in a kind.
abbrev product_of : {V : Type 0} → Ops V → ℤ → ℤ → Option ℤ
product_of k a b = written k (Ok (k.product (k.reading a) (k.reading b)))

-- The quotient of two raw numbers in a kind.
abbrev quotient_of : {V : Type 0} → Ops V → ℤ → ℤ → Option ℤ
quotient_of k a b = written k (k.quotient (k.reading a) (k.reading b))

-- The worked values.
abbrev pub worked : List Case
worked =
    (sum_of Longs.ops (pos 2147483647) (pos 1) gives Some (minus 2147483648))
    ∷ (quotient_of Longs.ops (minus 7) (pos 2) gives Some (minus 3))
    ∷ (quotient_of Longs.ops (minus 2147483648) (minus 1) gives Some (minus 2147483648))
    ∷ (quotient_of Longs.ops (pos 1) (pos 0) gives None)
    ∷ (sum_of Millis.ops (pos 2147483647) (pos 1) gives Some (pos 2147483647))
    ∷ (product_of Millis.ops (pos 1) (pos 500) gives Some (pos 1))
    ∷ (product_of Millis.ops (minus 1) (pos 500) gives Some (minus 1))
    ∷ (product_of Millis.ops (pos 1) (pos 499) gives Some (pos 0))
    ∷ (quotient_of Millis.ops (pos 1000) (pos 3000) gives Some (pos 333))
    ∷ (quotient_of Millis.ops (pos 1) (pos 0) gives None)
    ∷ []

-- The answers are, case by case, what is wanted.
abbrev pub WorkedValues : Type 0
WorkedValues = map (λ c. c.answer) worked ≡ map (λ c. c.wanted) worked
