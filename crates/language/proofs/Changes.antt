-- A value that may be there, changed by what each change says.
use Rattle.std.proofs.Common.{◌≡◌, Some, None, Option, ap}
use Rattle.std.specs.Option.{MatchOption, IsSomeAnd}
use Rattle.language.specs.Basics.{changed}

module _ {A B : Type 0} (h : A → B) {P : A → B → Type 0} (says : (x : A) (y : B) → P x y → y ≡ h x) where
  some_mapped : (x : A) (r : Option B) → IsSomeAnd r (P x) → r ≡ Some (h x)
  some_mapped x None e = absurd e
  some_mapped x (Some y) e = ap Some (says x y e)

  pub mapped : (o : Option A) {r : Option B} → MatchOption o (r ≡ None) (λ x. IsSomeAnd r (P x)) → r ≡ changed h o
  mapped None e = e
  mapped (Some x) {r} e = some_mapped x r e
