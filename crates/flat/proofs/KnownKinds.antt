-- Laws of the numbers of the kinds.
use Rattle.std.proofs.Common.{◌≡◌, zero, suc, ℤ, pos, negsuc, Ok, Err, Result, refl, arith}
use Rattle.std.specs.Result.{is_ok}
use Rattle.flat.specs.Tests.{within}
use Rattle.flat.specs.CellKinds.{Names}
use Rattle.flat.specs.declared.kind.CellKind.{CellKind}
use Rattle.flat.specs.declared.kind.CellKind.TheVariants.{Long, Milli}
use Rattle.flat.specs.declared.kind.UnknownKind.{UnknownKind}

-- a word names a kind exactly if it is 1 or 2
pub known : (word : ℤ) (r : Result CellKind UnknownKind) → Names word r → is_ok r ≡ within 1 2 word
known word (Ok Long) e = rw e refl
known word (Ok Milli) e = rw e refl
known (negsuc n) (Err e) (is, none) = refl
known (pos zero) (Err e) (is, none) = refl
known (pos (suc zero)) (Err e) (is, none) = absurd (none Long refl)
known (pos (suc (suc zero))) (Err e) (is, none) = absurd (none Milli refl)
known (pos (suc (suc (suc n)))) (Err e) (is, none) = grind arith
