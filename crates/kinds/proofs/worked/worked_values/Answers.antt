-- The worked values, by computation.
use Rattle.std.proofs.Common.{refl}
use Rattle.std.specs.Int.{int_wrap}
use Rattle.kinds.proofs.worked.worked_values.Goals as goal

pub returns : goal.returns
unfolding int_wrap
returns c = record { values = refl; answer = refl }
