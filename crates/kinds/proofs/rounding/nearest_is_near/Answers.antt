-- The law of the rounding.
use Rattle.std.proofs.Common.{refl}
use Rattle.kinds.proofs.Nearness.{nearest_near}
use Rattle.kinds.proofs.rounding.nearest_is_near.Goals as goal

pub returns : goal.returns
returns c = record { law = nearest_near; answer = refl }
