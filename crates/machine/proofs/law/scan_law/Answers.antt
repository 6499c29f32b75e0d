use Rattle.std.proofs.Common.{refl}
use Rattle.machine.proofs.Laws.{scan_law}
use Rattle.machine.proofs.law.scan_law.Goals as goal

pub returns : goal.returns
returns g c = record { law = scan_law g.K.Kind.ops g.H.Host.means; answer = refl }
