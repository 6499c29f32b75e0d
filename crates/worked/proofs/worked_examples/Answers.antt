use Rattle.std.proofs.Common.{refl}
use Rattle.std.specs.Int.{int_wrap}
use Rattle.hosts.specs.Levels.{sensed}
use Rattle.flat.specs.Instructions.{decoded}
use Rattle.flat.specs.Tests.{every, fits}
use Rattle.worked.proofs.worked_examples.Goals as goal

pub returns : goal.returns
unfolding int_wrap sensed decoded every fits
returns c = (refl, ((refl, refl), ((refl, refl), ((refl, refl), ((refl, refl), ((refl, refl), ((refl, refl), ((refl, refl), tt))))))))
