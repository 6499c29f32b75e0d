-- What a name pushes where it stands in an expression, and what puts a value under it.
use Rattle.flat.specs.declared.instr.Source.{Source}
use Rattle.flat.specs.declared.instr.Source.TheVariants.{Lit, Cell, In, Out}
use Rattle.flat.specs.declared.instr.Instr.{Instr}
use Rattle.flat.specs.declared.instr.Instr.TheVariants.{Keep, Drive}
use Rattle.language.specs.declared.names.Thing.{Thing}
use Rattle.language.specs.declared.names.Thing.TheVariants.{Constant, Cell as CellThing, In as InThing, Out as OutThing}
use Rattle.language.specs.declared.names.Target.{Target}
use Rattle.language.specs.declared.names.Target.TheVariants.{Cell as CellTarget, Out as OutTarget}

-- What pushes the thing that a name stands for.
abbrev pub thing_source : Thing → Source
thing_source (Constant v) = Lit v
thing_source (CellThing i) = Cell i
thing_source (InThing i) = In i
thing_source (OutThing i) = Out i

-- What puts a value into the target that a name stands for.
abbrev pub target_instr : Target → Instr
target_instr (CellTarget i) = Keep i
target_instr (OutTarget i) = Drive i
