use Rattle.text.specs.Reading.{read_text}
use Rattle.text.specs.Machine.{ahead}
use Rattle.text.proofs.Balance.{total}
use Rattle.text.proofs.Going.{Going}
use Rattle.text.proofs.read.lay.Given as goal

abbrev pub invariant-loop-item : goal.invariant-loop-item
invariant-loop-item l = Going (read_text l.text) (ahead l.reader) l.sheet l.filler

abbrev pub decreases-loop-item : goal.decreases-loop-item
decreases-loop-item l = total (ahead l.reader)
