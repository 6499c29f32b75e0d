use Rattle.std.proofs.Common.{◌≡◌, ◌-◌, length}
use Rattle.text.specs.Machine.{ahead}
use Rattle.text.proofs.reader.Reader.next.Given as goal

abbrev pub invariant-loop-self : goal.invariant-loop-self
invariant-loop-self l = (ahead l.initial.self ≡ ahead l.self) × (l.self.text ≡ l.initial.self.text)

abbrev pub decreases-loop-self : goal.decreases-loop-self
decreases-loop-self l = length l.self.text.now - l.self.at
