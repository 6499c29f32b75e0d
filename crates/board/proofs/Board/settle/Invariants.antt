use Rattle.std.proofs.Common.{◌≡◌, take}
use Rattle.hosts.specs.Levels.{settled}
use Rattle.board.proofs.Board.settle.Given as goal

abbrev pub invariant-loop-i : goal.invariant-loop-i
invariant-loop-i l = l.self ≡ record { rows = l.initial.self.rows; levels = settled (take l.i l.puts) l.initial.self.levels }
