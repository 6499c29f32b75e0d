use Rattle.std.proofs.Common.{Some, None, arith, rules}
use Rattle.hosts.proofs.Puts.{settled_more}
use Rattle.board.proofs.Board.settle.Goals as goal
use Rattle.board.proofs.Board.settle.Goals.{in-Some, in_default}

pub loop-i-preserved : goal.loop-i-preserved
loop-i-preserved c =
    elim c.match-put.branch [
      | in-Some w ↦ let e = settled_more c.loop-i.i c.args.puts.now c.args.self.now.levels (Some w.in-Some.v) (omega arith) w.in-Some.is in search rules
      | in_default w ↦ let e = settled_more c.loop-i.i c.args.puts.now c.args.self.now.levels None (omega arith) (search rules) in search rules
    ]
