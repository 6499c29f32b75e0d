-- A line with a value is put to it.
use Rattle.std.proofs.Common.{Some, None, arith, rules}
use Rattle.hosts.proofs.Puts.{settled_more}
use Rattle.hosts.proofs.levels.put_all.Goals as goal
use Rattle.hosts.proofs.levels.put_all.Goals.{in-Some, in_default}

pub loop-i-preserved : goal.loop-i-preserved
loop-i-preserved g c =
    let more = settled_more c.loop-i.i c.args.puts.now (g.H.Host.means.held c.args.host.now) in
    elim c.match-put.branch [
      | in-Some w ↦ let e = more (Some w.in-Some.v) (omega arith) w.in-Some.is in search rules
      | in_default w ↦ let e = more None (omega arith) (search rules) in search rules
    ]
