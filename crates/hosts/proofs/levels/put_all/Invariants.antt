-- The lines below i took their values.
use Rattle.std.proofs.Common.{◌≡◌, take}
use Rattle.hosts.specs.Levels.{settled}
use Rattle.hosts.proofs.levels.put_all.Given as goal

abbrev pub invariant-loop-i : goal.invariant-loop-i
invariant-loop-i g l =
    (g.H.Host.means.held l.host ≡ settled (take l.i l.puts) (g.H.Host.means.held l.initial.host))
    × (g.H.Host.means.latch l.host ≡ g.H.Host.means.latch l.initial.host)
