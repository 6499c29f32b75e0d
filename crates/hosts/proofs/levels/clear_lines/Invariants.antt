-- The lines below i are cleared.
use Rattle.std.proofs.Common.{◌≡◌}
use Rattle.hosts.specs.Levels.{cleared}
use Rattle.hosts.proofs.levels.clear_lines.Given as goal

abbrev pub invariant-loop-i : goal.invariant-loop-i
invariant-loop-i g l =
    (g.H.Host.means.held l.host ≡ cleared l.i (g.H.Host.means.held l.initial.host))
    × (g.H.Host.means.latch l.host ≡ g.H.Host.means.latch l.initial.host)
