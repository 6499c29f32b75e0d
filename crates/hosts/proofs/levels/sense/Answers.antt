-- Each line is read from the host as it was.
use Rattle.std.proofs.Common.{◌≡◌, get_or, pos, rules, refl}
use Rattle.hosts.specs.Levels.{sensed}
use Rattle.hosts.proofs.Arrays.{made_by}
use Rattle.hosts.proofs.levels.sense.Goals as goal

pub returns : goal.returns
unfolding sensed
returns g c =
    made_by _ (λ p. p.0.now ≡ c.args.host.now) (λ i. get_or (g.H.Host.means.latch c.args.host.now) i (pos 0)) (λ p i y q s e. (search rules, search rules)) _ _ _ (pos 0) refl c.from_fn.ensures.items
