-- Each wire brings the level of its output.
use Rattle.std.proofs.Common.{◌≡◌, get_or, pos, rules, refl}
use Rattle.hosts.proofs.Arrays.{mapped_by}
use Rattle.hosts.proofs.jig.Jig.pins.Goals as goal

pub returns : goal.returns
returns c = mapped_by _ (λ p. p.0.now ≡ c.args.self.now) (λ output. get_or c.args.self.now.held output (pos 0)) c.args.self.now.wiring 0 (λ p i y q s e. (search rules, search rules)) _ _ 32 (pos 0) (search rules) refl c.from_fn.ensures.items
