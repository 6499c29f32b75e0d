-- A process is without states exactly if the next line is none.
use Rattle.std.proofs.Common.{rules}
use Rattle.limits.proofs.Lines.{no_states}
use Rattle.limits.proofs.past.is_stateless.Goals as goal

pub returns-else-behind-eq0 : goal.returns-else-behind-eq0
returns-else-behind-eq0 c =
    let e = no_states c.args.behind.rows.now c.args.behind.first c.args.behind.count c.if-behind-eq0.false in
    search rules
