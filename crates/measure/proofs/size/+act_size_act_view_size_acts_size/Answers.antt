-- A statement, one level less deep.
use Rattle.std.proofs.Common.{rules}
use Rattle.language.proofs.Depth.{act_at_more}
use Rattle.measure.proofs.size.+act_size_act_view_size_acts_size.Goals as goal

pub act_size-returns-in-Some : goal.act_size-returns-in-Some
act_size-returns-in-Some t c =
    let e = act_at_more c.args.left c.args.rows.now c.args.at c.if-left-eq0.false in
    search rules

pub act_size-returns-in-None : goal.act_size-returns-in-None
act_size-returns-in-None t c =
    let e = act_at_more c.args.left c.args.rows.now c.args.at c.if-left-eq0.false in
    search rules
