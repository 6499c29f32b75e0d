-- An expression, one level less deep.
use Rattle.std.proofs.Common.{rules}
use Rattle.language.proofs.Depth.{term_at_more}
use Rattle.measure.proofs.size.+term_size_term_view_size.Goals as goal

pub term_size-returns-in-Some : goal.term_size-returns-in-Some
term_size-returns-in-Some t c =
    let e = term_at_more c.args.left c.args.rows.now c.args.at c.if-left-eq0.false in
    search rules

pub term_size-returns-in-None : goal.term_size-returns-in-None
term_size-returns-in-None t c =
    let e = term_at_more c.args.left c.args.rows.now c.args.at c.if-left-eq0.false in
    search rules
