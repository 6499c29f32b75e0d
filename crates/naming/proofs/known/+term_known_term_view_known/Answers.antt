-- An expression, one level less deep.
use Rattle.std.proofs.Common.{rules}
use Rattle.language.proofs.Depth.{term_at_more}
use Rattle.naming.proofs.known.+term_known_term_view_known.Goals as goal

pub term_known-returns-in-Some : goal.term_known-returns-in-Some
term_known-returns-in-Some t c =
    let e = term_at_more c.args.left c.args.rows.now c.args.at c.if-left-eq0.false in
    search rules

pub term_known-returns-in-None : goal.term_known-returns-in-None
term_known-returns-in-None t c =
    let e = term_at_more c.args.left c.args.rows.now c.args.at c.if-left-eq0.false in
    search rules
