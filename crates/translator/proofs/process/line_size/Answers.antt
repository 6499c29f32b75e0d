use Rattle.std.proofs.Common.{sym}
use Rattle.translator.proofs.Sorted.{body_there, no_body}
use Rattle.translator.proofs.process.line_size.Goals as goal

pub returns-then-is_line : goal.returns-then-is_line
returns-then-is_line c = rw (body_there c.args.rows.now c.args.at (sym c.if-is_line.ensures)) c.body_size.ensures

pub returns-else-is_line : goal.returns-else-is_line
returns-else-is_line c = rw (no_body c.args.rows.now c.args.at (sym c.if-is_line.ensures))
