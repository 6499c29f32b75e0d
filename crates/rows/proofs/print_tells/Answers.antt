-- The law of prints.
use Rattle.rows.proofs.Prints.{print_tells}
use Rattle.rows.proofs.print_tells.Goals as goal

pub returns : goal.returns
returns c = print_tells
