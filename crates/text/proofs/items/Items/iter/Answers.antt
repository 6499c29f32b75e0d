-- As many rows as items.
use Rattle.std.proofs.Common.{arith}
use Rattle.text.proofs.Starts.{length-starts}
use Rattle.text.proofs.items.Items.iter.Goals as goal

pub returns-clause-few : goal.returns-clause-few
returns-clause-few c = omega (arith, length-starts)
