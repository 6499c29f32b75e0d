-- As many spots as lines.
use Rattle.std.proofs.Common.{[], arith}
use Rattle.language.specs.OnSheet.{lines_of}
use Rattle.language.proofs.Lines.{lines_length}
use Rattle.naming.proofs.Splits.{length-splits}
use Rattle.naming.proofs.spot.Spots.of.Goals as goal

pub returns-clause-few : goal.returns-clause-few
returns-clause-few c = omega (arith, length-splits [] (lines_of c.args.lines), lines_length c.args.lines.rows.now c.args.lines.first c.args.lines.count)
