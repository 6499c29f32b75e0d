-- No more processes than lines.
use Rattle.std.proofs.Common.{arith}
use Rattle.translator.proofs.Groups.{groups_few}
use Rattle.translator.proofs.sheet.Sheet.processes.Goals as goal

pub returns-clause-few : goal.returns-clause-few
returns-clause-few c =
    let lines = c.args.self.lines in
    let few = c.args.self.few in
    omega (arith, groups_few lines.rows.now lines.first lines.count)
