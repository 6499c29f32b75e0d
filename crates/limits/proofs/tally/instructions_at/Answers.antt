-- A state's instructions.
use Rattle.std.proofs.Common.{arith}
use Rattle.language.specs.OnSheet.{line_at, opener_at}
use Rattle.limits.proofs.Tallies.{state_instructions}
use Rattle.limits.proofs.tally.instructions_at.Goals as goal

pub returns-then-is_line : goal.returns-then-is_line
unfolding line_at
returns-then-is_line c =
    let rows = c.args.rows.now in
    let e = state_instructions rows c.args.at (opener_at rows c.args.at) c.if-is_line.ensures in
    omega arith
