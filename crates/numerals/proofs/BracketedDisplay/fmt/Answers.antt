-- One value more is written.
use Rattle.std.proofs.Common.{rules}
use Rattle.numerals.proofs.Written.{item_more}
use Rattle.numerals.proofs.BracketedDisplay.fmt.Goals as goal

pub loop-value-preserved : goal.loop-value-preserved
loop-value-preserved g c p = item_more _ _ _ _ _ _ (search rules) (c.loop-value.invariant p) (search rules)
