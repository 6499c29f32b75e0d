use Rattle.std.proofs.Common.{◌∙◌, arith, length-drop, rules}
use Rattle.std.proofs.lemmas.List.{take_rest}
use Rattle.flat.proofs.Pairs.{fit_go}
use Rattle.flat.proofs.operand.instructions_fit.Goals as goal

pub loop-left-preserved : goal.loop-left-preserved
loop-left-preserved c =
    simp (take_rest, length-drop)
    (fit_go c.args.head.now c.loop-left.i c.loop-left.left.now c.in-len2-up.len_at_least (search rules) ∙ c.loop-left.invariant.0, omega arith)
