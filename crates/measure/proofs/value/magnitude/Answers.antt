-- One digit after another.
use Rattle.std.proofs.Common.{◌+◌, ◌-◌, ◌*◌, min, ◌∙◌, arith, rules}
use borrow.Author.Tests.{tests}
use Rattle.std.proofs.lemmas.Iterator.{YieldsList-from_slice}
use Rattle.std.proofs.lemmas.Iterator.Consumers.{fold_from_yields_List}
use Rattle.measure.proofs.Digits.{digits_counted}
use Rattle.measure.proofs.value.magnitude.Goals as goal

pub returns : goal.returns
returns c =
    fold_from_yields_List _ (λ n d. min (10 * n + (d - 48)) 2147483649) 0 c.fold.result c.fold.ensures.ran (YieldsList-from_slice c.args.digits.now cc) (λ n d m q k. search (rules, tests))
    ∙ digits_counted 2147483649 0 c.args.digits.now (omega arith)
