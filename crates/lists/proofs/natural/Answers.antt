-- Digits that are no print of a number of 32 bits, and digits that are.
use Rattle.std.proofs.Common.{◌+◌, arith, rules}
use Rattle.std.proofs.lemmas.Int.Digits.{digits_more, digits_value_more}
use Rattle.numerals.proofs.Numbers.{base_ten_print, front_le, read_print}
use Rattle.lists.proofs.natural.Goals as goal

pub returns-in-empty : goal.returns-in-empty
returns-in-empty c = λ v good e. omega (arith, (base_ten_print c.args.digits.now v (omega arith) e).some, c.in-empty.len_below)

pub returns-in-empty-2 : goal.returns-in-empty-2
returns-in-empty-2 c = λ v good e. let print = base_ten_print c.args.digits.now v (omega arith) e in grind (arith, print.plain)

pub returns-in_err-digit : goal.returns-in_err-digit
returns-in_err-digit c = rw c.from_residual.ensures
    (λ v good e. let digit = (base_ten_print c.args.digits.now v (omega arith) e).digits c.loop-d.d-index (omega arith) in search rules)

pub returns-in_err-n : goal.returns-in_err-n
returns-in_err-n c = rw c.from_residual-in_err-n.ensures
    (λ v good e. let front = front_le c.args.digits.now v (c.loop-d.d-index + 1) (base_ten_print c.args.digits.now v (omega arith) e) in search (rules, digits_value_more))

pub loop-d-preserved : goal.loop-d-preserved
loop-d-preserved c = search (rules, digits_more, digits_value_more)

pub returns : goal.returns
returns c = search (rules, read_print)
