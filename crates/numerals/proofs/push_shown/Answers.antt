-- The law of digits.
use Rattle.numerals.proofs.Numbers.{base_ten}
use Rattle.numerals.proofs.push_shown.Goals as goal

pub returns-in_err-print-clause-digits : goal.returns-in_err-print-clause-digits
returns-in_err-print-clause-digits g c = base_ten

pub returns-clause-digits : goal.returns-clause-digits
returns-clause-digits g c = base_ten
