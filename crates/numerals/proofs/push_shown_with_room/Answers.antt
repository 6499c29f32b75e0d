-- The law of digits.
use Rattle.numerals.proofs.Numbers.{base_ten}
use Rattle.numerals.proofs.push_shown_with_room.Goals as goal

pub returns-in_err-text-clause-digits : goal.returns-in_err-text-clause-digits
returns-in_err-text-clause-digits g c = base_ten

pub returns-in_err-write-clause-digits : goal.returns-in_err-write-clause-digits
returns-in_err-write-clause-digits g c = base_ten

pub returns-clause-digits : goal.returns-clause-digits
returns-clause-digits g c = base_ten
