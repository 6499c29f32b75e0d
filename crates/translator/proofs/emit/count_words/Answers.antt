use Rattle.std.proofs.Common.{arith}
use Rattle.language.specs.OnSheet.{lines_of}
use Rattle.translator.proofs.Written.{words_count, small_size}
use Rattle.translator.proofs.emit.count_words.Goals as goal

pub measure-processes-requires : goal.measure-processes-requires
measure-processes-requires c = record { small = small_size (lines_of c.args.sheet.lines) c.requires.small }

pub overflow_mul-result : goal.overflow_mul-result
overflow_mul-result c = record { fits = omega arith }

pub overflow_mul-result-2 : goal.overflow_mul-result-2
overflow_mul-result-2 c = let h = small_size (lines_of c.args.sheet.lines) c.requires.small in record { fits = omega arith }

pub overflow_add-result-2 : goal.overflow_add-result-2
overflow_add-result-2 c = record { fits = omega arith }

pub overflow_add-result-3 : goal.overflow_add-result-3
overflow_add-result-3 c = let h = small_size (lines_of c.args.sheet.lines) c.requires.small in record { fits = omega arith }

pub returns : goal.returns
returns c = let h = words_count (lines_of c.args.sheet.lines) in omega arith
