use Rattle.std.proofs.Common.{◌+◌, ◌-◌, ◌*◌, arith}
use Rattle.language.specs.OnSheet.{lines_of}
use Rattle.translator.proofs.Written.{words_count, small_size, parts_fit, part_length, all_written}
use Rattle.translator.proofs.emit.write_code.Goals as goal

pub measure-processes-requires : goal.measure-processes-requires
measure-processes-requires c = record { small = small_size (lines_of c.args.sheet.lines) c.requires.small }

pub overflow_mul-base : goal.overflow_mul-base
overflow_mul-base c = record { fits = omega arith }

pub overflow_add-base : goal.overflow_add-base
overflow_add-base c = record { fits = omega arith }

pub overflow_mul-end : goal.overflow_mul-end
overflow_mul-end c = let h = small_size (lines_of c.args.sheet.lines) c.requires.small in record { fits = omega arith }

pub overflow_add-end : goal.overflow_add-end
overflow_add-end c = let h = small_size (lines_of c.args.sheet.lines) c.requires.small in record { fits = omega arith }

pub write_front-requires : goal.write_front-requires
write_front-requires c =
    let ls = lines_of c.args.sheet.lines in
    let h = small_size ls c.requires.small in
    let f = parts_fit ls _ _ _ c.measure-processes.ensures.count c.measure-processes.ensures.size c.requires.room in
    let e = c.measure-processes.ensures.size in
    record {
      within = c.measure-processes.ensures.within;
      counted = c.measure-processes.ensures.count;
      measured = c.measure-processes.ensures.size;
      small = omega arith;
      room = omega arith;
    }

pub slice_bounds-emit_processes-end : goal.slice_bounds-emit_processes-end
slice_bounds-emit_processes-end c =
    let f = parts_fit (lines_of c.args.sheet.lines) _ _ _ c.measure-processes.ensures.count c.measure-processes.ensures.size c.requires.room in
    omega arith

pub emit_processes-steps-requires : goal.emit_processes-steps-requires
emit_processes-steps-requires c =
    let ls = lines_of c.args.sheet.lines in
    let h = small_size ls c.requires.small in
    let f = parts_fit ls _ _ _ c.measure-processes.ensures.count c.measure-processes.ensures.size c.requires.room in
    let e = c.measure-processes.ensures.size in
    let l = part_length (7 + 17 * c.measure-processes.result.0) (7 + 17 * c.measure-processes.result.0 + 2 * c.measure-processes.result.1 - (7 + 17 * c.measure-processes.result.0)) c.write_front.new.code (omega arith) in
    record { short = omega arith; room = omega arith }

pub returns : goal.returns
returns c =
    let ls = lines_of c.args.sheet.lines in
    let n = words_count ls in
    let e = c.measure-processes.ensures.size in
    let f = c.measure-processes.ensures.count in
    record {
      count = omega arith;
      steps = c.emit_processes-steps.ensures.bound;
      wrote = all_written ls _ _ c.args.code.now c.write_front.new.code c.emit_processes-steps.new.code (omega arith) (omega arith) c.requires.room c.write_front.ensures c.emit_processes-steps.ensures.wrote;
    }
