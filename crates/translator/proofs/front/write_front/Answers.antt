use Rattle.language.specs.OnSheet.{lines_of}
use Rattle.translator.proofs.Written.{front_written}
use Rattle.translator.proofs.front.write_front.Goals as goal

pub returns : goal.returns
returns c =
    front_written (lines_of c.args.sheet.lines) c.args.processes c.args.instructions c.args.code.now c.write_head.new.code c.write_processes.new.code
    c.requires.counted c.requires.measured c.write_head.ensures c.write_processes.ensures
