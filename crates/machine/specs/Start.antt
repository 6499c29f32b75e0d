-- The beginning of a run.
use Rattle.std.specs.Prelude.{◌++◌, drop, replicate}
use Rattle.kinds.specs.Ops.{Ops}
use Rattle.hosts.specs.Levels.{cleared}
use Rattle.flat.specs.declared.head.Head.{Head}
use Rattle.board.specs.Rows.{first_board}
use Rattle.machine.specs.Scan.{World}

-- The world at the beginning: the code's cells are the kind's zero and the host's lines for the code's outputs are 0; the rest is kept.
abbrev pub started : {V : Type 0} → Ops V → Head → World V → World V
started k h w = record {
  cells = replicate h.cells k.zero ++ drop h.cells w.cells;
  board = first_board;
  scans = 0;
  latch = w.latch;
  held = cleared h.outputs w.held;
}
