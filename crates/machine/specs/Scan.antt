-- One scan, from its refusals to its end.
use Rattle.std.specs.Prelude.{ℕ, ◌+◌, ◌-◌, ◌^◌, min, Bool, cond, not, ◌||◌, List, ◌++◌, length, drop, ℤ, nat_lt}
use Rattle.kinds.specs.Integers.{int_eq}
use Rattle.kinds.specs.Ops.{Ops}
use Rattle.hosts.specs.Meaning.{Pins, up, down}
use Rattle.hosts.specs.Levels.{sensed, settled}
use Rattle.flat.specs.Words.{at, word, head}
use Rattle.flat.specs.declared.head.Head.{Head}
use Rattle.board.specs.declared.Board.{Board}
use Rattle.bodies.specs.Sweep.{Swept, swept, no_divisor, no_stack, sweep}
use Rattle.bodies.specs.Advance.{begun, closed}

-- What a scan reads and changes: cells, board, count of scans, latched levels and held outputs of the host.
pub record World (V : Type 0) : Type 0 where
  pub cells : List V
  pub board : Board
  pub scans : ℕ
  pub latch : List ℤ
  pub held : List ℤ

-- What a scan answers: its steps, or the number of a refusal with what it tells: nothing more, the host's fault, or process and state.
pub data Told (F : Type 0) : Type 0 where
  steps : ℕ → Told F
  refused : ℕ → Told F
  refused_by : ℕ → F → Told F
  refused_in : ℕ → ℕ → ℕ → Told F

-- A scan: what it answers and what it leaves.
pub record Scanned (V F : Type 0) : Type 0 where
  pub told : Told F
  pub world : World V

-- One scan more is counted, up to 2^64 - 1.
abbrev pub counted : ℕ → ℕ
counted n = min (n + 1) (2 ^ 64 - 1)

-- The world with other latched levels.
abbrev pub latched : {V : Type 0} → List ℤ → World V → World V
latched levels w = record { cells = w.cells; board = w.board; scans = w.scans; latch = levels; held = w.held }

-- The end of a scan: all processes ran, and what they left takes effect; or it is given up, and nothing but the latch has changed.
abbrev pub ended : {V F : Type 0} → List ℤ → List ℤ → World V → Swept V → Scanned V F
ended code levels w (swept n m) = record {
  told = steps n;
  world = record {
    cells = m.cells ++ drop (word code 2) w.cells;
    board = closed code m.puts m.board;
    scans = counted w.scans;
    latch = levels;
    held = settled m.puts w.held;
  };
}
ended code levels w (no_divisor q s) = record { told = refused_in 13 q s; world = latched levels w }
ended code levels w (no_stack q s) = record { told = refused_in 14 q s; world = latched levels w }

-- All processes, in order, on the levels sampled.
abbrev pub swept_on : {V : Type 0} → Ops V → List ℤ → List ℤ → World V → Swept V
swept_on k code levels w = sweep k (sensed levels) code (word code 5) 0 0 (begun code w.cells w.board)

-- The host is sampled: if it is down, its fault is told.
abbrev pub sampled : {V F : Type 0} → Ops V → List ℤ → Pins F → World V → Scanned V F
sampled k code (up levels) w = ended code levels w (swept_on k code levels w)
sampled k code (down f) w = record { told = refused_by 12 f; world = w }

-- Two words are the same.
abbrev pub same_word : ℤ → ℤ → Bool
same_word a b = int_eq a b

-- So many cells, inputs and outputs are too few for a code with this head.
abbrev pub too_few : Head → ℕ → ℕ → ℕ → Bool
too_few h cells inputs outputs = nat_lt cells h.cells || (nat_lt inputs h.inputs || nat_lt outputs h.outputs)

-- Cells or host lines are too few for a code with this head.
abbrev pub short : {V : Type 0} → Head → World V → Bool
short h w = too_few h (length w.cells) (length w.latch) (length w.held)

-- A scan of a code by a kind, with so much working memory, what stands at the pins, and the world before it.
abbrev pub scan : {V F : Type 0} → Ops V → List ℤ → ℕ → Pins F → World V → Scanned V F
scan k code work pins w =
    cond (not (same_word (at code 0) k.number)) (record { told = refused 10; world = w })
    (cond (nat_lt work (word code 2 + 16) || short (head code) w) (record { told = refused 11; world = w })
    (sampled k code pins w))
