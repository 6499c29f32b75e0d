-- A scan on the cells and the board, with the levels sampled.
use Rattle.std.specs.Prelude.{ℕ, List, [], ◌++◌, take, drop, replicate, ℤ, None, Ok, Err, Option, Result}
use Rattle.kinds.specs.Ops.{Ops}
use Rattle.hosts.specs.Levels.{settled}
use Rattle.flat.specs.Words.{word}
use Rattle.board.specs.declared.Board.{Board}
use Rattle.board.specs.Rows.{ticked}
use Rattle.refusals.specs.declared.Fault.{Fault}
use Rattle.refusals.specs.declared.Fault.TheVariants.{Divisor, Stack}
use Rattle.refusals.specs.declared.GivenUp.{GivenUp}
use Rattle.bodies.specs.Machine.{Machine}
use Rattle.bodies.specs.Sweep.{Swept, swept, no_divisor, no_stack, sweep}

-- The machine as a scan begins: the code's cells, an empty stack, the board, no output put.
abbrev pub begun : {V : Type 0} → List ℤ → List V → Board → Machine V
begun code cells board = record { cells = take (word code 2) cells; stack = []; board = board; puts = replicate 32 None }

-- The board as a scan ends: the outputs put take their levels, and the clocks of the code's processes rise.
abbrev pub closed : List ℤ → List (Option ℤ) → Board → Board
closed code puts b = record { rows = ticked (word code 5) b.rows; levels = settled puts b.levels }

-- What a scan on the cells and the board leaves, before it is told to the host: steps, levels put, cells and board; or why and
-- where it was given up, cells and board.
pub data Advanced (V : Type 0) : Type 0 where
  advanced : ℕ → List (Option ℤ) → List V → Board → Advanced V
  gave_up : Fault → ℕ → ℕ → List V → Board → Advanced V

abbrev pub finished : {V : Type 0} → List ℤ → List V → Board → Swept V → Advanced V
finished code cells board (swept n m) = advanced n m.puts (m.cells ++ drop (word code 2) cells) (closed code m.puts m.board)
finished code cells board (no_divisor q s) = gave_up Divisor q s cells board
finished code cells board (no_stack q s) = gave_up Stack q s cells board

abbrev pub advance : {V : Type 0} → Ops V → List ℤ → List ℤ → List V → Board → Advanced V
advance k seen code cells board = finished code cells board (sweep k seen code (word code 5) 0 0 (begun code cells board))

-- What an answer of such a scan stands for, with the cells and the board that are left.
abbrev pub advances : {V : Type 0} → Result (ℕ × List (Option ℤ)) GivenUp → List V → Board → Advanced V
advances (Ok r) cells board = advanced r.0 r.1 cells board
advances (Err e) cells board = gave_up e.fault e.place.process e.place.state cells board
