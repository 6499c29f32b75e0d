-- The rows of the board.
use Rattle.std.specs.Prelude.{ℕ, zero, suc, ◌+◌, ◌-◌, ◌^◌, min, List, [], ◌∷◌, replicate, pos, slice_index_or, slice_set}
use Rattle.board.specs.declared.Board.{Board}
use Rattle.board.specs.declared.rows.Row.{Row}

-- The row of a process: its state and its clock.
abbrev pub row : Board → ℕ → Row
row b p = slice_index_or b.rows p (record { state = 0; clock = 0 })

abbrev pub state : Board → ℕ → ℕ
state b p = (row b p).state

abbrev pub clock : Board → ℕ → ℕ
clock b p = (row b p).clock

-- Process p enters a state, and its clock is 0. No other row and no level changes.
abbrev pub enter : ℕ → ℕ → Board → Board
enter p s b = record { rows = slice_set b.rows p (record { state = s; clock = 0 }); levels = b.levels }

-- The clock of process p is set to 0.
abbrev pub rewind : ℕ → Board → Board
rewind p b = enter p (state b p) b

-- A clock rises by one, and stops at 4,294,967,295.
abbrev pub risen : Row → Row
risen r = record { state = r.state; clock = min (r.clock + 1) (2 ^ 32 - 1) }

-- The clocks of the first n rows rise.
abbrev pub ticked : ℕ → List Row → List Row
ticked zero rows = rows
ticked (suc n) [] = []
ticked (suc n) (r ∷ rows) = risen r ∷ ticked n rows

-- The board at the beginning: the first process in state 0, every other row in 255, clocks and levels 0.
abbrev pub first_board : Board
first_board = record { rows = (record { state = 0; clock = 0 }) ∷ replicate 31 (record { state = 255; clock = 0 }); levels = replicate 32 (pos 0) }
