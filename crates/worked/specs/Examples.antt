-- The worked examples, in one list.
use Rattle.std.specs.Prelude.{◌≡◌, ℕ, true, List, [], ◌∷◌, ◌++◌, length, take, replicate, ℤ, pos}
use Rattle.std.specs.List.{AllByRecursion}
use Rattle.kinds.specs.declared.long.Long.{Long}
use Rattle.kinds.specs.Longs as Longs
use Rattle.hosts.specs.Meaning.{up}
use Rattle.flat.specs.Words.{head}
use Rattle.flat.specs.Tests.{fits}
use Rattle.board.specs.declared.rows.Row.{Row}
use Rattle.board.specs.Rows.{first_board}
use Rattle.machine.specs.Scan.{World, Told, steps, refused_in, Scanned, scan}
use Rattle.machine.specs.Start.{started}
use Rattle.worked.specs.Guard.{guard}

-- What a scan shows: what it tells, the rows of the first two processes, the cells and the first output, on the board and on the host's line.
pub record Seen : Type 0 where
  pub told : Told ℕ
  pub rows : List Row
  pub cells : List Long
  pub output : List ℤ
  pub line : List ℤ

abbrev pub seen : Scanned Long ℕ → Seen
seen r = record {
  told = r.told;
  rows = take 2 r.world.board.rows;
  cells = r.world.cells;
  output = take 1 r.world.board.levels;
  line = take 1 r.world.held;
}

-- Scans one after the other, by the levels at the pins of each.
abbrev pub scans : List ℤ → List (List ℤ) → World Long → List Seen
scans code [] w = []
scans code (levels ∷ rest) w = seen (scan Longs.ops code 20 (up levels) w) ∷ scans code rest (scan {F = ℕ} Longs.ops code 20 (up levels) w).world

-- The world that a run with one cell and one input begins in.
abbrev pub fresh : List ℤ → World Long
fresh code = started Longs.ops (head code) (record {
  cells = Longs.long (pos 7) ∷ [];
  board = first_board;
  scans = 5;
  latch = pos 0 ∷ [];
  held = replicate 32 (pos 9);
})

-- An example: a code, the levels at each scan, and what is seen.
pub record Example : Type 0 where
  pub code : List ℤ
  pub levels : List (List ℤ)
  pub wanted : List Seen

-- A scan seen: steps, the states and clocks of two processes, the cell, the output on board and line.
abbrev pub went : ℕ → ℕ → ℕ → ℕ → ℕ → ℤ → ℤ → Seen
went n s₀ c₀ s₁ c₁ cell out = record {
  told = steps n;
  rows = record { state = s₀; clock = c₀ } ∷ record { state = s₁; clock = c₁ } ∷ [];
  cells = Longs.long cell ∷ [];
  output = out ∷ [];
  line = out ∷ [];
}

-- A first scan that was refused: nothing has changed.
abbrev failed : ℕ → Seen
failed n = record {
  told = refused_in n 0 0;
  rows = record { state = 0; clock = 0 } ∷ record { state = 255; clock = 0 } ∷ [];
  cells = Longs.long (pos 0) ∷ [];
  output = pos 0 ∷ [];
  line = pos 0 ∷ [];
}

-- A code of one process with one state, one cell, one input and one output, and these instructions.
abbrev single : ℕ → List ℤ → List ℤ
single n body = pos 1 ∷ pos 10 ∷ pos 1 ∷ pos 1 ∷ pos 1 ∷ pos 1 ∷ pos n ∷ (pos 1 ∷ replicate 16 (pos 0)) ++ body

-- So many times `lit 1`.
abbrev ones : ℕ → List ℤ
ones Prim.Native.Nat.zero = []
ones (Prim.Native.Nat.suc n) = pos 1 ∷ pos 1 ∷ ones n

-- The guard through lid levels 0, 1, 1, 1, 0; a division by zero; one with too few values, which is told before the divisor; sixteen
-- values on the stack and seventeen; `7 - 2` kept in the cell; an output read after it was put, which still gives the level of the scan's beginning.
abbrev pub examples : List Example
examples =
    record {
      code = guard;
      levels = (pos 0 ∷ []) ∷ (pos 1 ∷ []) ∷ (pos 1 ∷ []) ∷ (pos 1 ∷ []) ∷ (pos 0 ∷ []) ∷ [];
      wanted =
          went 3 0 1 255 1 (pos 0) (pos 0) ∷ went 14 1 1 0 1 (pos 1) (pos 1) ∷ went 13 1 2 0 2 (pos 2) (pos 1)
          ∷ went 14 1 3 254 1 (pos 3) (pos 1) ∷ went 8 0 1 255 1 (pos 3) (pos 0) ∷ [];
    }
    ∷ record { code = single 4 (pos 1 ∷ pos 1 ∷ pos 1 ∷ pos 0 ∷ pos 10 ∷ pos 0 ∷ pos 0 ∷ pos 0 ∷ []); levels = (pos 0 ∷ []) ∷ []; wanted = failed 13 ∷ [] }
    ∷ record { code = single 3 (pos 1 ∷ pos 0 ∷ pos 10 ∷ pos 0 ∷ pos 0 ∷ pos 0 ∷ []); levels = (pos 0 ∷ []) ∷ []; wanted = failed 14 ∷ [] }
    ∷ record { code = single 17 (ones 16 ++ pos 0 ∷ pos 0 ∷ []); levels = (pos 0 ∷ []) ∷ []; wanted = went 17 0 1 255 0 (pos 0) (pos 0) ∷ [] }
    ∷ record { code = single 18 (ones 17 ++ pos 0 ∷ pos 0 ∷ []); levels = (pos 0 ∷ []) ∷ []; wanted = failed 14 ∷ [] }
    ∷ record { code = single 5 (pos 1 ∷ pos 7 ∷ pos 1 ∷ pos 2 ∷ pos 8 ∷ pos 0 ∷ pos 17 ∷ pos 0 ∷ pos 0 ∷ pos 0 ∷ []); levels = (pos 0 ∷ []) ∷ []; wanted = went 5 0 1 255 0 (pos 5) (pos 0) ∷ [] }
    ∷ record { code = single 5 (pos 1 ∷ pos 3 ∷ pos 18 ∷ pos 0 ∷ pos 4 ∷ pos 0 ∷ pos 17 ∷ pos 0 ∷ pos 0 ∷ pos 0 ∷ []); levels = (pos 0 ∷ []) ∷ (pos 0 ∷ []) ∷ []; wanted = went 5 0 1 255 0 (pos 0) (pos 3) ∷ went 5 0 2 255 0 (pos 3) (pos 3) ∷ [] }
    ∷ []

-- Each example's code is of the layout, and its scans are seen as they should be.
abbrev pub WorkedExamples : Type 0
WorkedExamples = (length guard ≡ 87) × AllByRecursion (λ e. (fits e.code ≡ true) × (scans e.code e.levels (fresh e.code) ≡ e.wanted)) examples
