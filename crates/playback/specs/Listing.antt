-- What is printed of a run, scan after scan.
use Rattle.std.specs.Prelude.{ℕ, ◌+◌, List, [], ◌∷◌, ◌++◌, map, replicate, ℤ, pos}
use Rattle.kinds.specs.Ops.{Ops}
use Rattle.hosts.specs.Meaning.{Pins}
use Rattle.hosts.specs.TapeRows.{next_row}
use Rattle.hosts.specs.declared.tape.Spent.{Spent}
use Rattle.flat.specs.Words.{head, word}
use Rattle.board.specs.declared.Board.{Board}
use Rattle.machine.specs.Scan.{World, Told, Scanned, steps, refused, refused_by, refused_in, scan}
use Rattle.board.specs.Rows.{first_board}
use Rattle.lines.specs.Lines.{scan_line, refusal_line}

-- What is printed of scan n and after it: an accepted one gives its line and the rest goes on; a refused one gives the refusal's
-- line and ends the list.
abbrev pub continued : {V F : Type 0} → Ops V → List ℤ → ℕ → Told F → World V → (World V → List ℕ) → List ℕ
continued k code n (steps s) w rest = scan_line k (head code) n w.cells w.board s ++ rest w
continued k code n (refused m) w rest = refusal_line m n
continued k code n (refused_by m f) w rest = refusal_line m n
continued k code n (refused_in m q s) w rest = refusal_line m n

-- The scans from number n on, by what stands at the pins at each, lent so much working memory.
abbrev pub listing : {V F : Type 0} → Ops V → List ℤ → ℕ → ℕ → List (Pins F) → World V → List ℕ
listing k code work n [] w = []
listing k code work n (p ∷ ps) w = continued k code n (scan k code work p w).told (scan k code work p w).world (λ w₁. listing k code work (n + 1) ps w₁)

-- A run with these cells, this board and so many scans, on a host with the code's inputs and 32 outputs, all latched and held at 0.
abbrev pub at_rest : {V : Type 0} → List ℤ → List V → Board → ℕ → World V
at_rest code cells board scans = record { cells = cells; board = board; scans = scans; latch = replicate (word code 3) (pos 0); held = replicate 32 (pos 0) }

-- A run at its beginning, on just the cells that the code has.
abbrev pub beginning : {V : Type 0} → Ops V → List ℤ → World V
beginning k code = at_rest code (replicate (word code 2) k.zero) first_board 0

-- What stands at the pins of a tape of just this row, for a code's inputs.
abbrev pub row_pins : List ℤ → List ℤ → Pins Spent
row_pins code row = next_row (word code 3) row 0

-- A scan of a row, after which the host is at rest again.
abbrev pub row_scan : {V : Type 0} → Ops V → List ℤ → ℕ → List ℤ → World V → Scanned V Spent
row_scan k code work row w =
    let x = scan k code work (row_pins code row) w in
    record { told = x.told; world = at_rest code x.world.cells x.world.board x.world.scans }

-- What is printed of a run from its beginning where each scan has a tape of just its row, lent the working memory that it needs.
abbrev pub printed_rows : {V : Type 0} → Ops V → List ℤ → List (List ℤ) → List ℕ
printed_rows k code rows = listing k code (word code 2 + 16) 1 (map (row_pins code) rows) (beginning k code)
