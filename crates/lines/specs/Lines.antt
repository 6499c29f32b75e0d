-- The lines that are printed of a run.
use Rattle.std.specs.Prelude.{ℕ, List, ◌∷◌, ◌++◌, map, take, ℤ, codes, decimal}
use Rattle.std.specs.List.{flat_map}
use Rattle.kinds.specs.Ops.{Ops}
use Rattle.flat.specs.declared.head.Head.{Head}
use Rattle.board.specs.declared.Board.{Board}
use Rattle.board.specs.declared.rows.Row.{Row}
use Rattle.numerals.specs.Print.{bracketed}

-- A process's state and clock, in brackets, behind a space.
abbrev pub shown_row : Row → List ℕ
shown_row r = codes " (" ++ (decimal r.state ++ (32 ∷ (decimal r.clock ++ codes ")")))

-- How a scan's line ends: the cells and the outputs, each in brackets, the steps, a closing bracket and a line feed.
abbrev pub shown_tail : List ℤ → List ℤ → ℕ → List ℕ
shown_tail cells outputs steps = 32 ∷ (bracketed cells ++ 32 ∷ (bracketed outputs ++ 32 ∷ (decimal steps ++ codes ")\n")))

-- The line of a scan: in brackets its number, each process's state and clock, the cells, the outputs, the steps.
abbrev pub shown_line : ℕ → List Row → List ℤ → List ℤ → ℕ → List ℕ
shown_line n rows cells outputs steps = 40 ∷ (decimal n ++ (flat_map shown_row rows ++ shown_tail cells outputs steps))

-- The same of the processes, cells and outputs of a code with this head: cells are written back as raw numbers.
abbrev pub scan_line : {V : Type 0} → Ops V → Head → ℕ → List V → Board → ℕ → List ℕ
scan_line k h n cells board steps =
    shown_line n (take h.processes board.rows) (map k.writing (take h.cells cells)) (take h.outputs board.levels) steps

-- The line of a refusal: its number, and the line or the scan at which it was met, 0 before any.
abbrev pub refusal_line : ℕ → ℕ → List ℕ
refusal_line number at = codes "(no " ++ (decimal number ++ 32 ∷ (decimal at ++ codes ")\n"))
