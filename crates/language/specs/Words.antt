-- A program as the words of flat code: a head, seventeen words for each process, two for each instruction.
use Rattle.std.specs.Prelude.{ℕ, zero, suc, List, [], ◌∷◌, length, ℤ, pos}
use Rattle.flat.specs.declared.instr.Source.TheVariants.{Lit, Cell, In, Out, Yes, No, Late, Active, Stopped, Failed}
use Rattle.flat.specs.declared.instr.Unary.TheVariants.{Not, Test}
use Rattle.flat.specs.declared.instr.Binary.TheVariants.{Add, Sub, Mul, Div, Less, Same}
use Rattle.flat.specs.declared.instr.Control.TheVariants.{State, Start, Stop, Fail, Reset}
use Rattle.flat.specs.declared.instr.Instr.{Instr}
use Rattle.flat.specs.declared.instr.Instr.TheVariants.{End, Push, Convert, Combine, Jump, Unless, Keep, Drive, Set}
use Rattle.language.specs.Numbers.{word_value}
use Rattle.language.specs.Named.{Line}
use Rattle.language.specs.Lines.{declared}
use Rattle.language.specs.Program.{instructions_from, entries_from}
use Rattle.language.specs.Resolve.{program}
use Rattle.language.specs.declared.house.Opener.TheVariants.{Cell as CellLine, In as InLine, Out as OutLine}

-- An instruction's number and operand, 0 where it takes none.
abbrev pub encoded : Instr → ℤ × ℤ
encoded End = (pos 0, pos 0)
encoded (Push (Lit v)) = (pos 1, v)
encoded (Push (Cell n)) = (pos 2, pos n)
encoded (Push (In n)) = (pos 3, pos n)
encoded (Push (Out n)) = (pos 4, pos n)
encoded (Push Yes) = (pos 5, pos 0)
encoded (Push No) = (pos 6, pos 0)
encoded (Push (Late n)) = (pos 24, pos n)
encoded (Push (Active p)) = (pos 25, pos p)
encoded (Push (Stopped p)) = (pos 26, pos p)
encoded (Push (Failed p)) = (pos 27, pos p)
encoded (Combine Add) = (pos 7, pos 0)
encoded (Combine Sub) = (pos 8, pos 0)
encoded (Combine Mul) = (pos 9, pos 0)
encoded (Combine Div) = (pos 10, pos 0)
encoded (Combine Less) = (pos 11, pos 0)
encoded (Combine Same) = (pos 12, pos 0)
encoded (Convert Not) = (pos 13, pos 0)
encoded (Convert Test) = (pos 14, pos 0)
encoded (Jump t) = (pos 15, pos t)
encoded (Unless t) = (pos 16, pos t)
encoded (Keep n) = (pos 17, pos n)
encoded (Drive n) = (pos 18, pos n)
encoded (Set (State s)) = (pos 19, pos s)
encoded (Set (Start p)) = (pos 20, pos p)
encoded (Set (Stop p)) = (pos 21, pos p)
encoded (Set Fail) = (pos 22, pos 0)
encoded (Set Reset) = (pos 23, pos 0)

-- The words of instructions.
abbrev pub instruction_words : List Instr → List ℤ
instruction_words [] = []
instruction_words (i ∷ is) = (encoded i).0 ∷ (encoded i).1 ∷ instruction_words is

-- The words of n entries, the unused ones 0, and then the words `rest`.
abbrev pub padded : ℕ → List ℕ → List ℤ → List ℤ
padded zero es rest = rest
padded (suc n) [] rest = pos 0 ∷ padded n [] rest
padded (suc n) (e ∷ es) rest = pos e ∷ padded n es rest

-- The words of each process: its number of states and sixteen entries.
abbrev pub process_words : List (List ℕ) → List ℤ → List ℤ
process_words [] rest = rest
process_words (es ∷ ps) rest = pos (length es) ∷ padded 16 es (process_words ps rest)

-- The number of the kind that lines name, and the period that they give.
abbrev pub kind_number : List Line → ℤ
kind_number [] = pos 0
kind_number (Line.kind k ∷ ls) = k
kind_number (_ ∷ ls) = kind_number ls

abbrev pub period : List Line → ℤ
period [] = pos 0
period (Line.tact n ∷ ls) = word_value n
period (_ ∷ ls) = period ls

-- The words of a text's lines.
unfoldable pub words : List Line → List ℤ
words ls =
    let instructions = instructions_from 0 (program ls) in
    let entries = entries_from 0 (program ls) in
    kind_number ls ∷ period ls ∷ pos (length (declared CellLine ls)) ∷ pos (length (declared InLine ls)) ∷ pos (length (declared OutLine ls))
    ∷ pos (length entries) ∷ pos (length instructions) ∷ process_words entries (instruction_words instructions)
