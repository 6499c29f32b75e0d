-- The words in front of the instructions, by what stands on the sheet.
use Rattle.std.specs.Prelude.{ℕ, ◌+◌, List, [], ◌∷◌, ◌++◌, length, ℤ, pos, Some, None, Option, slice_set}
use Rattle.text.specs.declared.row.Row.{Row}
use Rattle.language.specs.Basics.{and_then, otherwise}
use Rattle.language.specs.Named.{Line}
use Rattle.language.specs.Grammar.{kind_named}
use Rattle.language.specs.Lines.{declared, body, processes}
use Rattle.language.specs.OnSheet.{house_at, opener_at, second_row}
use Rattle.language.specs.Sizes.{act_size}
use Rattle.language.specs.Words.{kind_number, period, process_words}
use Rattle.language.specs.declared.house.Opener.{Opener}
use Rattle.language.specs.declared.house.Opener.TheVariants.{Cell, In, Out}
use Rattle.translator.specs.Writing.{states_size, processes_size}

-- Words written over others, from word k on.
abbrev pub over : ℕ → List ℤ → List ℤ → List ℤ
over k [] ws = ws
over k (v ∷ vs) ws = over (k + 1) vs (slice_set ws k v)

-- Where the bodies of state lines begin, the first at place p.
abbrev pub line_entries : ℕ → List Line → List ℕ
line_entries p [] = []
line_entries p (l ∷ ls) = p ∷ line_entries (p + (act_size (body l) + 1)) ls

abbrev pub process_entries : ℕ → List (List Line) → List (List ℕ)
process_entries p [] = []
process_entries p (g ∷ gs) = line_entries p g ∷ process_entries (p + states_size g) gs

-- The number of the kind that the line at a row names; a line of no sort names none.
abbrev pub kind_after : List Row → ℕ → Option Opener → ℤ
kind_after rows at None = pos 0
kind_after rows at (Some o) = otherwise (pos 0) (and_then (house_at rows (second_row rows at)) kind_named)

abbrev pub kind_at : List Row → ℕ → ℤ
kind_at rows at = kind_after rows at (opener_at rows at)

-- The seven words of the head.
abbrev pub head_words : List Line → ℕ → ℕ → List ℤ
head_words ls processes instructions =
    kind_number ls ∷ period ls ∷ pos (length (declared Cell ls)) ∷ pos (length (declared In ls)) ∷ pos (length (declared Out ls)) ∷ pos processes ∷ pos instructions ∷ []

-- The words of the head and of all processes.
unfoldable pub front_words : List Line → List ℤ
front_words ls = head_words ls (length (processes ls)) (processes_size (processes ls)) ++ process_words (process_entries 0 (processes ls)) []
