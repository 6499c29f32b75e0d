-- Names looked up line by line.
use Rattle.std.specs.Prelude.{ℕ, Bool, true, false, ◌&&◌, List, Some, None, Option, ◌==◌}
use Rattle.text.specs.declared.row.Row.{Row}
use Rattle.language.specs.Basics.{Word, same}
use Rattle.language.specs.Lines.{rank, is}
use Rattle.language.specs.OnSheet.{word_at, second_row, line_at}
use Rattle.language.specs.declared.house.Opener.{Opener}
use Rattle.language.specs.declared.house.Opener.TheVariants.{Kind, Tact, Const, Cell, In, Out, Proc, State}

-- Lines of a sort declare a name.
abbrev pub has_name : Opener → Bool
has_name Kind = false
has_name Tact = false
has_name Const = true
has_name Cell = true
has_name In = true
has_name Out = true
has_name Proc = true
has_name State = true

-- A line that a word opens, if any does, declares a name of a sort.
abbrev pub opens_name : Opener → Option Opener → Bool
opens_name o None = false
opens_name o (Some p) = has_name p && rank o == rank p

-- The line at a row declares a constant by a name.
abbrev pub declares_constant : List Row → Word → ℕ → Bool
declares_constant rows w at = is Const (line_at rows at) && same (word_at rows (second_row rows at)) w
