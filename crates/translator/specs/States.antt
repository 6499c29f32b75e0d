-- The state lines of each process on a sheet, by the row of the first and how many.
use Rattle.std.specs.Prelude.{ℕ, zero, suc, cond, List, [], ◌∷◌, length}
use Rattle.text.specs.Sheet.{next_row}
use Rattle.text.specs.declared.items.Items.{Items}
use Rattle.text.specs.declared.row.Row.{Row}
use Rattle.language.specs.Lines.{is, states_behind}
use Rattle.language.specs.OnSheet.{line_at, lines_at}
use Rattle.language.specs.declared.house.Opener.TheVariants.{Proc}
use Rattle.translator.specs.declared.group.StateLines.{StateLines}
use Rattle.translator.specs.declared.walk.Processes.{Processes}

-- The state lines of each process of the k lines from row p on.
abbrev pub groups : List Row → ℕ → ℕ → List (ℕ × ℕ)
groups rows p zero = []
groups rows p (suc k) =
    let next = next_row rows p in
    cond (is Proc (line_at rows p)) ((next, length (states_behind (lines_at rows next k))) ∷ groups rows next k) (groups rows next k)

-- Those of lines, and those that a walk has not passed yet.
abbrev pub groups_of : Items → List (ℕ × ℕ)
groups_of lines = groups lines.rows.now lines.first lines.count

abbrev pub groups_left : Processes → List (ℕ × ℕ)
groups_left walk = groups_of walk.left

-- The row of the first and how many.
abbrev pub span_of : StateLines → ℕ × ℕ
span_of states = (states.first, states.count)
