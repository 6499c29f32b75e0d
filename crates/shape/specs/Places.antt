-- Where a line may stand, told from the sorts of the lines before it.
use Rattle.std.specs.Prelude.{ℕ, Bool, false, cond, Some, None, Option, nat_le, nat_lt}
use Rattle.language.specs.Lines.{rank}
use Rattle.language.specs.declared.house.Opener.{Opener}
use Rattle.language.specs.declared.house.Opener.TheVariants.{Kind, Tact, Const, Cell, In, Out, Proc, State}

-- The rank of the last sort of some lines, and 0 where there is no line.
abbrev pub height : Option Opener → ℕ
height None = 0
height (Some o) = rank o

-- A line may not stand behind lines with this last sort.
abbrev pub misplaced : Option Opener → Opener → Bool
misplaced p Kind = nat_le 1 (height p)
misplaced p Tact = nat_le 2 (height p)
misplaced p Const = nat_lt 3 (height p)
misplaced p Cell = nat_lt 4 (height p)
misplaced p In = nat_lt 5 (height p)
misplaced p Out = nat_lt 6 (height p)
misplaced p Proc = false
misplaced p State = nat_lt (height p) 7

-- The last sort of some lines and one more.
abbrev pub later : Option Opener → Opener → Option Opener
later p o = cond (nat_lt (height p) (rank o)) (Some o) p
