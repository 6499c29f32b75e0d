-- What stands in a line.
use Rattle.std.specs.Prelude.{ℕ, Bool, cond, List, [], ◌∷◌, ◌++◌, reverse, Some, None, Option, ◌==◌}
use Rattle.language.specs.Basics.{Word, collect, those, leading}
use Rattle.language.specs.Named.{Act, Line}
use Rattle.language.specs.declared.house.Opener.{Opener}
use Rattle.language.specs.declared.house.Opener.TheVariants.{Kind, Tact, Const, Cell, In, Out, Proc, State}

-- The line's sort, told by its first word.
abbrev pub sort : Line → Opener
sort (Line.kind k) = Kind
sort (Line.tact n) = Tact
sort (Line.const w n) = Const
sort (Line.cell w) = Cell
sort (Line.input w) = In
sort (Line.output w) = Out
sort (Line.process w) = Proc
sort (Line.state w b) = State

-- The sorts in their order.
abbrev pub rank : Opener → ℕ
rank Kind = 1
rank Tact = 2
rank Const = 3
rank Cell = 4
rank In = 5
rank Out = 6
rank Proc = 7
rank State = 8

-- A line is of a sort.
abbrev pub is : Opener → Line → Bool
is o l = rank o == rank (sort l)

-- The name that a line declares.
abbrev pub name : Line → Option Word
name (Line.kind k) = None
name (Line.tact n) = None
name (Line.const w n) = Some w
name (Line.cell w) = Some w
name (Line.input w) = Some w
name (Line.output w) = Some w
name (Line.process w) = Some w
name (Line.state w b) = Some w

-- The names that lines declare, in order.
abbrev pub names : List Line → List Word
names ls = collect name ls

-- The names that lines of a sort declare, in order.
abbrev pub declared : Opener → List Line → List Word
declared o ls = names (those (is o) ls)

-- The body of a state, and nothing to do elsewhere.
abbrev pub body : Line → Act
body (Line.state w b) = b
body _ = Act.pass

-- The state lines right behind a line.
abbrev pub states_behind : List Line → List Line
states_behind after = leading (is State) after

-- The state lines of the line's own process; `before` has the nearest line first.
abbrev pub own_states : List Line → Line → List Line → List Line
own_states before l after = reverse (leading (is State) before) ++ (l ∷ states_behind after)

-- Each process's state lines.
abbrev pub processes : List Line → List (List Line)
processes [] = []
processes (l ∷ ls) = cond (is Proc l) (states_behind ls ∷ processes ls) (processes ls)
