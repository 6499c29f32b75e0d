-- Expressions, statements and lines by the rows at which their parts begin. Shape is not tested here: where a form is what it should be, these are what the grammar reads (proofs/OnSheets).
use Rattle.std.specs.Prelude.{ℕ, zero, suc, ◌+◌, ◌-◌, cond, List, [], ◌∷◌, length, map, pos, Some, None, Option, ◌==◌, nat_lt}
use Rattle.text.specs.Sheet.{row_at, next_row, starts}
use Rattle.text.specs.declared.items.Items.{Items}
use Rattle.text.specs.declared.row.Row.{Row}
use Rattle.text.specs.declared.row.Row.TheVariants.{Word as WordRow, Number as NumberRow, Items as FormRow}
use Rattle.language.specs.Basics.{Word, and_then, otherwise}
use Rattle.language.specs.Named.{Term, Act, Line}
use Rattle.language.specs.House.{house}
use Rattle.language.specs.Grammar.{opens, kind_named}
use Rattle.language.specs.declared.house.Opener.{Opener}
use Rattle.language.specs.declared.house.Opener.TheVariants.{Kind, Tact, Const, Cell, In, Out, Proc, State}
use Rattle.language.specs.declared.house.TermHead.{TermHead}
use Rattle.language.specs.declared.house.TermHead.TheVariants as term_head
use Rattle.language.specs.declared.house.ActHead.{ActHead}
use Rattle.language.specs.declared.house.ActHead.TheVariants as act_head
use Rattle.language.specs.declared.house.House.{House}
use Rattle.language.specs.declared.house.House.TheVariants.{Expression, Statement}
use Rattle.language.specs.declared.view.TermView.{TermView}
use Rattle.language.specs.declared.view.TermView.TheVariants.{Number, Name, Two, Not, And, Or, Ask}
use Rattle.language.specs.declared.view.Change.{Change}
use Rattle.language.specs.declared.view.Change.TheVariants.{Go, Next, Start, Restart, Stop, Halt, Fail, Reset}
use Rattle.language.specs.declared.view.ActView.{ActView}
use Rattle.language.specs.declared.view.ActView.TheVariants.{Put, When, Choose, Do, After, Set}

-- The row at which a form's items begin.
abbrev pub inner_row : List Row → ℕ → ℕ
inner_row rows at = cond (nat_lt at (length rows)) (at + 1) (length rows)

-- The rows of a form's second, third and fourth item.
abbrev pub second_row : List Row → ℕ → ℕ
second_row rows at = next_row rows (inner_row rows at)

abbrev pub third_row : List Row → ℕ → ℕ
third_row rows at = next_row rows (second_row rows at)

abbrev pub fourth_row : List Row → ℕ → ℕ
fourth_row rows at = next_row rows (third_row rows at)

-- How many items a row has.
abbrev pub count_in : Row → ℕ
count_in (FormRow k n) = k
count_in _ = 0

abbrev pub count_at : List Row → ℕ → ℕ
count_at rows at = count_in (row_at rows at)

-- The word that a row is, or no byte.
abbrev pub word_in : Row → Word
word_in (WordRow w) = w.now
word_in _ = []

abbrev pub word_at : List Row → ℕ → Word
word_at rows at = word_in (row_at rows at)

-- The digits that a row is, or no byte.
abbrev pub digits_in : Row → List ℕ
digits_in (NumberRow w) = w.now
digits_in _ = []

abbrev pub digits_at : List Row → ℕ → List ℕ
digits_at rows at = digits_in (row_at rows at)

-- The house word that a row is.
abbrev pub house_in : Row → Option House
house_in (WordRow w) = house w.now
house_in _ = None

abbrev pub house_at : List Row → ℕ → Option House
house_at rows at = house_in (row_at rows at)

-- The sort of line that begins at a row.
abbrev pub opener_at : List Row → ℕ → Option Opener
opener_at rows at = and_then (house_at rows (inner_row rows at)) opens

-- The expression that a word begins.
abbrev pub head_view : List Row → ℕ → TermHead → TermView
head_view rows at (term_head.Operate o) = Two o (second_row rows at) (third_row rows at)
head_view rows at term_head.Not = Not (second_row rows at)
head_view rows at term_head.And = And (second_row rows at) (third_row rows at)
head_view rows at term_head.Or = Or (second_row rows at) (third_row rows at)
head_view rows at (term_head.Ask q) = Ask q (second_row rows at)

-- The expression at a row, taken apart.
abbrev pub house_view : List Row → ℕ → Option House → Option TermView
house_view rows at (Some (Expression h)) = Some (head_view rows at h)
house_view rows at _ = None

abbrev pub row_view : List Row → ℕ → Row → Option TermView
row_view rows at (WordRow w) = Some Name
row_view rows at (NumberRow w) = Some Number
row_view rows at (FormRow k n) = house_view rows at (house_at rows (inner_row rows at))

abbrev pub term_view : List Row → ℕ → Option TermView
term_view rows at = row_view rows at (row_at rows at)

-- The statement that a word begins: an `if` of three items has no second statement, a `stop` of one item is for the own process.
abbrev pub statement_view : List Row → ℕ → ActHead → ActView
statement_view rows at act_head.Put = Put (second_row rows at) (third_row rows at)
statement_view rows at act_head.If = cond (count_at rows at == 3) (When (second_row rows at) (third_row rows at)) (Choose (second_row rows at) (third_row rows at) (fourth_row rows at))
statement_view rows at act_head.Do = Do (second_row rows at) (count_at rows at - 1)
statement_view rows at act_head.After = After (second_row rows at) (third_row rows at)
statement_view rows at act_head.Go = Set (Go (second_row rows at))
statement_view rows at act_head.Next = Set Next
statement_view rows at act_head.Start = Set (Start (second_row rows at))
statement_view rows at act_head.Restart = Set Restart
statement_view rows at act_head.Stop = cond (count_at rows at == 1) (Set Halt) (Set (Stop (second_row rows at)))
statement_view rows at act_head.Fail = Set Fail
statement_view rows at act_head.Reset = Set Reset

-- The statement at a row, taken apart.
abbrev pub house_act : List Row → ℕ → Option House → Option ActView
house_act rows at (Some (Statement h)) = Some (statement_view rows at h)
house_act rows at _ = None

abbrev pub act_view : List Row → ℕ → Option ActView
act_view rows at = house_act rows at (house_at rows (inner_row rows at))

-- The expression that a view shows, its parts given by their rows.
abbrev pub term_of : List Row → ℕ → (ℕ → Term) → TermView → Term
term_of rows at T Number = Term.number (digits_at rows at)
term_of rows at T Name = Term.named (word_at rows at)
term_of rows at T (Two o a b) = Term.two o (T a) (T b)
term_of rows at T (Not a) = Term.isnt (T a)
term_of rows at T (And a b) = Term.both (T a) (T b)
term_of rows at T (Or a b) = Term.either (T a) (T b)
term_of rows at T (Ask q p) = Term.ask q (word_at rows p)

-- The same of a row that may show none.
abbrev pub term_seen : List Row → ℕ → (ℕ → Term) → Option TermView → Term
term_seen rows at T None = Term.number []
term_seen rows at T (Some view) = term_of rows at T view

-- The expression at a row, read at most d deep.
abbrev pub term_at : ℕ → List Row → ℕ → Term
term_at zero rows at = Term.number []
term_at (suc d) rows at = term_seen rows at (term_at d rows) (term_view rows at)

-- Statements one behind another.
abbrev pub sequence : List Act → Act
sequence [] = Act.pass
sequence (a ∷ others) = Act.then a (sequence others)

-- The next k statements from row p on, one behind another.
abbrev pub acts_of : (ℕ → Act) → List Row → ℕ → ℕ → Act
acts_of A rows p k = sequence (map A (starts rows p k))

-- The statements that items are, one behind another.
abbrev pub acts_in : (ℕ → Act) → Items → Act
acts_in A items = acts_of A items.rows.now items.first items.count

abbrev pub change_of : List Row → Change → Act
change_of rows (Go s) = Act.go (word_at rows s)
change_of rows Next = Act.next
change_of rows (Start p) = Act.start (word_at rows p)
change_of rows Restart = Act.restart
change_of rows (Stop p) = Act.stop (word_at rows p)
change_of rows Halt = Act.halt
change_of rows Fail = Act.fail
change_of rows Reset = Act.reset

-- The statement that a view shows, its parts given by their rows.
abbrev pub act_of : List Row → (ℕ → Term) → (ℕ → Act) → ActView → Act
act_of rows T A (Put n e) = Act.put (word_at rows n) (T e)
act_of rows T A (When e s) = Act.when (T e) (A s)
act_of rows T A (Choose e s t) = Act.choose (T e) (A s) (A t)
act_of rows T A (Do p k) = acts_of A rows p k
act_of rows T A (After n s) = Act.after (digits_at rows n) (A s)
act_of rows T A (Set c) = change_of rows c

-- The same of a row that may show none.
abbrev pub act_seen : List Row → (ℕ → Term) → (ℕ → Act) → Option ActView → Act
act_seen rows T A None = Act.pass
act_seen rows T A (Some view) = act_of rows T A view

-- The statement at a row, read at most d deep.
abbrev pub act_at : ℕ → List Row → ℕ → Act
act_at zero rows at = Act.pass
act_at (suc d) rows at = act_seen rows (term_at d rows) (act_at d rows) (act_view rows at)

-- The body of the state line at a row: its items behind the name.
abbrev pub body_at : List Row → ℕ → Act
body_at rows at = acts_of (act_at 12 rows) rows (third_row rows at) (count_at rows at - 2)

-- The line of a sort at a row; of no sort, a line of no kind.
abbrev pub line_of : List Row → ℕ → Option Opener → Line
line_of rows at None = Line.kind (pos 0)
line_of rows at (Some Kind) = Line.kind (otherwise (pos 0) (and_then (house_at rows (second_row rows at)) kind_named))
line_of rows at (Some Tact) = Line.tact (digits_at rows (second_row rows at))
line_of rows at (Some Const) = Line.const (word_at rows (second_row rows at)) (digits_at rows (third_row rows at))
line_of rows at (Some Cell) = Line.cell (word_at rows (second_row rows at))
line_of rows at (Some In) = Line.input (word_at rows (second_row rows at))
line_of rows at (Some Out) = Line.output (word_at rows (second_row rows at))
line_of rows at (Some Proc) = Line.process (word_at rows (second_row rows at))
line_of rows at (Some State) = Line.state (word_at rows (second_row rows at)) (body_at rows at)

unfoldable pub line_at : List Row → ℕ → Line
line_at rows at = line_of rows at (opener_at rows at)

-- The m lines from a row on.
abbrev pub lines_at : List Row → ℕ → ℕ → List Line
lines_at rows p m = map (line_at rows) (starts rows p m)

-- The lines that items are.
abbrev pub lines_of : Items → List Line
lines_of items = lines_at items.rows.now items.first items.count
