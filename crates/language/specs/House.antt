-- The house words, and what each is there for.
use Rattle.std.specs.Prelude.{List, [], ◌∷◌, codes, Option}
use Rattle.flat.specs.declared.instr.Binary.TheVariants.{Add, Sub, Mul, Div, Less, Same}
use Rattle.flat.specs.declared.kind.CellKind.TheVariants.{Long, Milli}
use Rattle.language.specs.Basics.{Word, find, or_else}
use Rattle.language.specs.declared.house.Opener.TheVariants.{Kind, Tact, Const, Cell, In, Out, Proc, State}
use Rattle.language.specs.declared.house.Enquiry.TheVariants.{Active, Stopped, Failed, Passive}
use Rattle.language.specs.declared.house.TermHead.TheVariants.{Operate, Not, And, Or, Ask}
use Rattle.language.specs.declared.house.ActHead.TheVariants.{Put, If, Do, Go, Next, Start, Restart, Stop, Fail, Reset, After}
use Rattle.language.specs.declared.house.House.{House}
use Rattle.language.specs.declared.house.House.TheVariants.{Opens, Expression, Statement, KindName}

-- Words that begin a line.
abbrev pub opener_words : List (Word × House)
opener_words =
    (codes "kind", Opens Kind) ∷ (codes "tact", Opens Tact) ∷ (codes "const", Opens Const) ∷ (codes "cell", Opens Cell)
    ∷ (codes "in", Opens In) ∷ (codes "out", Opens Out) ∷ (codes "proc", Opens Proc) ∷ (codes "state", Opens State) ∷ []

-- Words that name a kind of cell.
abbrev pub kind_words : List (Word × House)
kind_words = (codes "long", KindName Long) ∷ (codes "milli", KindName Milli) ∷ []

-- Words that begin an operation on two expressions.
abbrev pub operation_words : List (Word × House)
operation_words =
    (codes "add", Expression (Operate Add)) ∷ (codes "sub", Expression (Operate Sub)) ∷ (codes "mul", Expression (Operate Mul))
    ∷ (codes "div", Expression (Operate Div)) ∷ (codes "less", Expression (Operate Less)) ∷ (codes "same", Expression (Operate Same)) ∷ []

-- Words that begin an expression of truths.
abbrev pub truth_words : List (Word × House)
truth_words =
    (codes "not", Expression Not) ∷ (codes "and", Expression And) ∷ (codes "or", Expression Or)
    ∷ (codes "active", Expression (Ask Active)) ∷ (codes "stopped", Expression (Ask Stopped))
    ∷ (codes "failed", Expression (Ask Failed)) ∷ (codes "passive", Expression (Ask Passive)) ∷ []

-- Words that begin a statement made of others, or that puts.
abbrev pub compound_words : List (Word × House)
compound_words = (codes "put", Statement Put) ∷ (codes "if", Statement If) ∷ (codes "do", Statement Do) ∷ (codes "after", Statement After) ∷ []

-- Words that begin a statement which sets a state or a clock.
abbrev pub change_words : List (Word × House)
change_words =
    (codes "go", Statement Go) ∷ (codes "next", Statement Next) ∷ (codes "start", Statement Start) ∷ (codes "restart", Statement Restart)
    ∷ (codes "stop", Statement Stop) ∷ (codes "fail", Statement Fail) ∷ (codes "reset", Statement Reset) ∷ []

-- What a word is there for in front of a line's items, if it begins a line or names a kind.
abbrev pub line_word : Word → Option House
line_word w = or_else (find opener_words w) (find kind_words w)

abbrev pub expression_word : Word → Option House
expression_word w = or_else (find operation_words w) (find truth_words w)

abbrev pub statement_word : Word → Option House
statement_word w = or_else (find compound_words w) (find change_words w)

-- The expression or the statement that a word begins.
abbrev pub body_word : Word → Option House
body_word w = or_else (expression_word w) (statement_word w)

-- What a word is there for, if it is one of the 34 house words.
unfoldable pub house : Word → Option House
house w = or_else (line_word w) (body_word w)
