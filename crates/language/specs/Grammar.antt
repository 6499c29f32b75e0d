-- What items each form takes: from forms to expressions, statements and lines, by shape alone.
use Rattle.std.specs.Prelude.{ℕ, List, [], ◌∷◌, ℤ, Some, None, Option}
use Rattle.flat.specs.CellKinds.{number_of}
use Rattle.text.specs.Form.{Form, Forms, none, more}
use Rattle.language.specs.Basics.{Word, and_then, changed, or_else}
use Rattle.language.specs.Named.{Term, Act, Line}
use Rattle.language.specs.House.{house}
use Rattle.language.specs.declared.house.Opener.{Opener}
use Rattle.language.specs.declared.house.Opener.TheVariants.{Kind, Tact, Const, Cell, In, Out, Proc, State}
use Rattle.language.specs.declared.house.TermHead.{TermHead}
use Rattle.language.specs.declared.house.TermHead.TheVariants.{Operate, Not, And, Or, Ask}
use Rattle.language.specs.declared.house.ActHead.{ActHead}
use Rattle.language.specs.declared.house.ActHead.TheVariants.{Put, If, Do, Go, Next, Start, Restart, Stop, Fail, Reset, After}
use Rattle.language.specs.declared.house.House.{House}
use Rattle.language.specs.declared.house.House.TheVariants.{Opens, Expression, Statement, KindName}

-- What an item is: a word, a number, or a form that is an expression, a statement or a timeout.
pub data Item : Type 0 where
  word : Word → Item
  number : List ℕ → Item
  term : Term → Item
  act timeout : Act → Item

abbrev pub as_word : Item → Option Word
as_word (word w) = Some w
as_word _ = None

abbrev pub as_number : Item → Option (List ℕ)
as_number (number ds) = Some ds
as_number _ = None

-- An expression is a name, a number or a form that is one.
abbrev pub as_term : Item → Option Term
as_term (word w) = Some (Term.named w)
as_term (number ds) = Some (Term.number ds)
as_term (term e) = Some e
as_term _ = None

abbrev pub as_act : Item → Option Act
as_act (act s) = Some s
as_act _ = None

-- The next item is such a one, and then the rest follows.
abbrev pub takes : {A R : Type 0} → (Item → Option A) → (A → List Item → Option R) → List Item → Option R
takes reads f [] = None
takes reads f (i ∷ is) = and_then (reads i) (λ a. f a is)

-- No item is left.
abbrev pub ends : {R : Type 0} → R → List Item → Option R
ends r [] = Some r
ends r (i ∷ is) = None

-- One of two ways.
abbrev pub either_way : {R : Type 0} → (List Item → Option R) → (List Item → Option R) → List Item → Option R
either_way f g is = or_else (f is) (g is)

-- Any number of statements, and no item more.
abbrev pub acts : List Item → Option Act
acts [] = Some Act.pass
acts (i ∷ is) = and_then (as_act i) (λ s. changed (Act.then s) (acts is))

-- Any number of statements, and a timeout as the last one or none.
abbrev pub body : List Item → Option Act
body [] = Some Act.pass
body (act s ∷ is) = changed (Act.then s) (body is)
body (timeout s ∷ is) = ends (Act.then s Act.pass) is
body (_ ∷ is) = None

-- The items of each expression.
abbrev pub term_row : TermHead → List Item → Option Term
term_row (Operate o) = takes as_term λ a. takes as_term λ b. ends (Term.two o a b)
term_row Not = takes as_term λ a. ends (Term.isnt a)
term_row And = takes as_term λ a. takes as_term λ b. ends (Term.both a b)
term_row Or = takes as_term λ a. takes as_term λ b. ends (Term.either a b)
term_row (Ask q) = takes as_word λ p. ends (Term.ask q p)

-- The items of each statement.
abbrev pub act_row : ActHead → List Item → Option Item
act_row Put = takes as_word λ n. takes as_term λ e. ends (act (Act.put n e))
act_row If = takes as_term λ e. takes as_act λ s. either_way (ends (act (Act.when e s))) (takes as_act λ t. ends (act (Act.choose e s t)))
act_row Do = takes as_act λ s is. changed (λ t. act (Act.then s t)) (acts is)
act_row Go = takes as_word λ s. ends (act (Act.go s))
act_row Next = ends (act Act.next)
act_row Start = takes as_word λ p. ends (act (Act.start p))
act_row Restart = ends (act Act.restart)
act_row Stop = either_way (ends (act Act.halt)) (takes as_word λ p. ends (act (Act.stop p)))
act_row Fail = ends (act Act.fail)
act_row Reset = ends (act Act.reset)
act_row After = takes as_number λ n. takes as_act λ s. ends (timeout (Act.after n s))

-- The items of the form that a house word begins.
abbrev pub form_row : House → List Item → Option Item
form_row (Expression h) is = changed term (term_row h is)
form_row (Statement h) is = act_row h is
form_row _ is = None

-- The house word that an item is.
abbrev pub as_house : Item → Option House
as_house i = and_then (as_word i) house

abbrev mutual
  -- What an item is, if it is one that some form takes.
  pub item : Form → Option Item
  item (Form.word w) = Some (word w)
  item (Form.number ds) = Some (number ds)
  item (Form.form fs) = and_then (items fs) (takes as_house form_row)

  -- Every one of some items.
  pub items : Forms → Option (List Item)
  items none = Some []
  items (more f fs) = and_then (item f) (λ i. changed (λ is. i ∷ is) (items fs))

-- The number of the kind that a word names.
abbrev pub kind_named : House → Option ℤ
kind_named (KindName k) = Some (number_of k)
kind_named _ = None

abbrev pub as_kind : Item → Option ℤ
as_kind i = and_then (as_house i) kind_named

-- The items of each line.
abbrev pub line_row : Opener → List Item → Option Line
line_row Kind = takes as_kind λ k. ends (Line.kind k)
line_row Tact = takes as_number λ n. ends (Line.tact n)
line_row Const = takes as_word λ w. takes as_number λ n. ends (Line.const w n)
line_row Cell = takes as_word λ w. ends (Line.cell w)
line_row In = takes as_word λ w. ends (Line.input w)
line_row Out = takes as_word λ w. ends (Line.output w)
line_row Proc = takes as_word λ w. ends (Line.process w)
line_row State = takes as_word λ w is. changed (Line.state w) (body is)

-- The sort of line that a house word begins.
abbrev pub opens : House → Option Opener
opens (Opens o) = Some o
opens _ = None

abbrev pub as_opener : Item → Option Opener
as_opener i = and_then (as_house i) opens

-- A line, if the form is one.
abbrev pub line : Form → Option Line
line (Form.form fs) = and_then (items fs) (takes as_opener line_row)
line _ = None
