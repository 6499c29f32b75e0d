-- From names to numbers. A name that stands for nothing, which no well-formed text has, counts as number 0 of its sort.
use Rattle.std.specs.Prelude.{ℕ, suc, Bool, true, false, ◌&&◌, ◌||◌, List, [], ◌∷◌, ℤ, pos, is_some, Some, None, Option}
use Rattle.language.specs.Basics.{Word, found, find, collect, changed, or_else, otherwise}
use Rattle.language.specs.Numbers.{word_value, natural}
use Rattle.language.specs.Tree.{Expr, Stmt}
use Rattle.language.specs.Named.{Term, number, named, two, isnt, both, either, ask}
use Rattle.language.specs.Named.{Act, put, choose, when, pass, then, go, start, stop, next, restart, halt, fail, reset, after, Line}
use Rattle.language.specs.Lines.{declared, body, processes}
use Rattle.language.specs.declared.house.Opener.TheVariants.{Cell, In, Out, Proc, State}
use Rattle.language.specs.declared.names.Thing.{Thing}
use Rattle.language.specs.declared.names.Thing.TheVariants.{Constant, Cell as CellThing, In as InThing, Out as OutThing}
use Rattle.language.specs.declared.names.Target.{Target}
use Rattle.language.specs.declared.names.Target.TheVariants.{Cell as CellTarget, Out as OutTarget}
use Rattle.language.specs.declared.house.Enquiry.{Enquiry}
use Rattle.language.specs.declared.house.Enquiry.TheVariants.{Active, Stopped, Failed, Passive}

-- What a text declares: constants with their values, and the names of the other sorts in order.
pub record Names : Type 0 where
  pub constants : List (Word × ℤ)
  pub cells : List Word
  pub inputs : List Word
  pub outputs : List Word
  pub processes : List Word

-- Where a statement stands: its process's number, the names of that process's states, and the number of its state.
pub record Spot : Type 0 where
  pub own : ℕ
  pub states : List Word
  pub here : ℕ

-- What a name stands for in an expression: a constant, a cell, an input or an output.
abbrev pub thing : Names → Word → Option Thing
thing n w =
    or_else (changed Constant (find n.constants w))
    (or_else (changed CellThing (found w n.cells))
    (or_else (changed InThing (found w n.inputs)) (changed OutThing (found w n.outputs))))

abbrev pub thing_expr : Thing → Expr
thing_expr (Constant v) = Expr.number v
thing_expr (CellThing i) = Expr.cell i
thing_expr (InThing i) = Expr.input i
thing_expr (OutThing i) = Expr.output i

-- What a name stands for where something is put: a cell or an output.
abbrev pub target : Names → Word → Option Target
target n w = or_else (changed CellTarget (found w n.cells)) (changed OutTarget (found w n.outputs))

abbrev pub put_into : Target → Expr → Stmt
put_into (CellTarget i) e = Stmt.keep i e
put_into (OutTarget i) e = Stmt.drive i e

-- The number of a process.
abbrev pub process : Names → Word → ℕ
process n w = otherwise 0 (found w n.processes)

abbrev pub asked : Enquiry → ℕ → Expr
asked Active = Expr.active
asked Stopped = Expr.stopped
asked Failed = Expr.failed
asked Passive = Expr.passive

-- An expression with numbers for names.
abbrev pub expr : Names → Term → Expr
expr n (number ds) = Expr.number (word_value ds)
expr n (named w) = thing_expr (otherwise (Constant (pos 0)) (thing n w))
expr n (two o a b) = Expr.two o (expr n a) (expr n b)
expr n (isnt a) = Expr.isnt (expr n a)
expr n (both a b) = Expr.both (expr n a) (expr n b)
expr n (either a b) = Expr.either (expr n a) (expr n b)
expr n (ask q p) = asked q (process n p)

-- A statement with numbers for names: `next` goes to the state after this one, `restart` and `halt` are for the own process.
abbrev pub stmt : Names → Spot → Act → Stmt
stmt n at (put w e) = put_into (otherwise (CellTarget 0) (target n w)) (expr n e)
stmt n at (choose e s t) = Stmt.choose (expr n e) (stmt n at s) (stmt n at t)
stmt n at (when e s) = Stmt.when (expr n e) (stmt n at s)
stmt n at pass = Stmt.pass
stmt n at (then s t) = Stmt.then (stmt n at s) (stmt n at t)
stmt n at (go s) = Stmt.go (otherwise 0 (found s at.states))
stmt n at (start p) = Stmt.start (process n p)
stmt n at (stop p) = Stmt.stop (process n p)
stmt n at next = Stmt.go (suc at.here)
stmt n at restart = Stmt.start at.own
stmt n at halt = Stmt.stop at.own
stmt n at fail = Stmt.fail
stmt n at reset = Stmt.reset
stmt n at (after ds s) = Stmt.after (natural (word_value ds)) (stmt n at s)

-- Every name in an expression is declared, and of a sort that is taken there.
abbrev pub known_term : Names → Term → Bool
known_term n (number ds) = true
known_term n (named w) = is_some (thing n w)
known_term n (two o a b) = known_term n a && known_term n b
known_term n (isnt a) = known_term n a
known_term n (both a b) = known_term n a && known_term n b
known_term n (either a b) = known_term n a && known_term n b
known_term n (ask q p) = is_some (found p n.processes)

-- The same of a statement of a process with these states.
abbrev pub known : Names → List Word → Act → Bool
known n states (put w e) = is_some (target n w) && known_term n e
known n states (choose e s t) = known_term n e && (known n states s && known n states t)
known n states (when e s) = known_term n e && known n states s
known n states (then s t) = known n states s && known n states t
known n states (go s) = is_some (found s states)
known n states (start p) = is_some (found p n.processes)
known n states (stop p) = is_some (found p n.processes)
known n states (after ds s) = known n states s
known n states _ = true

-- A statement has a `next`.
abbrev pub has_next : Act → Bool
has_next (choose e s t) = has_next s || has_next t
has_next (when e s) = has_next s
has_next (then s t) = has_next s || has_next t
has_next next = true
has_next (after ds s) = has_next s
has_next _ = false

-- A constant and its value.
abbrev pub constant : Line → Option (Word × ℤ)
constant (Line.const w n) = Some (w, word_value n)
constant _ = None

-- The constants that lines declare, with their values.
abbrev pub constants_in : List Line → List (Word × ℤ)
constants_in ls = collect constant ls

-- What lines declare.
abbrev pub all_names : List Line → Names
all_names ls = record {
  constants = constants_in ls;
  cells = declared Cell ls;
  inputs = declared In ls;
  outputs = declared Out ls;
  processes = declared Proc ls;
}

-- The bodies of process p, whose states have these names, from its state s on.
abbrev pub bodies : Names → ℕ → List Word → ℕ → List Line → List Stmt
bodies n p states s [] = []
bodies n p states s (l ∷ ls) = stmt n (record { own = p; states = states; here = s }) (body l) ∷ bodies n p states (suc s) ls

-- The bodies of each process, from process p on.
abbrev pub resolved : Names → ℕ → List (List Line) → List (List Stmt)
resolved n p [] = []
resolved n p (g ∷ gs) = bodies n p (declared State g) 0 g ∷ resolved n (suc p) gs

-- A text's program: for each process the bodies of its states.
abbrev pub program : List Line → List (List Stmt)
program ls = resolved (all_names ls) 0 (processes ls)
