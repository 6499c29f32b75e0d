-- The flat machine: what each instruction does.
use Rattle.std.specs.Prelude.{ℕ, ◌+◌, ◌-◌, Bool, cond, not, ◌||◌, List, [], ◌∷◌, length, ℤ, pos, Some, Ok, Err, Option, Result, ◌==◌, nat_lt, slice_index_or, slice_set}
use Rattle.kinds.specs.Ops.{Ops, flag}
use Rattle.kinds.specs.declared.NoQuotient.{NoQuotient}
use Rattle.flat.specs.declared.instr.Source.{Source}
use Rattle.flat.specs.declared.instr.Source.TheVariants.{Lit, Cell, In, Out, Yes, No, Late, Active, Stopped, Failed}
use Rattle.flat.specs.declared.instr.Unary.{Unary}
use Rattle.flat.specs.declared.instr.Unary.TheVariants.{Not, Test}
use Rattle.flat.specs.declared.instr.Binary.{Binary}
use Rattle.flat.specs.declared.instr.Binary.TheVariants.{Add, Sub, Mul, Div, Less, Same}
use Rattle.flat.specs.declared.instr.Control.{Control}
use Rattle.flat.specs.declared.instr.Control.TheVariants.{State, Start, Stop, Fail, Reset}
use Rattle.flat.specs.declared.instr.Instr.{Instr}
use Rattle.flat.specs.declared.instr.Instr.TheVariants.{End, Push, Convert, Combine, Jump, Unless, Keep, Drive, Set}
use Rattle.board.specs.declared.Board.{Board}
use Rattle.board.specs.Rows.{state, clock, enter, rewind}

-- What a scan changes as it runs: the cells, the stack with its top first, the board, and for each output line the level put so far.
pub record Machine (V : Type 0) : Type 0 where
  pub cells : List V
  pub stack : List V
  pub board : Board
  pub puts : List (Option ℤ)

-- What comes of one instruction: the body is over, or it goes on past so many instructions, or the scan is given up
-- for want of a quotient, or because the stack held too few values or too many.
pub data Outcome (V : Type 0) : Type 0 where
  over : Machine V → Outcome V
  skip : ℕ → Machine V → Outcome V
  no_quotient : Outcome V
  no_room : Outcome V

-- The machine with another stack, other cells, another board, other levels put.
abbrev pub with_stack : {V : Type 0} → List V → Machine V → Machine V
with_stack s m = record { cells = m.cells; stack = s; board = m.board; puts = m.puts }

abbrev pub with_cells : {V : Type 0} → List V → Machine V → Machine V
with_cells c m = record { cells = c; stack = m.stack; board = m.board; puts = m.puts }

abbrev pub with_board : {V : Type 0} → Board → Machine V → Machine V
with_board b m = record { cells = m.cells; stack = m.stack; board = b; puts = m.puts }

abbrev pub with_puts : {V : Type 0} → List (Option ℤ) → Machine V → Machine V
with_puts q m = record { cells = m.cells; stack = m.stack; board = m.board; puts = q }

-- The top of the stack is taken, and the rest goes on with it; an empty stack gives the scan up.
abbrev pub top_of : {V : Type 0} → List V → Machine V → (V → Machine V → Outcome V) → Outcome V
top_of [] m f = no_room
top_of (v ∷ rest) m f = f v (with_stack rest m)

abbrev pub pop : {V : Type 0} → Machine V → (V → Machine V → Outcome V) → Outcome V
pop m f = top_of m.stack m f

-- A value is pushed; a seventeenth gives the scan up.
abbrev pub push : {V : Type 0} → V → Machine V → Outcome V
push v m = cond (nat_lt (length m.stack) 16) (skip 0 (with_stack (v ∷ m.stack) m)) no_room

-- The value of an operation is pushed, where there is one.
abbrev pub push_result : {V : Type 0} → Result V NoQuotient → Machine V → Outcome V
push_result (Ok v) m = push v m
push_result (Err e) m = no_quotient

-- A state in which nothing runs: 255 is stopped, 254 is failed.
abbrev pub passive : ℕ → Bool
passive s = s == 254 || s == 255

-- The value that an instruction of process p pushes, with the levels sampled.
abbrev pub value : {V : Type 0} → Ops V → List ℤ → ℕ → Source → List V → Board → V
value k seen p (Lit x) cells b = k.reading x
value k seen p (Cell i) cells b = slice_index_or cells i k.zero
value k seen p (In i) cells b = k.reading (slice_index_or seen i (pos 0))
value k seen p (Out i) cells b = k.reading (slice_index_or b.levels i (pos 0))
value k seen p Yes cells b = k.one
value k seen p No cells b = k.zero
value k seen p (Late x) cells b = flag k (nat_lt x (clock b p))
value k seen p (Active q) cells b = flag k (not (passive (state b q)))
value k seen p (Stopped q) cells b = flag k (state b q == 255)
value k seen p (Failed q) cells b = flag k (state b q == 254)

-- The operations on one value and on two, the one pushed first in front.
abbrev pub converted : {V : Type 0} → Ops V → Unary → V → V
converted k Not a = flag k (not (k.truth a))
converted k Test a = flag k (k.truth a)

abbrev pub combined : {V : Type 0} → Ops V → Binary → V → V → Result V NoQuotient
combined k Add a b = Ok (k.sum a b)
combined k Sub a b = Ok (k.difference a b)
combined k Mul a b = Ok (k.product a b)
combined k Div a b = k.quotient a b
combined k Less a b = Ok (flag k (k.less a b))
combined k Same a b = Ok (flag k (k.same a b))

-- A change of a process row, by an instruction of process p.
abbrev pub controlled : ℕ → Control → Board → Board
controlled p (State s) b = enter p s b
controlled p (Start q) b = enter q 0 b
controlled p (Stop q) b = enter q 255 b
controlled p Fail b = enter p 254 b
controlled p Reset b = rewind p b

-- Instruction i of the code, run by process p, with the levels sampled.
abbrev pub step : {V : Type 0} → Ops V → List ℤ → ℕ → ℕ → Instr → Machine V → Outcome V
step k seen p i End m = over m
step k seen p i (Push s) m = push (value k seen p s m.cells m.board) m
step k seen p i (Convert u) m = pop m (λ a m₁. push (converted k u a) m₁)
step k seen p i (Combine o) m = pop m (λ b m₁. pop m₁ (λ a m₂. push_result (combined k o a b) m₂))
step k seen p i (Jump x) m = skip (x - (i + 1)) m
step k seen p i (Unless x) m = pop m (λ a m₁. cond (k.truth a) (skip 0 m₁) (skip (x - (i + 1)) m₁))
step k seen p i (Keep c) m = pop m (λ a m₁. skip 0 (with_cells (slice_set m₁.cells c a) m₁))
step k seen p i (Drive o) m = pop m (λ a m₁. skip 0 (with_puts (slice_set m₁.puts o (Some (k.writing a))) m₁))
step k seen p i (Set c) m = skip 0 (with_board (controlled p c m.board) m)
