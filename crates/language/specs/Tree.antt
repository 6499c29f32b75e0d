-- A program's expressions and statements, with each name's number in place of the name.
use Rattle.std.specs.Prelude.{ℕ, ℤ}
use Rattle.flat.specs.declared.instr.Binary.{Binary}

-- An expression.
pub data Expr : Type 0 where
  number : ℤ → Expr
  cell input output : ℕ → Expr
  two : Binary → Expr → Expr → Expr
  isnt : Expr → Expr
  both either : Expr → Expr → Expr
  active stopped failed passive : ℕ → Expr

-- A statement: `keep` puts a cell, `drive` an output, `go` enters a state of the own process.
pub data Stmt : Type 0 where
  keep drive : ℕ → Expr → Stmt
  choose : Expr → Stmt → Stmt → Stmt
  when : Expr → Stmt → Stmt
  pass : Stmt
  then : Stmt → Stmt → Stmt
  go start stop : ℕ → Stmt
  fail reset : Stmt
  after : ℕ → Stmt → Stmt
