-- Expressions, statements and lines as the text has them: names stand for things, numbers are digits.
use Rattle.std.specs.Prelude.{ℕ, List, ℤ}
use Rattle.flat.specs.declared.instr.Binary.{Binary}
use Rattle.language.specs.Basics.{Word}
use Rattle.language.specs.declared.house.Enquiry.{Enquiry}

-- An expression: a number, a name, an operation on two, not, and, or, a question about a process.
pub data Term : Type 0 where
  number : List ℕ → Term
  named : Word → Term
  two : Binary → Term → Term → Term
  isnt : Term → Term
  both either : Term → Term → Term
  ask : Enquiry → Word → Term

-- A statement. `pass` does nothing, `then` puts one behind another, `halt` stops the own process.
pub data Act : Type 0 where
  put : Word → Term → Act
  choose : Term → Act → Act → Act
  when : Term → Act → Act
  pass : Act
  then : Act → Act → Act
  go start stop : Word → Act
  next restart halt fail reset : Act
  after : List ℕ → Act → Act

-- A line. A state's body is its statements one behind another.
pub data Line : Type 0 where
  kind : ℤ → Line
  tact : List ℕ → Line
  const : Word → List ℕ → Line
  cell input output process : Word → Line
  state : Word → Act → Line
