-- From statements to flat code: how many instructions each takes, which, and how many run at most.
use Rattle.std.specs.Prelude.{ℕ, ◌+◌, max, List, ◌∷◌}
use Rattle.language.specs.Tree.{Expr, number, cell, input, output, two, isnt, both, either, active, stopped, failed, passive}
use Rattle.language.specs.Tree.{Stmt, keep, drive, choose, when, pass, then, go, start, stop, fail, reset, after}
use Rattle.flat.specs.declared.instr.Source.TheVariants.{Lit, Cell, In, Out, Yes, No, Late, Active, Stopped, Failed}
use Rattle.flat.specs.declared.instr.Unary.TheVariants.{Not, Test}
use Rattle.flat.specs.declared.instr.Control.TheVariants.{State, Start, Stop, Fail, Reset}
use Rattle.flat.specs.declared.instr.Instr.{Instr}
use Rattle.flat.specs.declared.instr.Instr.TheVariants.{Push, Convert, Combine, Jump, Unless, Keep, Drive, Set}

-- How many instructions an expression takes.
abbrev pub size : Expr → ℕ
size (number v) = 1
size (cell n) = 1
size (input n) = 1
size (output n) = 1
size (two o a b) = size a + size b + 1
size (isnt a) = size a + 1
size (both a b) = size a + size b + 4
size (either a b) = size a + size b + 4
size (active p) = 1
size (stopped p) = 1
size (failed p) = 1
size (passive p) = 2

-- The code of an expression that begins at the place p, and then the code `rest`. It leaves the value on the stack.
abbrev pub code : ℕ → Expr → List Instr → List Instr
code p (number v) rest = Push (Lit v) ∷ rest
code p (cell n) rest = Push (Cell n) ∷ rest
code p (input n) rest = Push (In n) ∷ rest
code p (output n) rest = Push (Out n) ∷ rest
code p (two o a b) rest = code p a (code (p + size a) b (Combine o ∷ rest))
code p (isnt a) rest = code p a (Convert Not ∷ rest)
code p (both a b) rest =
    let F = p + size a + 1 + size b + 2 in
    code p a (Unless F ∷ code (p + size a + 1) b (Convert Test ∷ (Jump (F + 1) ∷ (Push No ∷ rest))))
code p (either a b) rest =
    let F = p + size a + 3 in
    code p a (Unless F ∷ (Push Yes ∷ (Jump (F + size b + 1) ∷ code F b (Convert Test ∷ rest))))
code p (active q) rest = Push (Active q) ∷ rest
code p (stopped q) rest = Push (Stopped q) ∷ rest
code p (failed q) rest = Push (Failed q) ∷ rest
code p (passive q) rest = Push (Active q) ∷ (Convert Not ∷ rest)

-- The longest way through an expression's code, an `unless` going either way.
abbrev pub longest : Expr → ℕ
longest (number v) = 1
longest (cell n) = 1
longest (input n) = 1
longest (output n) = 1
longest (two o a b) = longest a + longest b + 1
longest (isnt a) = longest a + 1
longest (both a b) = longest a + 1 + max (longest b + 2) 1
longest (either a b) = longest a + 1 + max 2 (longest b + 1)
longest (active p) = 1
longest (stopped p) = 1
longest (failed p) = 1
longest (passive p) = 2

-- How many instructions a statement takes.
abbrev pub size_of : Stmt → ℕ
size_of (keep n e) = size e + 1
size_of (drive n e) = size e + 1
size_of (choose e s t) = size e + size_of s + size_of t + 2
size_of (when e s) = size e + size_of s + 1
size_of pass = 0
size_of (then s t) = size_of s + size_of t
size_of (go s) = 1
size_of (start p) = 1
size_of (stop p) = 1
size_of fail = 1
size_of reset = 1
size_of (after n s) = size_of s + 2

-- The code of a statement that begins at the place p, and then the code `rest`.
abbrev pub code_of : ℕ → Stmt → List Instr → List Instr
code_of p (keep n e) rest = code p e (Keep n ∷ rest)
code_of p (drive n e) rest = code p e (Drive n ∷ rest)
code_of p (choose e s t) rest =
    let L = p + size e + 1 + size_of s + 1 in
    code p e (Unless L ∷ code_of (p + size e + 1) s (Jump (L + size_of t) ∷ code_of L t rest))
code_of p (when e s) rest = code p e (Unless (p + size e + 1 + size_of s) ∷ code_of (p + size e + 1) s rest)
code_of p pass rest = rest
code_of p (then s t) rest = code_of p s (code_of (p + size_of s) t rest)
code_of p (go s) rest = Set (State s) ∷ rest
code_of p (start q) rest = Set (Start q) ∷ rest
code_of p (stop q) rest = Set (Stop q) ∷ rest
code_of p fail rest = Set Fail ∷ rest
code_of p reset rest = Set Reset ∷ rest
code_of p (after n s) rest = Push (Late n) ∷ (Unless (p + 2 + size_of s) ∷ code_of (p + 2) s rest)

-- The longest way through a statement's code.
abbrev pub longest_of : Stmt → ℕ
longest_of (keep n e) = longest e + 1
longest_of (drive n e) = longest e + 1
longest_of (choose e s t) = longest e + 1 + max (longest_of s + 1) (longest_of t)
longest_of (when e s) = longest e + 1 + longest_of s
longest_of pass = 0
longest_of (then s t) = longest_of s + longest_of t
longest_of (go s) = 1
longest_of (start p) = 1
longest_of (stop p) = 1
longest_of fail = 1
longest_of reset = 1
longest_of (after n s) = 2 + longest_of s
