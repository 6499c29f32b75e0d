-- A statement takes as many instructions before its names are looked up as after: whatever a name stands for takes one.
use Rattle.std.proofs.Common.{◌≡◌, ℕ, ◌+◌, pos, refl, arith}
use Rattle.language.specs.Basics.{otherwise}
use Rattle.language.specs.Tree.{Expr}
use Rattle.language.specs.Named.{Term, number, named, two, isnt, both, either, ask}
use Rattle.language.specs.Named.{Act, put, choose, when, then, after}
use Rattle.language.specs.Compile.{size, size_of}
use Rattle.language.specs.Resolve.{Names, Spot, thing_expr, put_into, process, asked, expr, stmt, thing, target}
use Rattle.language.specs.Sizes.{enquiry_size, term_size, act_size}
use Rattle.language.specs.declared.names.Thing.{Thing}
use Rattle.language.specs.declared.names.Thing.TheVariants.{Constant}
use Rattle.language.specs.declared.names.Target.{Target}
use Rattle.language.specs.declared.names.Target.TheVariants.{Cell as CellTarget}
use Rattle.language.specs.declared.house.Enquiry.{Enquiry}
use Rattle.language.specs.declared.house.Enquiry.TheVariants.{Active}

-- What a name stands for takes one instruction.
size_of_thing : (t : Thing) → size (thing_expr t) ≡ 1
size_of_thing (Constant v) = refl
size_of_thing _ = refl

-- A question takes as many as the table says, whatever the process.
size_of_asked : (q : Enquiry) (p : ℕ) → size (asked q p) ≡ enquiry_size q
size_of_asked Active p = refl
size_of_asked _ p = refl

-- To put a value takes one instruction behind those of the value.
size_of_put : (t : Target) (e : Expr) → size_of (put_into t e) ≡ size e + 1
size_of_put (CellTarget i) e = refl
size_of_put _ e = refl

-- The sizes of expressions and statements, for any names and anywhere.
pub term_sizes : (n : Names) (t : Term) → size (expr n t) ≡ term_size t
term_sizes n (number ds) = refl
term_sizes n (named w) = size_of_thing (otherwise (Constant (pos 0)) (thing n w))
term_sizes n (two o a b) = omega (arith, term_sizes n a, term_sizes n b)
term_sizes n (isnt a) = omega (arith, term_sizes n a)
term_sizes n (both a b) = omega (arith, term_sizes n a, term_sizes n b)
term_sizes n (either a b) = omega (arith, term_sizes n a, term_sizes n b)
term_sizes n (ask q p) = size_of_asked q (process n p)

pub act_sizes : (n : Names) (at : Spot) (a : Act) → size_of (stmt n at a) ≡ act_size a
act_sizes n at (put w e) = omega (arith, size_of_put (otherwise (CellTarget 0) (target n w)) (expr n e), term_sizes n e)
act_sizes n at (choose e s t) = omega (arith, term_sizes n e, act_sizes n at s, act_sizes n at t)
act_sizes n at (when e s) = omega (arith, term_sizes n e, act_sizes n at s)
act_sizes n at (then s t) = omega (arith, act_sizes n at s, act_sizes n at t)
act_sizes n at (after ds s) = omega (arith, act_sizes n at s)
act_sizes n at _ = refl
