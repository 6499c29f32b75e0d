-- The numbers that names stand for are below the number of lines.
use Rattle.std.proofs.Common.{◌≡◌, ℕ, ◌<◌, ◌≤◌, List, ℤ, pos, Some, None, Option, refl, arith}
use Rattle.text.specs.declared.row.Row.{Row}
use Rattle.std.specs.Option.{unwrap_or}
use Rattle.language.specs.Basics.{Word, found, changed, or_else, find, otherwise}
use Rattle.language.specs.Lines.{declared}
use Rattle.language.specs.OnSheet.{lines_at}
use Rattle.language.specs.Resolve.{thing, target, all_names}
use Rattle.language.specs.declared.house.Opener.{Opener}
use Rattle.language.specs.declared.house.Opener.TheVariants.{Cell, In, Out}
use Rattle.language.specs.declared.names.Thing.{Thing}
use Rattle.language.specs.declared.names.Thing.TheVariants.{Constant, Cell as CellThing, In as InThing, Out as OutThing}
use Rattle.language.specs.declared.names.Target.{Target}
use Rattle.language.specs.declared.names.Target.TheVariants.{Cell as CellTarget, Out as OutTarget}
use Rattle.language.proofs.Lines.{lines_length}
use Rattle.lookup.proofs.Lookups.{found_below, declared_below}
use Rattle.language.specs.Pushes.{thing_source, target_instr}
use Rattle.translator.specs.Writing.{operand, source_operand}

pub named_below : (rows : List Row) (p m : ℕ) (o : Opener) (w : Word) (n : ℕ) → found w (declared o (lines_at rows p m)) ≡ Some n → n < m
named_below rows p m o w n e =
    let a = found_below w (declared o (lines_at rows p m)) n e in
    let b = declared_below o (lines_at rows p m) in
    let l = lines_length rows p m in
    omega arith

-- The number that a name stands for, or 0 where it stands for none.
pub found_or_below : (o : Option ℕ) (m r : ℕ) → r ≡ unwrap_or o 0 → ((n : ℕ) → o ≡ Some n → n < m) → r ≤ m
found_or_below None m r e h = omega arith
found_or_below (Some n) m r e h = let k = h n refl in omega arith

-- What a name stands for is one of so many.
thing_one : (v : Option ℤ) (c i o : Option ℕ) (m : ℕ) → ((k : ℕ) → c ≡ Some k → k < m) → ((k : ℕ) → i ≡ Some k → k < m) → ((k : ℕ) → o ≡ Some k → k < m)
    → (t : Thing) → or_else (changed Constant v) (or_else (changed CellThing c) (or_else (changed InThing i) (changed OutThing o))) ≡ Some t → source_operand (thing_source t) ≤ m
thing_one (Some v) c i o m hc hi ho t e = let q : t ≡ Constant v = cc in rw q (omega arith)
thing_one None (Some c) i o m hc hi ho t e = let q : t ≡ CellThing c = cc in let k = hc c refl in rw q (omega arith)
thing_one None None (Some i) o m hc hi ho t e = let q : t ≡ InThing i = cc in let k = hi i refl in rw q (omega arith)
thing_one None None None (Some o) m hc hi ho t e = let q : t ≡ OutThing o = cc in let k = ho o refl in rw q (omega arith)
thing_one None None None None m hc hi ho t e = let z : ◌≡◌ {A = ℕ} 0 1 = cc in omega arith

pub thing_below : (rows : List Row) (p m : ℕ) (w : Word) (t : Thing) → thing (all_names (lines_at rows p m)) w ≡ Some t → source_operand (thing_source t) ≤ m
thing_below rows p m w t e =
    let n = all_names (lines_at rows p m) in
    thing_one (find n.constants w) (found w n.cells) (found w n.inputs) (found w n.outputs) m
    (named_below rows p m Cell w) (named_below rows p m In w) (named_below rows p m Out w) t e

target_one : (c o : Option ℕ) (m : ℕ) → ((k : ℕ) → c ≡ Some k → k < m) → ((k : ℕ) → o ≡ Some k → k < m)
    → (t : Target) → or_else (changed CellTarget c) (changed OutTarget o) ≡ Some t → operand (target_instr t) ≤ m
target_one (Some c) o m hc ho t e = let q : t ≡ CellTarget c = cc in let k = hc c refl in rw q (omega arith)
target_one None (Some o) m hc ho t e = let q : t ≡ OutTarget o = cc in let k = ho o refl in rw q (omega arith)
target_one None None m hc ho t e = let z : ◌≡◌ {A = ℕ} 0 1 = cc in omega arith

pub target_below : (rows : List Row) (p m : ℕ) (w : Word) (t : Target) → target (all_names (lines_at rows p m)) w ≡ Some t → operand (target_instr t) ≤ m
target_below rows p m w t e =
    let n = all_names (lines_at rows p m) in
    target_one (found w n.cells) (found w n.outputs) m (named_below rows p m Cell w) (named_below rows p m Out w) t e

-- The same of what is pushed or put, also where a name stands for nothing.
source_or_below : (o : Option Thing) (m : ℕ) → ((t : Thing) → o ≡ Some t → source_operand (thing_source t) ≤ m)
    → source_operand (thing_source (otherwise (Constant (pos 0)) o)) ≤ m
source_or_below None m h = omega arith
source_or_below (Some t) m h = h t refl

pub source_below : (rows : List Row) (p m : ℕ) (w : Word) → source_operand (thing_source (otherwise (Constant (pos 0)) (thing (all_names (lines_at rows p m)) w))) ≤ m
source_below rows p m w = source_or_below (thing (all_names (lines_at rows p m)) w) m (thing_below rows p m w)

instr_or_below : (o : Option Target) (m : ℕ) → ((t : Target) → o ≡ Some t → operand (target_instr t) ≤ m)
    → operand (target_instr (otherwise (CellTarget 0) o)) ≤ m
instr_or_below None m h = omega arith
instr_or_below (Some t) m h = h t refl

pub instr_below : (rows : List Row) (p m : ℕ) (w : Word) → operand (target_instr (otherwise (CellTarget 0) (target (all_names (lines_at rows p m)) w))) ≤ m
instr_below rows p m w = instr_or_below (target (all_names (lines_at rows p m)) w) m (target_below rows p m w)
