-- What each call of a run promises, as a relation between its answer and what stood before and after.
use Rattle.std.specs.Prelude.{◌≡◌, ℕ, true, false, List, ℤ, Ok, Err, Result}
use Rattle.kinds.specs.Ops.{Ops}
use Rattle.hosts.specs.Meaning.{Meaning}
use Rattle.flat.specs.Layout.{Layout, Holds}
use Rattle.board.specs.declared.Board.{Board}
use Rattle.machine.specs.declared.live.Live.{Live}
use Rattle.machine.specs.declared.mounted.Mounted.{Mounted}
use Rattle.refusals.specs.declared.MountRefusal.{MountRefusal}
use Rattle.refusals.specs.declared.StartRefusal.{StartRefusal}
use Rattle.refusals.specs.declared.StartRefusal.TheVariants.{OtherKind as StartKind, Short as StartShort}
use Rattle.refusals.specs.declared.ScanRefusal.{ScanRefusal}
use Rattle.refusals.specs.declared.ScanRefusal.TheVariants.{OtherKind, Short, Down, Divisor, Stack}
use Rattle.machine.specs.Scan.{World, Told, steps, refused, refused_by, refused_in, same_word, short, scan}
use Rattle.machine.specs.Start.{started}

-- What a run has between calls: what is lent to it, and its count of scans.
pub record State (V H : Type 0) : Type 0 where
  pub cells : List V
  pub board : Board
  pub scans : ℕ
  pub host : H

-- The same with the host by its meaning.
abbrev pub world : {V H F : Type 0} → Meaning H F → State V H → World V
world host s = record { cells = s.cells; board = s.board; scans = s.scans; latch = host.latch s.host; held = host.held s.host }

-- What an answer of scan tells: its steps, or the refusal's number with what belongs to it.
abbrev pub told : {F : Type 0} → Result ℕ (ScanRefusal F) → Told F
told (Ok n) = steps n
told (Err OtherKind) = refused 10
told (Err Short) = refused 11
told (Err (Down f)) = refused_by 12 f
told (Err (Divisor p)) = refused_in 13 p.process p.state
told (Err (Stack p)) = refused_in 14 p.process p.state

-- Mount answered r: it took the code, which is of the layout, and holds it with its head; or the code is not of the layout.
abbrev pub Mounts : List ℤ → Result Mounted MountRefusal → Type 0
Mounts code (Ok m) = (m.code.now ≡ code) × Holds code m.head
Mounts code (Err e) = Layout code → ⊥

-- Start was accepted: the kind is the code's, nothing is short, the run holds the same code and head, has no scan, and stands at the beginning.
pub record Started {V : Type 0} (k : Ops V) (m : Mounted) (live : Live) (w w₁ : World V) : Type 0 where
  pub kind : same_word m.head.kind k.number ≡ true
  pub fits : short m.head w ≡ false
  pub same_code : live.code.now ≡ m.code.now
  pub same_head : live.head ≡ m.head
  pub none : live.scans ≡ 0
  pub begun : w₁ ≡ started k m.head w

-- Start answered r. A refused start changes nothing.
abbrev pub Starts : {V H F : Type 0} → Ops V → Meaning H F → Mounted → State V H → Result Live StartRefusal → State V H → Type 0
Starts k host m s (Ok live) t = Started k m live (world host s) (world host t)
Starts k host m s (Err StartKind) t = (same_word m.head.kind k.number ≡ false) × (t ≡ s)
Starts k host m s (Err StartShort) t = (same_word m.head.kind k.number ≡ true) × (short m.head (world host s) ≡ true) × (t ≡ s)

-- Scan answered r, lent so much working memory.
abbrev pub Scans : {V H F : Type 0} → Ops V → Meaning H F → List ℤ → ℕ → State V H → Result ℕ (ScanRefusal F) → State V H → Type 0
Scans k host code work s r t = (record { told = told r; world = world host t }) ≡ scan k code work (host.pins s.host) (world host s)

-- A scan that was refused before it sampled leaves the host itself as it was.
abbrev pub Untouched : {H F : Type 0} → Result ℕ (ScanRefusal F) → H → H → Type 0
Untouched (Ok n) s t = Unit {0}
Untouched (Err OtherKind) s t = t ≡ s
Untouched (Err Short) s t = t ≡ s
Untouched (Err (Down f)) s t = t ≡ s
Untouched (Err (Divisor p)) s t = Unit {0}
Untouched (Err (Stack p)) s t = Unit {0}
