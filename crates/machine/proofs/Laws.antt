-- The law of what a scan keeps.
use Rattle.std.proofs.Common.{◌≡◌, ℕ, ◌+◌, Bool, true, false, cond, not, ◌||◌, ltb, List, ℤ, Ok, Err, Result, sym, refl, ap, subst}
use Rattle.kinds.specs.Ops.{Ops}
use Rattle.hosts.specs.Meaning.{Meaning, Pins, up, down}
use Rattle.flat.specs.Words.{at, word, head}
use Rattle.refusals.specs.declared.ScanRefusal.{ScanRefusal}
use Rattle.refusals.specs.declared.ScanRefusal.TheVariants.{OtherKind, Short, Down, Divisor, Stack}
use Rattle.bodies.specs.Sweep.{Swept, swept, no_divisor, no_stack}
use Rattle.machine.specs.Scan.{World, Told, steps, refused, refused_by, refused_in, Scanned, counted, latched, ended, swept_on, sampled, same_word, short, scan}
use Rattle.machine.specs.Calls.{State, world, told}
use Rattle.machine.specs.Laws.{Kept, Leaves, ScanLaw}

-- what a scan leaves, by what it tells
abbrev After : {V F : Type 0} → Pins F → World V → Told F → World V → Type 0
After pins w (steps n) w₁ = (pins ≡ up w₁.latch) × (w₁.scans ≡ counted w.scans)
After pins w (refused m) w₁ = w₁ ≡ w
After pins w (refused_by m f) w₁ = (pins ≡ down f) × (w₁ ≡ w)
After pins w (refused_in m q s) w₁ = (pins ≡ up w₁.latch) × (w₁ ≡ latched w₁.latch w)

module _ {V : Type 0} (F : Type 0) (k : Ops V) (code : List ℤ) (w : World V) where
  after_end : (levels : List ℤ) (s : Swept V) → After {F = F} (up levels) w (ended code levels w s).told (ended {F = F} code levels w s).world
  after_end levels (swept n m) = (refl, refl)
  after_end levels (no_divisor q s) = (refl, refl)
  after_end levels (no_stack q s) = (refl, refl)

  after_sample : (pins : Pins F) → After pins w (sampled k code pins w).told (sampled k code pins w).world
  after_sample (up levels) = after_end levels (swept_on k code levels w)
  after_sample (down f) = (refl, refl)

  after_tests : (a b : Bool) (pins : Pins F)
      → (let r : Scanned V F = cond a (record { told = refused 10; world = w }) (cond b (record { told = refused 11; world = w }) (sampled k code pins w)) in After pins w r.told r.world)
  after_tests true b pins = refl
  after_tests false true pins = refl
  after_tests false false pins = after_sample pins

  after_scan : (work : ℕ) (pins : Pins F) → After pins w (scan k code work pins w).told (scan k code work pins w).world
  after_scan work pins = after_tests (not (same_word (at code 0) k.number)) (ltb work (word code 2 + 16) || short (head code) w) pins

-- worlds that agree but for the latch
kept_of : {V H F : Type 0} (host : Meaning H F) (s t : State V H) (levels : List ℤ) → world host t ≡ latched levels (world host s) → Kept host s t
kept_of {V} host s t levels e = record {
  cells = ap (λ (w : World V). w.cells) e;
  board = ap (λ (w : World V). w.board) e;
  scans = ap (λ (w : World V). w.scans) e;
  held = ap (λ (w : World V). w.held) e;
}

latch_of : {V H F : Type 0} (host : Meaning H F) (s t : State V H) → world host t ≡ world host s → host.latch t.host ≡ host.latch s.host
latch_of {V} host s t e = ap (λ (w : World V). w.latch) e

leaves_of : {V H F : Type 0} (host : Meaning H F) (s : State V H) (r : Result ℕ (ScanRefusal F)) (t : State V H) → After (host.pins s.host) (world host s) (told r) (world host t) → Leaves host s r t
leaves_of host s (Ok n) t a = a
leaves_of host s (Err OtherKind) t a = (latch_of host s t a, kept_of host s t (host.latch s.host) a)
leaves_of host s (Err Short) t a = (latch_of host s t a, kept_of host s t (host.latch s.host) a)
leaves_of host s (Err (Down f)) t a = (a.0, latch_of host s t a.1, kept_of host s t (host.latch s.host) a.1)
leaves_of host s (Err (Divisor p)) t a = (a.0, kept_of host s t (host.latch t.host) a.1)
leaves_of host s (Err (Stack p)) t a = (a.0, kept_of host s t (host.latch t.host) a.1)

pub scan_law : {V H F : Type 0} (k : Ops V) (host : Meaning H F) → ScanLaw k host
scan_law {V} {H} {F} k host code work s r t e =
    leaves_of host s r t
    (subst (λ (x : Scanned V F). After (host.pins s.host) (world host s) x.told x.world) (sym e) (after_scan F k code (world host s) work (host.pins s.host)))
