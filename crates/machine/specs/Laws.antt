-- What a scan keeps and what it counts, in plain words, from what the call promises.
use Rattle.std.specs.Prelude.{◌≡◌, ℕ, ◌+◌, ◌-◌, ◌^◌, min, List, ℤ, Ok, Err, Result}
use Rattle.kinds.specs.Ops.{Ops}
use Rattle.hosts.specs.Meaning.{Meaning, up, down}
use Rattle.refusals.specs.declared.ScanRefusal.{ScanRefusal}
use Rattle.refusals.specs.declared.ScanRefusal.TheVariants.{OtherKind, Short, Down, Divisor, Stack}
use Rattle.machine.specs.Calls.{State, Scans}

-- Cells, board, count and the host's held outputs are as they were.
pub record Kept {V H F : Type 0} (host : Meaning H F) (s t : State V H) : Type 0 where
  pub cells : t.cells ≡ s.cells
  pub board : t.board ≡ s.board
  pub scans : t.scans ≡ s.scans
  pub held : host.held t.host ≡ host.held s.host

-- The scan sampled: the latch is now what stood at the pins as it was called.
abbrev pub SampledPins : {V H F : Type 0} → Meaning H F → State V H → State V H → Type 0
SampledPins host s t = host.pins s.host ≡ up (host.latch t.host)

-- The scan did not sample: the latch is as it was.
abbrev pub NotSampled : {V H F : Type 0} → Meaning H F → State V H → State V H → Type 0
NotSampled host s t = host.latch t.host ≡ host.latch s.host

-- An accepted scan sampled and counts one more, up to 2^64 - 1. A refused one keeps all but the latch, which has moved exactly
-- if the scan was given up for its divisor or its stack. The host's own fault is told exactly as it stood at the pins.
abbrev pub Leaves : {V H F : Type 0} → Meaning H F → State V H → Result ℕ (ScanRefusal F) → State V H → Type 0
Leaves host s (Ok n) t = SampledPins host s t × (t.scans ≡ min (s.scans + 1) (2 ^ 64 - 1))
Leaves host s (Err OtherKind) t = NotSampled host s t × Kept host s t
Leaves host s (Err Short) t = NotSampled host s t × Kept host s t
Leaves host s (Err (Down f)) t = (host.pins s.host ≡ down f) × NotSampled host s t × Kept host s t
Leaves host s (Err (Divisor p)) t = SampledPins host s t × Kept host s t
Leaves host s (Err (Stack p)) t = SampledPins host s t × Kept host s t

-- So it is for every code, every working memory, every state and every answer of a scan.
abbrev pub ScanLaw : {V H F : Type 0} → Ops V → Meaning H F → Type 0
ScanLaw {V} {H} {F} k host =
    (code : List ℤ) (work : ℕ) (s : State V H) (r : Result ℕ (ScanRefusal F)) (t : State V H) → Scans k host code work s r t → Leaves host s r t
