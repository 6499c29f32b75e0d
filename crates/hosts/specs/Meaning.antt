-- What a host means, and what a sample of one does.
use Rattle.std.specs.Prelude.{◌≡◌, List, length, ℤ, Ok, Err, Result}

-- What stands at a host's pins: a level for each input, or the fault by which the host is down.
pub data Pins (F : Type 0) : Type 0 where
  up : List ℤ → Pins F
  down : F → Pins F

-- A host in the state s: what stands at its pins, the levels latched at the last sample, the outputs held.
-- Its number of inputs is that of the latched levels, its number of outputs that of the held ones.
pub record Meaning (S F : Type 0) : Type 0 where
  pub pins : S → Pins F
  pub latch : S → List ℤ
  pub held : S → List ℤ

-- A sample of a host in the state s answered r and left it in the state t. Where the host was up, the latch is now what
-- stood at the pins, with as many lines as before, and the outputs are kept. Where it was down, that fault is told and nothing changes.
abbrev pub Sampled : {S F U : Type 0} → Meaning S F → S → Result U F → S → Type 0
Sampled m s (Ok _) t = (m.pins s ≡ up (m.latch t)) × (m.held t ≡ m.held s) × (length (m.latch t) ≡ length (m.latch s))
Sampled m s (Err f) t = (m.pins s ≡ down f) × (t ≡ s)
