-- Jigs: what their wires bring to the inputs, and what each call leaves.
use Rattle.std.specs.Prelude.{◌≡◌, ℕ, true, false, cond, List, map, replicate, ℤ, pos, Ok, Err, Result, slice_index_or, slice_set}
use Rattle.hosts.specs.Meaning.{Meaning, up, down}
use Rattle.hosts.specs.declared.jig.Jig.{Jig}
use Rattle.hosts.specs.declared.jig.LidOpen.{LidOpen}

-- The level of each input: the held output that its wire names, or 0 where it names none.
abbrev pub wired : List ℤ → List ℕ → List ℤ
wired held wiring = map (λ output. slice_index_or held output (pos 0)) wiring

-- The meaning of a jig: it is down while its lid is open.
abbrev pub jig_means : Meaning Jig LidOpen
jig_means = record {
  pins = λ j. cond j.«open» (down (record {})) (up (wired j.held j.wiring));
  latch = λ j. j.latch;
  held = λ j. j.held;
}

-- A new jig with that wiring: zeros held and latched, and the lid shut.
abbrev pub new_jig : List ℕ → Jig
new_jig wiring = record { wiring = wiring; held = replicate 32 (pos 0); latch = replicate 32 (pos 0); «open» = false }

-- A jig with its lid open, and otherwise the same.
abbrev pub lid_open : Jig → Jig
lid_open j = record { wiring = j.wiring; held = j.held; latch = j.latch; «open» = true }

-- A jig with its lid shut, and otherwise the same.
abbrev pub lid_shut : Jig → Jig
lid_shut j = record { wiring = j.wiring; held = j.held; latch = j.latch; «open» = false }

-- A sample of the jig s answered r and left t: an accepted one changes the latch alone, a refused one nothing.
abbrev pub Latched : {U : Type 0} → Jig → Result U LidOpen → Jig → Type 0
Latched s (Ok _) t = t ≡ record { wiring = s.wiring; held = s.held; latch = wired s.held s.wiring; «open» = s.«open» }
Latched s (Err _) t = t ≡ s

-- A jig after v was put to output i: nothing else of it changes.
abbrev pub driven : Jig → ℕ → ℤ → Jig
driven j i v = record { wiring = j.wiring; held = slice_set j.held i v; latch = j.latch; «open» = j.«open» }
