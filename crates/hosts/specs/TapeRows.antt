-- Tapes: the rows of levels that stand at their pins.
use Rattle.std.specs.Prelude.{◌≡◌, ℕ, ◌+◌, cond, ◌&&◌, List, length, take, drop, ℤ, Ok, Err, Result, nat_le, nat_lt}
use Rattle.hosts.specs.Meaning.{Meaning, Pins, up, down}
use Rattle.hosts.specs.declared.tape.Spent.{Spent}
use Rattle.hosts.specs.declared.tape.Tape.{Tape}

-- The number of inputs of a tape with rows of the width wanted: a width above 32 has none.
abbrev pub tape_lines : ℕ → ℕ
tape_lines width = cond (nat_le width 32) width 0

-- What stands at the pins: the next whole row of the numbers left, or the fault that tells the rows used.
-- A row of no numbers never stands there.
abbrev pub next_row : ℕ → List ℤ → ℕ → Pins Spent
next_row width rest used = cond (nat_lt 0 width && nat_le width (length rest)) (up (take width rest)) (down (record { rows = used }))

-- The meaning of a tape. Its rows are as wide as the one latched.
abbrev pub tape_means : Meaning Tape Spent
tape_means = record {
  pins = λ t. next_row (length t.latch.now) t.rest.now t.used;
  latch = λ t. t.latch.now;
  held = λ t. t.held;
}

-- A sample of the tape s answered r and left t: an accepted one moves on by exactly one row and counts it, a refused one changes nothing.
abbrev pub Moved : {U : Type 0} → Tape → Result U Spent → Tape → Type 0
Moved s (Ok _) t = (t.rest.now ≡ drop (length s.latch.now) s.rest.now) × (t.used ≡ s.used + 1)
Moved s (Err _) t = t ≡ s

-- The tapes s and t have the same rows left, and used as many.
abbrev pub SameRows : Tape → Tape → Type 0
SameRows s t = (t.rest ≡ s.rest) × (t.used ≡ s.used)
