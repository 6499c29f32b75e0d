-- Which codes are of the layout.
use Rattle.std.specs.Prelude.{◌≡◌, ℕ, ◌+◌, ◌-◌, ◌*◌, ◌<◌, ◌≤◌, true, List, length, ℤ, pos, Ok, Err, Result}
use Rattle.flat.specs.declared.head.Head.{Head}
use Rattle.flat.specs.declared.layout.NotFlatCode.{NotFlatCode}
use Rattle.flat.specs.Words.{at, word, head, states, states_word, entry_word, opcode, operand}
use Rattle.flat.specs.Tests.{instruction_fits}

-- A word is a number from low to high.
abbrev pub Within : ℕ → ℕ → ℤ → Type 0
Within low high w = (n : ℕ) × (w ≡ pos n) × (low ≤ n) × (n ≤ high)

-- A code is of the layout: its counts are within their limits and it is as long as they say; each process has 1 to 16
-- states, whose entries are instructions' numbers, and the unused ones 0; each instruction is known and its operand fits; the last is end.
pub record Layout (code : List ℤ) : Type 0 where
  pub kind : Within 1 2 (at code 0)
  pub tact : Within 1 60000 (at code 1)
  pub cells : Within 0 64 (at code 2)
  pub inputs : Within 0 32 (at code 3)
  pub outputs : Within 0 32 (at code 4)
  pub processes : Within 1 32 (at code 5)
  pub instructions : Within 1 4096 (at code 6)
  pub size : length code ≡ 7 + 17 * word code 5 + 2 * word code 6
  pub some_states : (q : ℕ) → q < word code 5 → Within 1 16 (states_word code q)
  pub entries : (q s : ℕ) → q < word code 5 → s < states code q → Within 0 (word code 6 - 1) (entry_word code q s)
  pub unused : (q s : ℕ) → q < word code 5 → states code q ≤ s → s < 16 → entry_word code q s ≡ pos 0
  pub operands : (i : ℕ) → i < word code 6 → instruction_fits (head code) i (opcode code i) (operand code i) ≡ true
  pub last : opcode code (word code 6 - 1) ≡ pos 0

-- A code that is of the layout, and its head.
pub record Holds (code : List ℤ) (h : Head) : Type 0 where
  pub layout : Layout code
  pub head_is : h ≡ head code

-- A code was read: its head, or the answer that it is not of the layout.
abbrev pub Reads : List ℤ → Result Head NotFlatCode → Type 0
Reads code (Ok h) = Holds code h
Reads code (Err e) = Layout code → ⊥
