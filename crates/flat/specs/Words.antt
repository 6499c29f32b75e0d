-- The words of a flat code by their places.
use Rattle.std.specs.Prelude.{ℕ, ◌+◌, ◌*◌, List, drop, ℤ, pos, negsuc, slice_index_or, Option, Some, None}
use Rattle.flat.specs.declared.head.Head.{Head}

-- The number that a word is, unless it is negative.
abbrev pub number : ℤ → Option ℕ
number (pos n) = Some n
number (negsuc n) = None

-- A word as a count or a place: a negative word, which no layout has there, counts as 0.
abbrev pub natural : ℤ → ℕ
natural (pos n) = n
natural (negsuc n) = 0

-- The word at a place, and 0 beyond the end.
abbrev pub at : List ℤ → ℕ → ℤ
at code i = slice_index_or code i (pos 0)

-- The same as a count or a place.
abbrev pub word : List ℤ → ℕ → ℕ
word code i = natural (at code i)

-- The seven words in front: kind, tact, cells, inputs, outputs, processes, instructions.
abbrev pub head : List ℤ → Head
head code = record {
  kind = at code 0;
  tact = word code 1;
  cells = word code 2;
  inputs = word code 3;
  outputs = word code 4;
  processes = word code 5;
  instructions = word code 6;
}

-- Then seventeen words for each process q: its number of states, and sixteen entries.
abbrev pub states_word : List ℤ → ℕ → ℤ
states_word code q = at code (7 + 17 * q)

abbrev pub entry_word : List ℤ → ℕ → ℕ → ℤ
entry_word code q s = at code (8 + 17 * q + s)

abbrev pub states : List ℤ → ℕ → ℕ
states code q = natural (states_word code q)

abbrev pub entry : List ℤ → ℕ → ℕ → ℕ
entry code q s = natural (entry_word code q s)

-- Then two words for each instruction, its number and its operand: the words from instruction i on.
abbrev pub body : List ℤ → ℕ → List ℤ
body code i = drop (7 + 17 * word code 5 + 2 * i) code

abbrev pub opcode : List ℤ → ℕ → ℤ
opcode code i = at code (7 + 17 * word code 5 + 2 * i)

abbrev pub operand : List ℤ → ℕ → ℤ
operand code i = at code (8 + 17 * word code 5 + 2 * i)
