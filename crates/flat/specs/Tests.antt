-- The tests by which a code is found to be of the layout.
use Rattle.std.specs.Prelude.{ℕ, ◌+◌, ◌-◌, ◌*◌, Bool, true, false, cond, ◌&&◌, ◌||◌, List, [], ◌∷◌, length, ℤ, pos, negsuc, ◌==◌, nat_le, nat_lt}
use Rattle.std.specs.List.{list_all, range_with_len}
use Rattle.flat.specs.declared.head.Head.{Head}
use Rattle.flat.specs.Words.{at, word, head, states, states_word, entry_word, body, opcode}

-- A word from low to high.
abbrev pub within : ℕ → ℕ → ℤ → Bool
within low high (pos n) = nat_le low n && nat_le n high
within low high (negsuc n) = false

-- A word that is not negative and lies below a limit.
abbrev pub under : ℕ → ℤ → Bool
under limit (pos n) = nat_lt n limit
under limit (negsuc n) = false

-- A word that is 0.
abbrev pub is_zero : ℤ → Bool
is_zero (pos n) = n == 0
is_zero (negsuc n) = false

-- A jump from instruction i goes forward, to an instruction that is there.
abbrev pub ahead : ℕ → ℕ → ℤ → Bool
ahead i total (pos n) = nat_lt i n && nat_lt n total
ahead i total (negsuc n) = false

-- A test holds at each of the first n places.
unfoldable pub every : (ℕ → Bool) → ℕ → Bool
every test n = list_all test (range_with_len 0 n)

-- A kind that is known, and a tact of 1 to 60,000 milliseconds.
abbrev pub timing_fits : List ℤ → Bool
timing_fits code = within 1 2 (at code 0) && within 1 60000 (at code 1)

-- At most 64 cells, 32 inputs and 32 outputs.
abbrev pub memory_fits : List ℤ → Bool
memory_fits code = within 0 64 (at code 2) && (within 0 32 (at code 3) && within 0 32 (at code 4))

-- 1 to 32 processes and 1 to 4,096 instructions.
abbrev pub program_fits : List ℤ → Bool
program_fits code = within 1 32 (at code 5) && within 1 4096 (at code 6)

-- The head fits, and the code is as long as it says.
abbrev pub head_fits : List ℤ → Bool
head_fits code = timing_fits code && (memory_fits code && (program_fits code && length code == 7 + 17 * word code 5 + 2 * word code 6))

-- The entry of a state is an instruction's number; an entry beyond the process's states is 0.
abbrev pub entry_fits : List ℤ → ℕ → ℕ → Bool
entry_fits code q s = cond (nat_lt s (states code q)) (under (word code 6) (entry_word code q s)) (is_zero (entry_word code q s))

-- A process has 1 to 16 states, and its entries fit.
abbrev pub process_fits : List ℤ → ℕ → Bool
process_fits code q = within 1 16 (states_word code q) && every (entry_fits code q) 16

-- The operand x of the instruction with the number o, which is instruction i of its code.
abbrev pub operand_fits : Head → ℕ → ℕ → ℤ → Bool
operand_fits h i o x =
    cond (o == 0 || ((nat_le 5 o && nat_le o 14) || (nat_le 22 o && nat_le o 23))) (is_zero x)
    (cond (o == 1) true
    (cond (o == 2 || o == 17) (under h.cells x)
    (cond (o == 3) (under h.inputs x)
    (cond (o == 4 || o == 18) (under h.outputs x)
    (cond (nat_le 15 o && nat_le o 16) (ahead i h.instructions x)
    (cond (o == 19) (under 16 x)
    (cond (o == 24) (under 65536 x)
    (cond ((nat_le 20 o && nat_le o 21) || (nat_le 25 o && nat_le o 27)) (under h.processes x) false))))))))

-- Instruction i has one of the 28 numbers, and its operand fits.
abbrev pub instruction_fits : Head → ℕ → ℤ → ℤ → Bool
instruction_fits h i (pos o) x = operand_fits h i o x
instruction_fits h i (negsuc o) x = false

-- Each instruction fits: the words from instruction i on, two to an instruction.
abbrev pub instructions_fit : Head → ℕ → List ℤ → Bool
instructions_fit h i [] = true
instructions_fit h i (op ∷ []) = false
instructions_fit h i (op ∷ (x ∷ rest)) = instruction_fits h i op x && instructions_fit h (i + 1) rest

-- The last instruction is end.
abbrev pub ends : List ℤ → Bool
ends code = is_zero (opcode code (word code 6 - 1))

-- The processes and the instructions fit, and the last instruction is end.
abbrev pub rest_fits : List ℤ → Bool
rest_fits code = every (process_fits code) (word code 5) && (instructions_fit (head code) 0 (body code 0) && ends code)

-- A code of the layout.
unfoldable pub fits : List ℤ → Bool
fits code = head_fits code && rest_fits code
