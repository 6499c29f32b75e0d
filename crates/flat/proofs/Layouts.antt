-- The tests of a code, put together, hold exactly of the codes of the layout.
use Rattle.std.proofs.Common.{◌≡◌, ℕ, ◌+◌, ◌-◌, ◌*◌, ◌<◌, ◌≤◌, true, leb, List, length, get_or, ℤ, pos, negsuc, sym, refl, ap, ◌∙◌, inl, inr, arith, length-drop, get_or-drop}
use Rattle.std.proofs.lemmas.Bool.{and_parts, and_from, cases_lt, ltb-true, leb-true, eqb-true, lt-ltb, le-ltb, le-leb, eq-eqb, false≢true}
use Rattle.flat.specs.Words.{natural, at, word, head, states, states_word, entry_word, body, opcode, operand}
use Rattle.flat.specs.Tests.{within, under, is_zero, every, timing_fits, memory_fits, program_fits, head_fits, entry_fits, process_fits, instructions_fit, ends, rest_fits, fits}
use Rattle.flat.specs.Layout.{Within, Layout}
use Rattle.flat.proofs.Every.{every_at, every_made}
use Rattle.flat.proofs.Pairs.{fit_at, fit_made}

-- Each test of a word, and what it says.
within_of : (low high : ℕ) (w : ℤ) → within low high w ≡ true → Within low high w
within_of low high (pos n) e = let both = and_parts (leb low n) (leb n high) e in (n, refl, leb-true low n both.0, leb-true n high both.1)
within_of low high (negsuc n) e = absurd (false≢true e)

of_within : (low high : ℕ) (w : ℤ) → Within low high w → within low high w ≡ true
of_within low high w (n, is, l, h) = rw is (rw (le-leb low n l) (le-leb n high h))

under_of : (limit : ℕ) (w : ℤ) → under limit w ≡ true → Within 0 (limit - 1) w
under_of limit (pos n) e = let l : n < limit = ltb-true n limit e in (n, refl, omega arith, omega arith)
under_of limit (negsuc n) e = absurd (false≢true e)

of_under : (limit : ℕ) (w : ℤ) → 1 ≤ limit → Within 0 (limit - 1) w → under limit w ≡ true
of_under limit w some (n, is, l, h) = rw is (lt-ltb n limit (omega arith))

zero_of : (w : ℤ) → is_zero w ≡ true → w ≡ pos 0
zero_of (pos n) e = ap pos (eqb-true n 0 e)
zero_of (negsuc n) e = absurd (false≢true e)

of_zero : (w : ℤ) → w ≡ pos 0 → is_zero w ≡ true
of_zero w e = rw e refl

-- An entry of a state, and one beyond the states.
used_entry : (code : List ℤ) (q s : ℕ) → s < states code q → entry_fits code q s ≡ under (word code 6) (entry_word code q s)
used_entry code q s h = rw (lt-ltb s (states code q) h) refl

unused_entry : (code : List ℤ) (q s : ℕ) → states code q ≤ s → entry_fits code q s ≡ is_zero (entry_word code q s)
unused_entry code q s h = rw (le-ltb s (states code q) h) refl

-- Where the instructions begin, and how many words they have.
module _ (code : List ℤ) (size : length code ≡ 7 + 17 * word code 5 + 2 * word code 6) where
  pub body_size : length (body code 0) ≡ 2 * word code 6
  body_size = length-drop (7 + 17 * word code 5 + 2 * 0) code ∙ (omega arith)

  body_op : (j : ℕ) → get_or (body code 0) (2 * j) (pos 0) ≡ opcode code j
  body_op j =
      let n : (7 + 17 * word code 5 + 2 * 0) + 2 * j ≡ 7 + 17 * word code 5 + 2 * j = omega arith in
      get_or-drop (7 + 17 * word code 5 + 2 * 0) code (2 * j) (pos 0) ∙ ap (at code) n

  body_operand : (j : ℕ) → get_or (body code 0) (1 + 2 * j) (pos 0) ≡ operand code j
  body_operand j =
      let n : (7 + 17 * word code 5 + 2 * 0) + (1 + 2 * j) ≡ 8 + 17 * word code 5 + 2 * j = omega arith in
      get_or-drop (7 + 17 * word code 5 + 2 * 0) code (1 + 2 * j) (pos 0) ∙ ap (at code) n

module _ (code : List ℤ) where
  -- what the test of the head says
  head_parts : head_fits code ≡ true → (timing_fits code ≡ true) × (memory_fits code ≡ true) × (program_fits code ≡ true) × (length code ≡ 7 + 17 * word code 5 + 2 * word code 6)
  head_parts e =
      let a = and_parts (timing_fits code) _ e in
      let b = and_parts (memory_fits code) _ a.1 in
      let c = and_parts (program_fits code) _ b.1 in
      (a.0, b.0, c.0, eqb-true (length code) (7 + 17 * word code 5 + 2 * word code 6) c.1)

  pub layout_of_fits : fits code ≡ true → Layout code
  unfolding fits
  layout_of_fits e =
      let both = and_parts (head_fits code) (rest_fits code) e in
      let front = head_parts both.0 in
      let timing = and_parts (within 1 2 (at code 0)) _ front.0 in
      let memory = and_parts (within 0 64 (at code 2)) _ front.1 in
      let lines = and_parts (within 0 32 (at code 3)) _ memory.1 in
      let program = and_parts (within 1 32 (at code 5)) _ front.2 in
      let size = front.3 in
      let procs = and_parts (every (process_fits code) (word code 5)) _ both.1 in
      let last = and_parts (instructions_fit (head code) 0 (body code 0)) (ends code) procs.1 in
      let process : (q : ℕ) → q < word code 5 → process_fits code q ≡ true = λ q l. every_at (process_fits code) (word code 5) q procs.0 l in
      let few : (q : ℕ) → q < word code 5 → Within 1 16 (states_word code q) = λ q l. within_of 1 16 (states_word code q) (and_parts (within 1 16 (states_word code q)) _ (process q l)).0 in
      let entry : (q s : ℕ) → q < word code 5 → s < 16 → entry_fits code q s ≡ true = λ q s l k. every_at (entry_fits code q) 16 s (and_parts (within 1 16 (states_word code q)) _ (process q l)).1 k in
      record {
        kind = within_of 1 2 (at code 0) timing.0;
        tact = within_of 1 60000 (at code 1) timing.1;
        cells = within_of 0 64 (at code 2) memory.0;
        inputs = within_of 0 32 (at code 3) lines.0;
        outputs = within_of 0 32 (at code 4) lines.1;
        processes = within_of 1 32 (at code 5) program.0;
        instructions = within_of 1 4096 (at code 6) program.1;
        size = size;
        some_states = few;
        entries = λ q s l k. under_of (word code 6) (entry_word code q s) (sym (used_entry code q s k) ∙ entry q s l (states-below q s (few q l) k));
        unused = λ q s l k h. zero_of (entry_word code q s) (sym (unused_entry code q s k) ∙ entry q s l h);
        operands = λ i l.
            let z : 0 + i ≡ i = omega arith in
            rw (z, body_op code size i, body_operand code size i) at (fit_at (head code) (word code 6) 0 (body code 0) i (body_size code size) last.0 l);
        last = zero_of (opcode code (word code 6 - 1)) last.1;
      }
    where
      states-below : (q s : ℕ) → Within 1 16 (states_word code q) → s < states code q → s < 16
      states-below q s (n, is, l, h) k = let e : states code q ≡ n = ap natural is in omega arith

  -- the instructions of a code of the layout, word after word
  pub instructions_of_layout : Layout code → instructions_fit (head code) 0 (body code 0) ≡ true
  instructions_of_layout y =
      fit_made (head code) (word code 6) 0 (body code 0) (body_size code y.size) (λ j l.
      let z : 0 + j ≡ j = omega arith in
      rw (z, body_op code y.size j, body_operand code y.size j) (y.operands j l))

  pub fits_of_layout : Layout code → fits code ≡ true
  unfolding fits
  fits_of_layout y =
      let some : 1 ≤ word code 6 = count-at-least y.instructions in
      and_from (head_fits code) (rest_fits code)
      (and_from (timing_fits code) _
      (and_from (within 1 2 (at code 0)) _ (of_within 1 2 (at code 0) y.kind) (of_within 1 60000 (at code 1) y.tact))
      (and_from (memory_fits code) _
      (and_from (within 0 64 (at code 2)) _ (of_within 0 64 (at code 2) y.cells) (and_from (within 0 32 (at code 3)) _ (of_within 0 32 (at code 3) y.inputs) (of_within 0 32 (at code 4) y.outputs)))
      (and_from (program_fits code) _
      (and_from (within 1 32 (at code 5)) _ (of_within 1 32 (at code 5) y.processes) (of_within 1 4096 (at code 6) y.instructions))
      (eq-eqb (length code) _ y.size))))
      (and_from (every (process_fits code) (word code 5)) _
      (every_made (process_fits code) (word code 5) (λ q l. process q l some))
      (and_from (instructions_fit (head code) 0 (body code 0)) (ends code)
      (instructions_of_layout y)
      (of_zero (opcode code (word code 6 - 1)) y.last)))
    where
      count-at-least : Within 1 4096 (at code 6) → 1 ≤ word code 6
      count-at-least (n, is, l, h) = let e : word code 6 ≡ n = ap natural is in omega arith

      entry : (q s : ℕ) → q < word code 5 → 1 ≤ word code 6 → s < 16 → entry_fits code q s ≡ true
      entry q s l some k =
          elim (cases_lt s (states code q)) [
            | inl used ↦ used_entry code q s used ∙ of_under (word code 6) (entry_word code q s) some (y.entries q s l used)
            | inr not ↦ unused_entry code q s not ∙ of_zero (entry_word code q s) (y.unused q s l not k)
          ]

      process : (q : ℕ) → q < word code 5 → 1 ≤ word code 6 → process_fits code q ≡ true
      process q l some =
          and_from (within 1 16 (states_word code q)) _ (of_within 1 16 (states_word code q) (y.some_states q l))
          (every_made (entry_fits code q) 16 (λ s k. entry q s l some k))
