-- A code of the layout can be run: what its tests say of each instruction.
use Rattle.std.proofs.Common.{◌≡◌, ℕ, ◌+◌, ◌-◌, ◌*◌, ◌<◌, ◌≤◌, true, false, ltb, List, [], ◌∷◌, length, get_or, drop, ℤ, pos, negsuc, sym, ap, ◌∙◌, inl, inr, arith}
use Rattle.std.proofs.lemmas.Bool.{ltb-true, and_parts, cases_lt, false≢true}
use Rattle.std.proofs.lemmas.Bool.Decides.{nat_tests}
use Rattle.std.specs.List.{AllByRecursion, range_with_len}
use Rattle.std.proofs.lemmas.List.{drop-drop}
use Rattle.std.proofs.lemmas.List.Elements.{All-from_recursion, All-get_or}
use Rattle.std.proofs.lemmas.List.FromFn.{length-range_with_len, get_or-range_with_len}
use Rattle.flat.specs.declared.head.Head.{Head}
use Rattle.flat.specs.declared.instr.Instr.{Instr}
use Rattle.flat.specs.declared.instr.Instr.TheVariants.{End}
use Rattle.flat.specs.Words.{natural, at, word, head, states_word, body}
use Rattle.flat.specs.Instructions.{table, decoded}
use Rattle.flat.specs.Tests.{under, ahead, operand_fits, instruction_fits, instructions_fit}
use Rattle.flat.specs.Layout.{Within, Layout}
use Rattle.flat.proofs.Layouts.{body_size, instructions_of_layout}
use Rattle.bodies.specs.Memory.{InRange, Inside, Sound, Runnable}
use Rattle.bodies.proofs.Bodies.{sound_skip}

-- what holds of each number below n, of one of them
each_at : (P : ℕ → Type 0) (n j : ℕ) → AllByRecursion P (range_with_len 0 n) → j < n → P j
each_at P n j all l =
    let e : get_or (range_with_len 0 n) j 0 ≡ j = grind (arith, get_or-range_with_len) in
    rw e at (All-get_or P (range_with_len 0 n) j 0 (rw length-range_with_len l) (All-from_recursion P (range_with_len 0 n) all))

module _ (h : Head) (i : ℕ) (rest : List ℤ) (few-in : h.inputs ≤ 32) (few-out : h.outputs ≤ 32) (few-procs : h.processes ≤ 32) (size : h.instructions * 2 ≡ i * 2 + 2 + length rest) where
  -- an instruction that fits reads and writes within memory, and jumps within the words left
  abbrev Safe : Instr → Type 0
  Safe instr = InRange h.cells i instr × Inside i rest instr

  -- what the tests of an operand say
  below : (limit : ℕ) (x : ℤ) → under limit x ≡ true → natural x < limit
  below limit (pos n) e = ltb-true n limit e
  below limit (negsuc n) e = absurd (false≢true e)

  forward : (x : ℤ) → ahead i h.instructions x ≡ true → (i < natural x) × (2 * (natural x - i) ≤ length rest)
  forward (pos n) e =
      let both = and_parts (ltb i n) (ltb n h.instructions) e in
      let low : i < n = ltb-true i n both.0 in
      let high : n < h.instructions = ltb-true n h.instructions both.1 in
      (low, omega arith)
  forward (negsuc n) e = absurd (false≢true e)

  -- the instruction with the number o, if its operand fits
  abbrev Fits : ℕ → Type 0
  Fits o = (x : ℤ) → operand_fits h i o x ≡ true → Safe (get_or (table x (natural x)) o End)

  all_fit : AllByRecursion Fits (range_with_len 0 28)
  all_fit =
      let cell : (x : ℤ) → under h.cells x ≡ true → (natural x < h.cells) × Unit {0} = λ x e. (below h.cells x e, tt) in
      let line : (n : ℕ) → n ≤ 32 → (x : ℤ) → under n x ≡ true → (natural x < 32) × Unit {0} = λ n few x e. let b = below n x e in (omega arith, tt) in
      let input = line h.inputs few-in in
      let output = line h.outputs few-out in
      let process = line h.processes few-procs in (
        λ x e. (tt, tt),
        (
          λ x e. (tt, tt),
          (
            cell,
            (
              input,
              (
                output,
                (
                  λ x e. (tt, tt),
                  (
                    λ x e. (tt, tt),
                    (
                      λ x e. (tt, tt),
                      (
                        λ x e. (tt, tt),
                        (
                          λ x e. (tt, tt),
                          (
                            λ x e. (tt, tt),
                            (
                              λ x e. (tt, tt),
                              (
                                λ x e. (tt, tt),
                                (
                                  λ x e. (tt, tt),
                                  (
                                    λ x e. (tt, tt),
                                    (
                                      forward,
                                      (
                                        forward,
                                        (
                                          cell,
                                          (
                                            output,
                                            (
                                              λ x e. (below 16 x e, tt),
                                              (
                                                process,
                                                (
                                                  process,
                                                  (
                                                    λ x e. (tt, tt),
                                                    (
                                                      λ x e. (tt, tt),
                                                      (λ x e. (tt, tt), (process, (process, (process, tt)))),
                                                    ),
                                                  ),
                                                ),
                                              ),
                                            ),
                                          ),
                                        ),
                                      ),
                                    ),
                                  ),
                                ),
                              ),
                            ),
                          ),
                        ),
                      ),
                    ),
                  ),
                ),
              ),
            ),
          ),
        ),
      )

  -- a number that is not among the 28 does not fit
  unknown : (o : ℕ) (x : ℤ) → 28 ≤ o → operand_fits h i o x ≡ false
  unknown o x l = grind (arith, nat_tests)

  known : (o : ℕ) (x : ℤ) → operand_fits h i o x ≡ true → o < 28
  known o x e = elim (cases_lt o 28) [ inl low ↦ low | inr high ↦ absurd (false≢true (sym (unknown o x high) ∙ e)) ]

  fit_safe : (o x : ℤ) → instruction_fits h i o x ≡ true → Safe (decoded o x)
  unfolding decoded
  fit_safe (pos o) x e = each_at Fits 28 o all_fit (known o x e) x e
  fit_safe (negsuc o) x e = absurd (false≢true e)

-- a word within limits, as a count
count_of : (low high : ℕ) (w : ℤ) → Within low high w → (low ≤ natural w) × (natural w ≤ high)
count_of low high w (n, is, l, h) = let e : natural w ≡ n = ap natural is in (omega arith, omega arith)

-- words that fit can be run
module _ (h : Head) (few-in : h.inputs ≤ 32) (few-out : h.outputs ≤ 32) (few-procs : h.processes ≤ 32) where
  fit_sound : (i : ℕ) (words : List ℤ) → instructions_fit h i words ≡ true → h.instructions * 2 ≡ i * 2 + length words → Sound h.cells i words
  fit_sound i [] e size = tt
  fit_sound i (op ∷ []) e size = absurd (false≢true e)
  fit_sound i (op ∷ (x ∷ rest)) e size =
      let both = and_parts (instruction_fits h i op x) (instructions_fit h (i + 1) rest) e in
      let safe = fit_safe h i rest few-in few-out few-procs (omega arith) op x both.0 in
      (safe.0, safe.1, fit_sound (i + 1) rest both.1 (omega arith))

pub runnable : (code : List ℤ) → Layout code → Runnable code
runnable code y =
    let procs = count_of 1 32 (at code 5) y.processes in
    let total = count_of 1 4096 (at code 6) y.instructions in
    let long = body_size code y.size in
    let all : Sound (word code 2) 0 (body code 0) =
    fit_sound (head code) (count_of 0 32 (at code 3) y.inputs).1 (count_of 0 32 (at code 4) y.outputs).1 procs.1 0 (body code 0) (instructions_of_layout code y) (omega arith) in
    record {
      few_cells = (count_of 0 64 (at code 2) y.cells).1;
      few_processes = procs.1;
      few_instructions = total.1;
      size = y.size;
      few_states = λ q l. (count_of 1 16 (states_word code q) (y.some_states q l)).1;
      entries = λ q s l k. let e = count_of 0 (word code 6 - 1) _ (y.entries q s l k) in let some = total.0 in omega arith;
      sound = λ i l.
          let start : 7 + 17 * word code 5 + 2 * 0 + 2 * i ≡ 7 + 17 * word code 5 + 2 * i = omega arith in
          let here : drop (2 * i) (body code 0) ≡ body code i = drop-drop (2 * i) (7 + 17 * word code 5 + 2 * 0) code ∙ ap (λ (n : ℕ). drop n code) start in
          let z : 0 + i ≡ i = omega arith in
          rw (← here) (rw z at (sound_skip i (word code 2) 0 (body code 0) (omega arith) all));
    }
