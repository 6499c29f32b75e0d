-- How many instructions and words a code has.
use Rattle.std.proofs.Common.{◌≡◌, ℕ, zero, suc, ◌+◌, ◌*◌, List, [], ◌∷◌, ◌++◌, length, ℤ, pos, sym, refl, ap, ◌∙◌, append_assoc, arith}
use Rattle.flat.specs.declared.instr.Instr.{Instr}
use Rattle.language.specs.Tree.{Expr, number, cell, input, output, two, isnt, both, either, active, stopped, failed, passive}
use Rattle.language.specs.Tree.{Stmt, keep, drive, choose, when, pass, then, go, start, stop, fail, reset, after}
use Rattle.language.specs.Compile.{size, size_of, code, code_of}
use Rattle.language.specs.Program.{size_of_bodies, size_of_all, code_of_bodies, instructions_from}
use Rattle.language.specs.Words.{instruction_words, padded, process_words}

code_length : (e : Expr) (p : ℕ) (rest : List Instr) → length (code p e rest) ≡ size e + length rest
code_length (number v) p rest = omega arith
code_length (cell n) p rest = omega arith
code_length (input n) p rest = omega arith
code_length (output n) p rest = omega arith
code_length (two o a b) p rest = code_length a p _ ∙ ap (λ k. size a + k) (code_length b _ _) ∙ omega arith
code_length (isnt a) p rest = code_length a p _ ∙ omega arith
code_length (both a b) p rest = code_length a p _ ∙ ap (λ k. size a + suc k) (code_length b _ _) ∙ omega arith
code_length (either a b) p rest = code_length a p _ ∙ ap (λ k. size a + suc (suc (suc k))) (code_length b _ _) ∙ omega arith
code_length (active q) p rest = omega arith
code_length (stopped q) p rest = omega arith
code_length (failed q) p rest = omega arith
code_length (passive q) p rest = omega arith

code_of_length : (s : Stmt) (p : ℕ) (rest : List Instr) → length (code_of p s rest) ≡ size_of s + length rest
code_of_length (keep n e) p rest = code_length e p _ ∙ omega arith
code_of_length (drive n e) p rest = code_length e p _ ∙ omega arith
code_of_length (choose e s t) p rest =
    code_length e p _ ∙ ap (λ k. size e + suc k) (code_of_length s _ _) ∙ ap (λ k. size e + suc (size_of s + suc k)) (code_of_length t _ rest) ∙ omega arith
code_of_length (when e s) p rest = code_length e p _ ∙ ap (λ k. size e + suc k) (code_of_length s _ rest) ∙ omega arith
code_of_length pass p rest = omega arith
code_of_length (then s t) p rest = code_of_length s p _ ∙ ap (λ k. size_of s + k) (code_of_length t _ rest) ∙ omega arith
code_of_length (go s) p rest = omega arith
code_of_length (start q) p rest = omega arith
code_of_length (stop q) p rest = omega arith
code_of_length fail p rest = omega arith
code_of_length reset p rest = omega arith
code_of_length (after n s) p rest = ap (λ k. suc (suc k)) (code_of_length s _ rest) ∙ omega arith

bodies_length : (bs : List Stmt) (p : ℕ) (rest : List Instr) → length (code_of_bodies p bs rest) ≡ size_of_bodies bs + length rest
bodies_length [] p rest = omega arith
bodies_length (b ∷ bs) p rest = code_of_length b p _ ∙ ap (λ k. size_of b + suc k) (bodies_length bs _ rest) ∙ omega arith

pub instructions_length : (ps : List (List Stmt)) (p : ℕ) → length (instructions_from p ps) ≡ size_of_all ps
instructions_length [] p = refl
instructions_length (bs ∷ ps) p = bodies_length bs p _ ∙ ap (λ k. size_of_bodies bs + k) (instructions_length ps _)

-- Two words for each instruction.
pub words_length : (is : List Instr) → length (instruction_words is) ≡ 2 * length is
words_length [] = refl
words_length (i ∷ is) = let h = words_length is in omega arith

-- Sixteen entries, whatever they are, and seventeen words for each process, whatever stands behind them.
padded_append : (n : ℕ) (es : List ℕ) (rest : List ℤ) → padded n es rest ≡ padded n es [] ++ rest
padded_append zero es rest = refl
padded_append (suc n) [] rest = ap (λ ws. pos 0 ∷ ws) (padded_append n [] rest)
padded_append (suc n) (e ∷ es) rest = ap (λ ws. pos e ∷ ws) (padded_append n es rest)

padded_length : (n : ℕ) (es : List ℕ) (rest : List ℤ) → length (padded n es rest) ≡ n + length rest
padded_length zero es rest = omega arith
padded_length (suc n) [] rest = let h = padded_length n [] rest in omega arith
padded_length (suc n) (e ∷ es) rest = let h = padded_length n es rest in omega arith

pub processes_append : (ps : List (List ℕ)) (rest : List ℤ) → process_words ps rest ≡ process_words ps [] ++ rest
processes_append [] rest = refl
processes_append (es ∷ ps) rest =
    ap (λ ws. pos (length es) ∷ ws)
    (padded_append 16 es (process_words ps rest) ∙ ap (λ ws. padded 16 es [] ++ ws) (processes_append ps rest) ∙ sym (append_assoc (padded 16 es []) (process_words ps []) rest)
    ∙ ap (λ ws. ws ++ rest) (sym (padded_append 16 es (process_words ps []))))

pub processes_length : (ps : List (List ℕ)) (rest : List ℤ) → length (process_words ps rest) ≡ 17 * length ps + length rest
processes_length [] rest = omega arith
processes_length (es ∷ ps) rest = let h = padded_length 16 es (process_words ps rest) in let k = processes_length ps rest in omega arith
