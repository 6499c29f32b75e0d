-- Brackets balance in the tokens of a text, and a byte gives at most two tokens.
use Rattle.std.proofs.Common.{◌≡◌, ℕ, ◌+◌, ◌-◌, ◌*◌, ◌<◌, ◌≤◌, Bool, true, false, cond, ltb, List, [], ◌∷◌, ◌++◌, length, refl, subst, arith}
use Rattle.std.proofs.lemmas.Bool.{ltb-true, ltb-false}
use Rattle.text.specs.Bytes.{class_of, grows}
use Rattle.text.specs.Tokens.{Mode, line, want, after, ended, in_word, in_number, Spot, spot, halt, Tok, left, right, name, numeral, Toks, tok, end, bad, last, prefix, toks, Out, goes, says, lex, opening, at_after}
use Rattle.text.specs.declared.class.Class.{Class}
use Rattle.text.proofs.Ways.{out, by_test, line_ways, want_ways, after_ways, ended_ways, word_ways, number_ways}

-- k brackets are open before the tokens, none is at the end, and every item is in a bracket
abbrev pub Balanced : ℕ → Toks → Type 0
Balanced k end = k ≡ 0
Balanced k (bad n) = Unit {0}
Balanced k (tok left ts) = Balanced (k + 1) ts
Balanced k (tok right ts) = (0 < k) × Balanced (k - 1) ts
Balanced k (tok (name w) ts) = (0 < k) × Balanced k ts
Balanced k (tok (numeral w) ts) = (0 < k) × Balanced k ts

-- how many brackets can be open in a mode
abbrev Level : Mode → ℕ → Type 0
Level line k = k ≡ 0
Level want k = 0 < k
Level after k = 0 < k
Level ended k = k ≡ 0
Level (in_word w) k = 0 < k
Level (in_number w) k = 0 < k

module _ (bs : List ℕ) (ih : (m : Mode) (k n : ℕ) → Level m k → Balanced k (toks (spot m k n) bs)) where
  abbrev Fine : ℕ → Out → Type 0
  Fine k o = Balanced k (out o bs)

  opens : (k n : ℕ) → Fine k (opening k n)
  opens k n = by_test (λ t. Fine k (cond t (says left (goes (spot want (k + 1) n))) (goes (halt n)))) (ltb k 12) (λ _. ih want (k + 1) n (omega arith)) (λ _. tt)

  closes : (k n : ℕ) → 0 < k → Balanced (k - 1) (toks (cond (ltb 1 k) (spot after (k - 1) n) (spot ended 0 n)) bs)
  closes k n h =
      by_test (λ t. Balanced (k - 1) (toks (cond t (spot after (k - 1) n) (spot ended 0 n)) bs)) (ltb 1 k) (λ e. ih after (k - 1) n (omega (arith, ltb-true 1 k e)))
      (λ e. let z : 0 ≡ k - 1 = omega (arith, ltb-false 1 k e) in subst (λ j. Balanced j (toks (spot ended 0 n) bs)) z (ih ended 0 n refl))

  behind : (k n : ℕ) (c : Class) → 0 < k → Fine k (at_after k n c)
  behind k n c h = after_ways (Fine k) k n c (λ _. (h, closes k n h)) (λ _. ih want k n h) tt

  grown : (t : Bool) (m : Mode) (k n : ℕ) → Level m k → Balanced k (toks (cond t (spot m k n) (halt n)) bs)
  grown true m k n h = ih m k n h
  grown false m k n h = tt

  fine : (m : Mode) (k n b : ℕ) (c : Class) → Level m k → Fine k (lex m k n b c)
  fine line k n b c h = line_ways (Fine k) k n c (λ _. opens k n) tt
  fine want k n b c h = want_ways (Fine k) k n b c (λ _. opens k n) (λ _. ih (in_number (b ∷ [])) k n h) (λ _. ih (in_word (b ∷ [])) k n h) tt
  fine after k n b c h = behind k n c h
  fine ended k n b c h = ended_ways (Fine k) k n c (λ _. ih line k (n + 1) h) tt
  fine (in_word w) k n b c h = word_ways (Fine k) k n w b c (λ _. grown (ltb (length w) 12) (in_word (w ++ b ∷ [])) k n h) (h, behind k n c h)
  fine (in_number w) k n b c h = number_ways (Fine k) k n w b c (λ _. grown (grows w b) (in_number (w ++ b ∷ [])) k n h) (λ _. (h, behind k n c h)) (λ _. tt)

-- at the text's end
at_last : (m : Mode) (k n : ℕ) → Level m k → Balanced k (last m n)
at_last line k n h = h
at_last _ k n h = tt

balances : (bs : List ℕ) (m : Mode) (k n : ℕ) → Level m k → Balanced k (toks (spot m k n) bs)
balances [] m k n h = at_last m k n h
balances (b ∷ bs) m k n h = fine bs (balances bs) m k n b (class_of b) h

-- from a text's start on no bracket is open
pub balanced : (t : List ℕ) → Balanced 0 (toks (spot line 0 1) t)
balanced t = balances t line 0 1 refl

-- how many tokens there are
abbrev pub total : Toks → ℕ
total end = 0
total (bad n) = 0
total (tok x ts) = total ts + 1

-- a byte gives at most two
abbrev Few : Out → Type 0
Few o = length o.said ≤ 2

open_few : (k n : ℕ) → Few (opening k n)
open_few k n = by_test (λ t. Few (cond t (says left (goes (spot want (k + 1) n))) (goes (halt n)))) (ltb k 12) (λ _. omega arith) (λ _. omega arith)

after_few : (k n : ℕ) (c : Class) → length (at_after k n c).said ≤ 1
after_few k n c = after_ways (λ o. length o.said ≤ 1) k n c (λ _. omega arith) (λ _. omega arith) (omega arith)

few : (m : Mode) (k n b : ℕ) (c : Class) → Few (lex m k n b c)
few line k n b c = line_ways Few k n c (λ _. open_few k n) (omega arith)
few want k n b c = want_ways Few k n b c (λ _. open_few k n) (λ _. omega arith) (λ _. omega arith) (omega arith)
few after k n b c = omega (arith, after_few k n c)
few ended k n b c = ended_ways Few k n c (λ _. omega arith) (omega arith)
few (in_word w) k n b c = word_ways Few k n w b c (λ _. omega arith) (omega (arith, after_few k n c))
few (in_number w) k n b c = number_ways Few k n w b c (λ _. omega arith) (λ _. omega (arith, after_few k n c)) (λ _. omega arith)

total_prefix : (xs : List Tok) (ts : Toks) → total (prefix xs ts) ≡ length xs + total ts
total_prefix [] ts = omega arith
total_prefix (x ∷ xs) ts = omega (arith, total_prefix xs ts)

total_last : (m : Mode) (n : ℕ) → total (last m n) ≡ 0
total_last line n = refl
total_last _ n = refl

-- so a text has at most twice as many as bytes
pub total_few : (s : Spot) (bs : List ℕ) → total (toks s bs) ≤ 2 * length bs
total_few (halt n) bs = omega arith
total_few (spot m k n) [] = omega (arith, total_last m n)
total_few (spot m k n) (b ∷ bs) =
    let o = lex m k n b (class_of b) in
    omega (arith, total_prefix o.said (toks o.next bs), few m k n b (class_of b), total_few o.next bs)
