-- What a byte gives in each mode, by the classes that matter there: a fact P of what is given.
use Rattle.std.proofs.Common.{◌≡◌, ℕ, ◌+◌, Bool, true, false, cond, ◌⊎◌, List, [], ◌∷◌, refl, inl, inr}
use Rattle.text.specs.Tokens.{spot, halt, line, want, in_word, in_number, name, numeral, Toks, prefix, toks, Out, goes, says, opening, at_line, at_want, at_after, at_ended, longer, at_word, digits, counted, at_number}
use Rattle.text.specs.Bytes.{complete}
use Rattle.text.specs.declared.class.Class.{Class}
use Rattle.text.specs.declared.class.Class.TheVariants.{Open, Close, Space, Feed, Minus, Digit, Letter}

-- the tokens that an output leads to
abbrev pub out : Out → List ℕ → Toks
out o bs = prefix o.said (toks o.next bs)

-- a test, by its two answers
pub by_test : (P : Bool → Type 0) (t : Bool) → (t ≡ true → P true) → (t ≡ false → P false) → P t
by_test P true p q = p refl
by_test P false p q = q refl

module _ (P : Out → Type 0) (k n : ℕ) where
  pub line_ways : (c : Class) → (c ≡ Open → P (opening k n)) → P (goes (halt n)) → P (at_line k n c)
  line_ways Open p q = p refl
  line_ways _ p q = q

  pub want_ways : (b : ℕ) (c : Class) → (c ≡ Open → P (opening k n)) → ((c ≡ Minus) ⊎ (c ≡ Digit) → P (goes (spot (in_number (b ∷ [])) k n))) → (c ≡ Letter → P (goes (spot (in_word (b ∷ [])) k n))) → P (goes (halt n)) → P (at_want k n b c)
  want_ways b Open p d l q = p refl
  want_ways b Minus p d l q = d (inl refl)
  want_ways b Digit p d l q = d (inr refl)
  want_ways b Letter p d l q = l refl
  want_ways b _ p d l q = q

  pub after_ways : (c : Class) → (c ≡ Close → P (at_after k n Close)) → (c ≡ Space → P (goes (spot want k n))) → P (goes (halt n)) → P (at_after k n c)
  after_ways Close p s q = p refl
  after_ways Space p s q = s refl
  after_ways _ p s q = q

  pub ended_ways : (c : Class) → (c ≡ Feed → P (goes (spot line k (n + 1)))) → P (goes (halt n)) → P (at_ended k n c)
  ended_ways Feed p q = p refl
  ended_ways _ p q = q

  pub word_ways : (w : List ℕ) (b : ℕ) (c : Class) → ((c ≡ Letter) ⊎ (c ≡ Digit) → P (longer k n w b)) → P (says (name w) (at_after k n c)) → P (at_word k n w b c)
  word_ways w b Digit p q = p (inr refl)
  word_ways w b Letter p q = p (inl refl)
  word_ways w b _ p q = q

  pub number_ways : (w : List ℕ) (b : ℕ) (c : Class) → (c ≡ Digit → P (digits k n w b)) → (complete w ≡ true → P (says (numeral w) (at_after k n c))) → (complete w ≡ false → P (goes (halt n))) → P (at_number k n w b c)
  number_ways w b c p q r = by c p (by_test (λ t. P (cond t (says (numeral w) (at_after k n c)) (goes (halt n)))) (complete w) q r)
    where
      by : (x : Class) → (x ≡ Digit → P (digits k n w b)) → P (counted k n w x) → P (at_number k n w b x)
      by Digit p q = p refl
      by _ p q = q
