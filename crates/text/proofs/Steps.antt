-- One move of the reader, and the tokens from there on.
use Rattle.std.proofs.Common.{◌≡◌, ℕ, ◌+◌, ◌<◌, ◌≤◌, true, false, ◌⊎◌, cond, ltb, List, [], ◌∷◌, ◌++◌, length, drop, Some, None, Option, Ok, Err, Result, sym, refl, ap, ◌∙◌, inl, inr, ⊎_elim, arith}
use Rattle.std.proofs.lemmas.List.{drop_more, drop_all}
use Rattle.text.specs.Bytes.{class_of, complete}
use Rattle.text.specs.Tokens.{after, spot, halt, name, numeral, Tok, Toks, tok, end, bad, last, toks, Out, goes, lex, at_after, at_word}
use Rattle.text.specs.Machine.{spot_of, mode_by, part_of, byte, ahead, out_of, told, Moved, item_grows, item_ends}
use Rattle.text.specs.declared.reader.Reader.{Reader}
use Rattle.text.specs.declared.reader.Item.{Item}
use Rattle.text.specs.declared.reader.NoForm.{NoForm}
use Rattle.text.specs.declared.reader.Gap.{Gap}
use Rattle.text.specs.declared.reader.Gap.TheVariants.{Line, Want, After, Ended}
use Rattle.text.specs.declared.reader.State.{State}
use Rattle.text.specs.declared.reader.State.TheVariants.{Between, Word, Number}
use Rattle.text.specs.declared.class.Class.{Class}
use Rattle.text.specs.declared.class.Class.TheVariants.{Digit, Letter}
use Rattle.text.proofs.Ways.{out, word_ways, number_ways}

-- the tokens of what a move says
told_by : (r : Result (Option Item) NoForm) (t : Reader) (bs : List ℕ) → out (out_of r t) bs ≡ told r (toks (spot_of t) bs)
told_by (Ok None) t bs = refl
told_by (Ok (Some i)) t bs = refl
told_by (Err e) t bs = refl

-- a move that takes k bytes: the tokens of what it says, from there on
moves : (s t : Reader) (r : Result (Option Item) NoForm) (o : Reader → Out) (k : ℕ) → Moved s t r o k → out (o s) (drop (s.at + k) s.text.now) ≡ told r (ahead t)
moves s t r o k m =
    ap (λ x. out x (drop (s.at + k) s.text.now)) (sym m.says)
    ∙ told_by r t (drop (s.at + k) s.text.now)
    ∙ ap (λ x. told r (toks (spot_of t) x)) (λ i. drop (sym m.on i) (sym m.text i).now)

-- the end of an item takes none
stays : (s t : Reader) (r : Result (Option Item) NoForm) (k : Tok) → Moved s t r (item_ends k) 0 → tok k (toks (spot after s.depth s.line) (drop s.at s.text.now)) ≡ told r (ahead t)
stays s t r k m = let e : s.at ≡ s.at + 0 = omega arith in ap (λ j. out (item_ends k s) (drop j s.text.now)) e ∙ moves s t r (item_ends k) 0 m

module _ (s : Reader) (x : State) (c : Class) (h : s.at < length s.text.now) (is : s.state ≡ x) (class : c ≡ class_of (byte s)) where
  -- what is left behind the next byte
  abbrev left_over : List ℕ
  left_over = drop (s.at + 1) s.text.now

  -- the tokens ahead, by the next byte
  byte_gives : ahead s ≡ out (lex (mode_by x s.gap (part_of s)) s.depth s.line (byte s) c) left_over
  byte_gives =
      ap (toks (spot_of s)) (drop_more s.text.now s.at 0 h)
      ∙ (λ i. out (lex (mode_by (is i) s.gap (part_of s)) s.depth s.line (byte s) (sym class i)) left_over)

  -- what it gives behind an item
  behind : out (at_after s.depth s.line c) left_over ≡ toks (spot after s.depth s.line) (drop s.at s.text.now)
  behind =
      ap (λ y. out (at_after s.depth s.line y) left_over) class
      ∙ ap (toks (spot after s.depth s.line)) (sym (drop_more s.text.now s.at 0 h))

  -- the byte is taken
  pub taken : (t : Reader) (r : Result (Option Item) NoForm) (k : Class) → c ≡ k → Moved s t r (λ u. lex (mode_by x u.gap (part_of u)) u.depth u.line (byte u) k) 1 → ahead s ≡ told r (ahead t)
  taken t r k e m =
      byte_gives
      ∙ ap (λ y. out (lex (mode_by x s.gap (part_of s)) s.depth s.line (byte s) y) left_over) e
      ∙ moves s t r (λ u. lex (mode_by x u.gap (part_of u)) u.depth u.line (byte u) k) 1 m

-- a word grows by a letter or a digit
pub word_grown : (s : Reader) (c : Class) → s.at < length s.text.now → s.state ≡ Word → c ≡ class_of (byte s) → (c ≡ Letter) ⊎ (c ≡ Digit)
    → (t : Reader) (r : Result (Option Item) NoForm) → Moved s t r (item_grows (ltb (length (part_of s)) 12)) 1 → ahead s ≡ told r (ahead t)
word_grown s c h is class k t r m =
    byte_gives s Word c h is class
    ∙ ⊎_elim (λ e. ap gives e) (λ e. ap gives e) k
    ∙ (λ i. out (goes (cond (ltb (length (part_of s)) 12) (spot (mode_by (sym is i) s.gap (part_of s ++ byte s ∷ [])) s.depth s.line) (halt s.line))) (drop (s.at + 1) s.text.now))
    ∙ moves s t r (item_grows (ltb (length (part_of s)) 12)) 1 m
  where
    gives : Class → Toks
    gives y = out (at_word s.depth s.line (part_of s) (byte s) y) (drop (s.at + 1) s.text.now)

-- a word ends before a byte of another class
pub word_held : (s : Reader) (c : Class) → s.at < length s.text.now → s.state ≡ Word → c ≡ class_of (byte s) → (t : Reader) (r : Result (Option Item) NoForm) → Moved s t r (item_ends (name (part_of s))) 0
    → ((c ≡ Letter) ⊎ (c ≡ Digit)) ⊎ (ahead s ≡ told r (ahead t))
word_held s c h is class t r m =
    ⊎_elim inl (λ e. inr (byte_gives s Word c h is class ∙ e ∙ ap (tok (name (part_of s))) (behind s Word c h is class) ∙ stays s t r (name (part_of s)) m))
    (word_ways (λ o. ((c ≡ Letter) ⊎ (c ≡ Digit)) ⊎ (out o rest ≡ tok (name (part_of s)) (out (at_after s.depth s.line c) rest))) s.depth s.line (part_of s) (byte s) c inl (inr refl))
  where
    rest : List ℕ
    rest = drop (s.at + 1) s.text.now

-- a number ends before a byte that is no digit, where it is complete
pub number_held : (s : Reader) (c : Class) → s.at < length s.text.now → s.state ≡ Number → c ≡ class_of (byte s) → complete (part_of s) ≡ true → (t : Reader) (r : Result (Option Item) NoForm) → Moved s t r (item_ends (numeral (part_of s))) 0
    → (c ≡ Digit) ⊎ (ahead s ≡ told r (ahead t))
number_held s c h is class whole t r m =
    ⊎_elim inl (λ e. inr (byte_gives s Number c h is class ∙ e ∙ ap (tok (numeral (part_of s))) (behind s Number c h is class) ∙ stays s t r (numeral (part_of s)) m))
    (number_ways (λ o. (c ≡ Digit) ⊎ (out o rest ≡ tok (numeral (part_of s)) (out (at_after s.depth s.line c) rest))) s.depth s.line (part_of s) (byte s) c inl (λ _. inr refl) (λ p. absurd (no_true p)))
  where
    rest : List ℕ
    rest = drop (s.at + 1) s.text.now

    no_true : complete (part_of s) ≡ false → ⊥
    no_true p = cc

-- a number that is not complete is none before a byte that is no digit
pub number_none : (s : Reader) (c : Class) → s.at < length s.text.now → s.state ≡ Number → c ≡ class_of (byte s) → complete (part_of s) ≡ false → (c ≡ Digit) ⊎ (ahead s ≡ bad s.line)
number_none s c h is class part =
    ⊎_elim inl (λ e. inr (byte_gives s Number c h is class ∙ e))
    (number_ways (λ o. (c ≡ Digit) ⊎ (out o rest ≡ bad s.line)) s.depth s.line (part_of s) (byte s) c inl (λ p. absurd (no_false p)) (λ _. inr refl))
  where
    rest : List ℕ
    rest = drop (s.at + 1) s.text.now

    no_false : complete (part_of s) ≡ true → ⊥
    no_false p = cc

-- at the text's end
pub at_end : (s : Reader) → length s.text.now ≤ s.at → ((s.state ≡ Between) × (s.gap ≡ Line) × (ahead s ≡ end)) ⊎ ((s.state ≡ Between → s.gap ≡ Line → ⊥) × (ahead s ≡ bad s.line))
at_end s h = by s.state s.gap refl refl
  where
    at : {x : State} {g : Gap} → s.state ≡ x → s.gap ≡ g → ahead s ≡ last (mode_by x g (part_of s)) s.line
    at e f = ap (toks (spot_of s)) (drop_all s.at s.text.now h) ∙ (λ i. last (mode_by (e i) (f i) (part_of s)) s.line)

    by : (x : State) (g : Gap) → s.state ≡ x → s.gap ≡ g → ((s.state ≡ Between) × (s.gap ≡ Line) × (ahead s ≡ end)) ⊎ ((s.state ≡ Between → s.gap ≡ Line → ⊥) × (ahead s ≡ bad s.line))
    by Between Line e f = inl (e, f, at e f)
    by Between Want e f = inr (λ p q. let z : ◌≡◌ {A = ℕ} 0 1 = cc in omega arith, at e f)
    by Between After e f = inr (λ p q. let z : ◌≡◌ {A = ℕ} 0 1 = cc in omega arith, at e f)
    by Between Ended e f = inr (λ p q. let z : ◌≡◌ {A = ℕ} 0 1 = cc in omega arith, at e f)
    by Word g e f = inr (λ p q. let z : ◌≡◌ {A = ℕ} 0 1 = cc in omega arith, at e f)
    by Number g e f = inr (λ p q. let z : ◌≡◌ {A = ℕ} 0 1 = cc in omega arith, at e f)
