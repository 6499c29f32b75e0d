-- What is read is valid, and its print is the text; or the lines before the one that is told are so.
use Rattle.std.proofs.Common.{◌≡◌, ℕ, ◌+◌, ◌-◌, ◌<◌, ◌≤◌, Bool, true, false, cond, ltb, ◌≢◌, ◌⊎◌, List, [], ◌∷◌, ◌++◌, length, sym, refl, ap, ◌∙◌, subst, inl, inr, ⊎_elim, append_assoc, arith}
use Rattle.std.proofs.lemmas.Bool.Decides.{nat_tests}
use Rattle.std.proofs.lemmas.List.{length_push}
use Rattle.std.proofs.lemmas.Bool.{lt-ltb, ltb-true}
use Rattle.text.specs.Form.{Form, word, number, form, pack}
use Rattle.text.specs.Bytes.{class_of, grows, complete}
use Rattle.text.specs.Tokens.{Mode, line, want, after, ended, in_word, in_number, spot, halt, left, Out, goes, says, lex, last, toks, opening, at_after}
use Rattle.text.specs.Reading.{Read, forms, wrong, parse, added, read_text}
use Rattle.text.specs.Print.{show, shows, rests, lines}
use Rattle.text.specs.Valid.{Inside, IsWord, Digits, IsNumber, Filled, Valid, Valids, AllValid}
use Rattle.text.specs.declared.class.Class.TheVariants.{Open, Close, Space, Feed, Minus, Digit, Letter}
use Rattle.text.proofs.Ways.{out, by_test, line_ways, want_ways, after_ways, ended_ways, word_ways, number_ways}

-- the bytes that are classes of their own
is_open : (b : ℕ) → class_of b ≡ Open → b ≡ 40
is_open b e = grind (arith, nat_tests)

is_close : (b : ℕ) → class_of b ≡ Close → b ≡ 41
is_close b e = grind (arith, nat_tests)

is_space : (b : ℕ) → class_of b ≡ Space → b ≡ 32
is_space b e = grind (arith, nat_tests)

is_feed : (b : ℕ) → class_of b ≡ Feed → b ≡ 10
is_feed b e = grind (arith, nat_tests)

pub is_minus : (b : ℕ) → class_of b ≡ Minus → b ≡ 45
is_minus b e = grind (arith, nat_tests)

-- a space behind items
abbrev gap : List Form → List ℕ → List ℕ
gap [] x = x
gap (f ∷ fs) x = 32 ∷ x

-- one more item, and one more line, in print
rests_push : (fs : List Form) (f : Form) (x : List ℕ) → rests (pack (fs ++ f ∷ [])) x ≡ rests (pack fs) (32 ∷ show f x)
rests_push [] f x = refl
rests_push (g ∷ fs) f x = ap (λ y. 32 ∷ show g y) (rests_push fs f x)

shows_push : (fs : List Form) (f : Form) (x : List ℕ) → shows (pack (fs ++ f ∷ [])) x ≡ shows (pack fs) (gap fs (show f x))
shows_push [] f x = refl
shows_push (g ∷ fs) f x = ap (show g) (rests_push fs f x)

pub lines_push : (fs : List Form) (f : Form) (x : List ℕ) → lines (fs ++ f ∷ []) x ≡ lines fs (show f (10 ∷ x))
lines_push [] f x = refl
lines_push (g ∷ fs) f x = ap (λ y. show g (10 ∷ y)) (lines_push fs f x)

-- the print of the open forms, where an item is due, and behind an item
abbrev due : List (List Form) → List ℕ → List ℕ
due [] x = x
due (fs ∷ o) x = due o (40 ∷ shows (pack fs) (gap fs x))

abbrev past : List (List Form) → List ℕ → List ℕ
past [] x = x
past (fs ∷ o) x = due o (40 ∷ shows (pack fs) x)

-- one more valid item, and one more valid line
pub all_push : (d : List Form) (f : Form) → AllValid d → Valid f 0 → AllValid (d ++ f ∷ [])
all_push [] f a v = (v, tt)
all_push (g ∷ d) f a v = (a.0, all_push d f a.1 v)

abbrev Each : List Form → ℕ → Type 0
Each [] k = Unit {0}
Each (f ∷ fs) k = Valid f k × Each fs k

each_push : (fs : List Form) (f : Form) (k : ℕ) → Each fs k → Valid f k → Each (fs ++ f ∷ []) k
each_push [] f k a v = (v, tt)
each_push (g ∷ fs) f k a v = (a.0, each_push fs f k a.1 v)

valids : (fs : List Form) (k : ℕ) → Each fs k → Valids (pack fs) k
valids [] k a = tt
valids (f ∷ fs) k a = (a.0, valids fs k a.1)

filled : (fs : List Form) → 0 < length fs → Filled (pack fs)
filled [] h = absurd (omega arith)
filled (f ∷ fs) h = tt

-- the open forms have valid items so far, and are not too many
abbrev Sane : List (List Form) → Type 0
Sane [] = Unit {0}
Sane (x ∷ o) = Each x (length o + 1) × (length o < 12) × Sane o

closed_valid : (x : List Form) (o : List (List Form)) → Sane (x ∷ o) → 0 < length x → Valid (form (pack x)) (length o)
closed_valid x o s h = (s.1, filled x h, valids x (length o + 1) s.0)

-- one byte more in a word
inside_push : (w : List ℕ) (b : ℕ) → Inside w → (class_of b ≡ Letter) ⊎ (class_of b ≡ Digit) → Inside (w ++ b ∷ [])
inside_push [] b i e = (e, tt)
inside_push (c ∷ w) b i e = (i.0, inside_push w b i.1 e)

word_push : (w : List ℕ) (b : ℕ) → IsWord w → (class_of b ≡ Letter) ⊎ (class_of b ≡ Digit) → length w < 12 → IsWord (w ++ b ∷ [])
word_push [] b h e l = absurd h
word_push (c ∷ w) b h e l = (h.0, inside_push w b h.1 e, omega (arith, length_push w b))

-- one digit more in a number; what it has so far is a minus sign, or a number
digits_push : (w : List ℕ) (b : ℕ) → Digits w → class_of b ≡ Digit → Digits (w ++ b ∷ [])
digits_push [] b d e = (e, tt)
digits_push (c ∷ w) b d e = (d.0, digits_push w b d.1 e)

abbrev Started : List ℕ → Type 0
Started [] = ⊥
Started (b ∷ []) = (class_of b ≡ Minus) ⊎ (class_of b ≡ Digit)
Started (b ∷ c ∷ w) = IsNumber (b ∷ c ∷ w)

grow : (w : List ℕ) (b : ℕ) → Started w → class_of b ≡ Digit → grows w b ≡ true → Started (w ++ b ∷ [])
grow [] b s e g = absurd s
grow (m ∷ []) b s e g =
    ⊎_elim
    (λ i. let p = is_minus m i in let q : b ≢ 48 = grind (arith, nat_tests) in inr (i, e, λ z. q (let r : b ≡ 48 = cc in r)))
    (λ i. let q : m ≢ 48 = grind (arith, nat_tests) in inl (i, q, (e, tt))) s
grow (m ∷ c ∷ []) b s e g =
    ⊎_elim (λ u. inl (u.0, u.1, digits_push (c ∷ []) b u.2 e))
    (λ u. inr (u.0, (u.1, (λ z. u.2 (ap (λ y. y ∷ []) z)), (e, tt)), λ z. let r : ◌≡◌ {A = ℕ} 0 1 = cc in omega arith)) s
grow (m ∷ c ∷ d ∷ w) b s e g =
    ⊎_elim (λ u. inl (u.0, u.1, digits_push (c ∷ d ∷ w) b u.2 e))
    (λ u. inr (u.0, (u.1.0, u.1.1, digits_push (d ∷ w) b u.1.2 e), λ z. let r : ◌≡◌ {A = ℕ} 0 1 = cc in omega arith)) s

finished : (w : List ℕ) → Started w → complete w ≡ true → IsNumber w
finished [] s e = absurd s
finished (m ∷ []) s e = ⊎_elim (λ i. let p = is_minus m i in absurd (grind (arith, nat_tests))) (λ i. inl i) s
finished (m ∷ c ∷ w) s e = s

-- line j of a text, not before line n, was told
pub record Stuck (t : List ℕ) (n j : ℕ) : Type 0 where
  pub before : List Form
  pub rest : List ℕ
  pub valid : AllValid before
  pub text : t ≡ lines before rest
  pub line : j ≡ length before + 1
  pub later : n ≤ j

-- what a text comes to, from line n on
abbrev pub Came : List ℕ → ℕ → Read → Type 0
Came t n (forms fs) = AllValid fs × (t ≡ lines fs [])
Came t n (wrong j) = Stuck t n j

-- what holds from a later line on holds from an earlier one
sooner : (t : List ℕ) (n : ℕ) (x : Read) → Came t (n + 1) x → Came t n x
sooner t n (forms fs) c = c
sooner t n (wrong j) c = record { before = c.before; rest = c.rest; valid = c.valid; text = c.text; line = c.line; later = omega (arith, c.later) }

-- the innermost open form has an item
abbrev Some : List (List Form) → Type 0
Some [] = ⊥
Some (x ∷ o) = 0 < length x

-- the lines d before line n are valid, and the text is their print and x
pub record Line (t : List ℕ) (d : List Form) (n : ℕ) (x : List ℕ) : Type 0 where
  pub valid : AllValid d
  pub line : n ≡ length d + 1
  pub text : t ≡ lines d x

-- the same where the last of the lines has no line feed yet
record Fed (t : List ℕ) (d : List Form) (n : ℕ) (x : List ℕ) : Type 0 where
  front : List Form
  last : Form
  split : d ≡ front ++ last ∷ []
  here : Valid last 0
  so_far : Line t front n (show last x)

-- where reading is: bs is left of the text
abbrev Reached : List ℕ → List (List Form) → List Form → Mode → ℕ → List ℕ → Type 0
Reached t o d line n bs = (length o ≡ 0) × Line t d n bs
Reached t o d want n bs = (0 < length o) × Line t d n (due o bs)
Reached t o d after n bs = Some o × Line t d n (past o bs)
Reached t o d ended n bs = (length o ≡ 0) × Fed t d n bs
Reached t o d (in_word w) n bs = (0 < length o) × Line t d n (due o (w ++ bs)) × IsWord w
Reached t o d (in_number w) n bs = (0 < length o) × Line t d n (due o (w ++ bs)) × Started w

long : (o : List (List Form)) → Some o → 0 < length o
long [] h = absurd h
long (x ∷ o) h = omega arith

gap_some : (x : List Form) (bs : List ℕ) → 0 < length x → gap x bs ≡ 32 ∷ bs
gap_some [] bs h = absurd (omega arith)
gap_some (f ∷ x) bs h = refl

module _ (t : List ℕ) where
  -- the same line, read to another point
  reread : {d : List Form} {n : ℕ} {x y : List ℕ} → x ≡ y → Line t d n x → Line t d n y
  reread {d = d} e l = record { valid = l.valid; line = l.line; text = l.text ∙ ap (lines d) e }

  -- the line is told
  stuck : {d : List Form} {n : ℕ} {x : List ℕ} → Line t d n x → Stuck t n n
  stuck {d = d} {x = x} l = record { before = d; rest = x; valid = l.valid; text = l.text; line = l.line; later = omega arith }

  module _ (bs : List ℕ) (ih : (o : List (List Form)) (d : List Form) (m : Mode) (n : ℕ) → Reached t o d m n bs → Sane o → Came t n (parse o d (toks (spot m (length o) n) bs))) where
    -- what an output comes to
    abbrev Gives : List (List Form) → List Form → ℕ → Out → Type 0
    Gives o d n x = Came t n (parse o d (out x bs))

    -- a bracket opens
    opens : (o : List (List Form)) (d : List Form) (n b : ℕ) → Line t d n (due o (b ∷ bs)) → Sane o → class_of b ≡ Open → Gives o d n (opening (length o) n)
    opens o d n b l s c =
        by_test (λ y. Gives o d n (cond y (says left (goes (spot want (length o + 1) n))) (goes (halt n)))) (ltb (length o) 12)
        (λ e.
        let k : length ([] ∷ o) ≡ length o + 1 = omega arith in
        subst (λ j. Came t n (parse ([] ∷ o) d (toks (spot want j n) bs))) k
        (ih ([] ∷ o) d want n (omega arith, reread (ap (λ y. due o (y ∷ bs)) (is_open b c)) l) (tt, ltb-true (length o) 12 e, s)))
        (λ _. stuck l)

    -- a bracket closes
    closes : (o : List (List Form)) (d : List Form) (n b : ℕ) → Some o → Line t d n (past o (b ∷ bs)) → Sane o → class_of b ≡ Close → Gives o d n (at_after (length o) n Close)
    closes [] d n b h l s c = absurd h
    closes (x ∷ []) d n b h l s c =
        let f = form (pack x) in
        ih [] (d ++ f ∷ []) ended n
        (refl, record { front = d; last = f; split = refl; here = closed_valid x [] s h; so_far = reread (ap (λ y. 40 ∷ shows (pack x) (y ∷ bs)) (is_close b c)) l }) tt
    closes (x ∷ y ∷ o) d n b h l s c =
        let f = form (pack x) in
        let p = (y ++ f ∷ []) ∷ o in
        let k : length p ≡ length (x ∷ y ∷ o) - 1 = omega arith in
        let big : ltb 1 (length (x ∷ y ∷ o)) ≡ true = lt-ltb 1 (length (x ∷ y ∷ o)) (omega arith) in
        let v : Valid f (length o + 1) = let j : length (y ∷ o) ≡ length o + 1 = omega arith in subst (Valid f) j (closed_valid x (y ∷ o) s h) in
        let e : past (x ∷ y ∷ o) (b ∷ bs) ≡ past p bs = ap (λ z. due o (40 ∷ shows (pack y) (gap y (40 ∷ shows (pack x) (z ∷ bs))))) (is_close b c) ∙ ap (λ z. due o (40 ∷ z)) (sym (shows_push y f bs)) in
        let r = ih p d after n (omega (arith, length_push y f), reread e l) (each_push y f (length o + 1) s.2.0 v, s.2.1, s.2.2) in
        subst (λ z. Came t n (parse p d (toks (cond z (spot after (length (x ∷ y ∷ o) - 1) n) (spot ended 0 n)) bs))) (sym big)
        (subst (λ j. Came t n (parse p d (toks (spot after j n) bs))) k r)

    -- a space behind an item
    spaced : (o : List (List Form)) (d : List Form) (n b : ℕ) → Some o → Line t d n (past o (b ∷ bs)) → class_of b ≡ Space → Line t d n (due o bs)
    spaced [] d n b h l c = absurd h
    spaced (x ∷ o) d n b h l c = reread (ap (λ y. due o (40 ∷ shows (pack x) y)) (ap (λ z. z ∷ bs) (is_space b c) ∙ sym (gap_some x bs h))) l

    -- any byte behind an item
    behind : (o : List (List Form)) (d : List Form) (n b : ℕ) → Some o → Line t d n (past o (b ∷ bs)) → Sane o → Gives o d n (at_after (length o) n (class_of b))
    behind o d n b h l s =
        after_ways (Gives o d n) (length o) n (class_of b) (closes o d n b h l s) (λ c. ih o d want n (long o h, spaced o d n b h l c) s) (stuck l)

    -- a word or a number that ends before b
    item : (o : List (List Form)) (d : List Form) (n b : ℕ) (f : Form) → 0 < length o → Line t d n (due o (show f (b ∷ bs))) → ((k : ℕ) → 0 < k → Valid f k) → Sane o → Gives (added f o) d n (at_after (length o) n (class_of b))
    item [] d n b f h l v s = absurd (omega arith)
    item (x ∷ o) d n b f h l v s =
        behind ((x ++ f ∷ []) ∷ o) d n b (omega (arith, length_push x f)) (reread (ap (λ y. due o (40 ∷ y)) (sym (shows_push x f (b ∷ bs)))) l)
        (each_push x f (length o + 1) s.0 (v (length o + 1) (omega arith)), s.1, s.2)

    -- a line feed behind a line's form
    fed : (o : List (List Form)) (d : List Form) (n b : ℕ) → length o ≡ 0 → Fed t d n (b ∷ bs) → Sane o → class_of b ≡ Feed → Gives o d n (goes (spot line (length o) (n + 1)))
    fed o d n b h f s c =
        let l = f.so_far in
        sooner t n _
        (ih o d line (n + 1) (
          h,
          record {
            valid = subst AllValid (sym f.split) (all_push f.front f.last l.valid f.here);
            line = omega (arith, l.line, ap length f.split, length_push f.front f.last);
            text = l.text ∙ ap (λ y. lines f.front (show f.last (y ∷ bs))) (is_feed b c) ∙ sym (lines_push f.front f.last bs) ∙ ap (λ y. lines y bs) (sym f.split);
          },
        ) s)

    -- a byte more in a word or a number
    joined : (o : List (List Form)) (d : List Form) (n b : ℕ) (w : List ℕ) → Line t d n (due o (w ++ b ∷ bs)) → Line t d n (due o ((w ++ b ∷ []) ++ bs))
    joined o d n b w l = reread (ap (due o) (sym (append_assoc w (b ∷ []) bs))) l

    grown : (o : List (List Form)) (d : List Form) (n : ℕ) (m : Mode) (y : Bool) {x : List ℕ} → Line t d n x → (y ≡ true → Reached t o d m n bs) → Sane o → Gives o d n (goes (cond y (spot m (length o) n) (halt n)))
    grown o d n m true l r s = ih o d m n (r refl) s
    grown o d n m false l r s = stuck l

    -- any byte in any mode
    comes : (o : List (List Form)) (d : List Form) (m : Mode) (n b : ℕ) → Reached t o d m n (b ∷ bs) → Sane o → Gives o d n (lex m (length o) n b (class_of b))
    comes [] d line n b r s = line_ways (Gives [] d n) 0 n (class_of b) (opens [] d n b r.1 s) (stuck r.1)
    comes (x ∷ o) d line n b r s = absurd (omega (arith, r.0))
    comes o d want n b r s =
        want_ways (Gives o d n) (length o) n b (class_of b) (opens o d n b r.1 s) (λ c. ih o d (in_number (b ∷ [])) n (r.0, r.1, c) s)
        (λ c. ih o d (in_word (b ∷ [])) n (r.0, r.1, (c, tt, omega arith)) s) (stuck r.1)
    comes o d after n b r s = behind o d n b r.0 r.1 s
    comes o d ended n b r s = ended_ways (Gives o d n) (length o) n (class_of b) (fed o d n b r.0 r.1 s) (stuck r.1.so_far)
    comes o d (in_word w) n b r s =
        word_ways (Gives o d n) (length o) n w b (class_of b)
        (λ c. grown o d n (in_word (w ++ b ∷ [])) (ltb (length w) 12) r.1 (λ e. (r.0, joined o d n b w r.1, word_push w b r.2 c (ltb-true (length w) 12 e))) s)
        (item o d n b (word w) r.0 r.1 (λ k p. (p, r.2)) s)
    comes o d (in_number w) n b r s =
        number_ways (Gives o d n) (length o) n w b (class_of b)
        (λ c. grown o d n (in_number (w ++ b ∷ [])) (grows w b) r.1 (λ e. (r.0, joined o d n b w r.1, grow w b r.2 c e)) s)
        (λ e. item o d n b (number w) r.0 r.1 (λ k p. (p, finished w r.2 e)) s) (λ _. stuck r.1)

  -- the text's end
  stops : (o : List (List Form)) (d : List Form) (m : Mode) (n : ℕ) → Reached t o d m n [] → Came t n (parse o d (last m n))
  stops o d line n r = (r.1.valid, r.1.text)
  stops o d ended n r = stuck r.1.so_far
  stops o d _ n r = stuck r.1

  -- the whole rest of the text
  came : (bs : List ℕ) (o : List (List Form)) (d : List Form) (m : Mode) (n : ℕ) → Reached t o d m n bs → Sane o → Came t n (parse o d (toks (spot m (length o) n) bs))
  came [] o d m n r s = stops o d m n r
  came (b ∷ bs) o d m n r s = comes bs (came bs) o d m n b r s

  -- from a line's start on
  pub line_came : (d : List Form) (n : ℕ) (x : List ℕ) → Line t d n x → Came t n (parse [] d (toks (spot line 0 n) x))
  line_came d n x l = came x [] d line n (refl, l) tt

-- and from its first line on
pub text_came : (t : List ℕ) → Came t 1 (read_text t)
text_came t = line_came t [] 1 t (record { valid = tt; line = refl; text = refl })
