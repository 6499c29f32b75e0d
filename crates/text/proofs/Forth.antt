-- Valid forms, printed, are read again.
use Rattle.std.proofs.Common.{◌≡◌, ℕ, ◌+◌, ◌-◌, ◌<◌, ◌≤◌, true, cond, ◌≢◌, ◌⊎◌, List, [], ◌∷◌, ◌++◌, length, sym, refl, ap, ◌∙◌, inl, inr, ⊎_elim, append_assoc, append-nil, arith}
use Rattle.std.proofs.lemmas.Bool.Decides.{nat_tests}
use Rattle.std.proofs.lemmas.List.{length_push}
use Rattle.std.proofs.lemmas.Bool.{lt-ltb}
use Rattle.text.specs.Form.{Form, Forms, word, number, form, none, more, pack}
use Rattle.text.specs.Bytes.{class_of, complete, grows}
use Rattle.text.specs.Tokens.{Mode, line, want, after, ended, in_word, in_number, spot, halt, left, name, numeral, tok, toks, goes, says, lex, opening, longer, at_after}
use Rattle.text.specs.Reading.{parse, added}
use Rattle.text.specs.Print.{show, shows, rests, lines}
use Rattle.text.specs.Valid.{Inside, IsWord, Digits, Unsigned, IsNumber, Filled, Valid, Valids, AllValid}
use Rattle.text.specs.declared.class.Class.{Class}
use Rattle.text.specs.declared.class.Class.TheVariants.{Open, Close, Space, Minus, Digit}
use Rattle.text.proofs.Ways.{out}
use Rattle.text.proofs.Back.{is_minus}

-- a space or a closing bracket comes next
abbrev Break : List ℕ → Type 0
Break [] = ⊥
Break (c ∷ x) = (class_of c ≡ Space) ⊎ (class_of c ≡ Close)

-- one byte of a known class
at : (m : Mode) (k n b : ℕ) (x : List ℕ) {c : Class} → class_of b ≡ c → toks (spot m k n) (b ∷ x) ≡ out (lex m k n b c) x
at m k n b x e = ap (λ c. out (lex m k n b c) x) e

-- a word, byte by byte, and its end
grown : (v : List ℕ) (k n b : ℕ) (x : List ℕ) → length v < 12 → out (longer k n v b) x ≡ toks (spot (in_word (v ++ b ∷ [])) k n) x
grown v k n b x h = ap (λ t. toks (cond t (spot (in_word (v ++ b ∷ [])) k n) (halt n)) x) (lt-ltb (length v) 12 h)

word_run : (w v : List ℕ) (k n : ℕ) (x : List ℕ) → Inside w → length v + length w ≤ 12 → toks (spot (in_word v) k n) (w ++ x) ≡ toks (spot (in_word (v ++ w)) k n) x
word_run [] v k n x i h = ap (λ u. toks (spot (in_word u) k n) x) (sym (append-nil v))
word_run (b ∷ w) v k n x i h =
    ⊎_elim (λ e. at (in_word v) k n b (w ++ x) e) (λ e. at (in_word v) k n b (w ++ x) e) i.0
    ∙ grown v k n b (w ++ x) (omega arith)
    ∙ word_run w (v ++ b ∷ []) k n x i.1 (omega (arith, length_push v b))
    ∙ ap (λ u. toks (spot (in_word u) k n) x) (append_assoc v (b ∷ []) w)

word_end : (w : List ℕ) (k n : ℕ) (x : List ℕ) → Break x → toks (spot (in_word w) k n) x ≡ tok (name w) (toks (spot after k n) x)
word_end w k n [] h = absurd h
word_end w k n (c ∷ x) h =
    ⊎_elim (λ e. at (in_word w) k n c x e ∙ sym (ap (tok (name w)) (at after k n c x e))) (λ e. at (in_word w) k n c x e ∙ sym (ap (tok (name w)) (at after k n c x e))) h

word_read : (w : List ℕ) (k n : ℕ) (x : List ℕ) → IsWord w → Break x → toks (spot want k n) (w ++ x) ≡ tok (name w) (toks (spot after k n) x)
word_read [] k n x h g = absurd h
word_read (b ∷ w) k n x h g = at want k n b (w ++ x) h.0 ∙ word_run w (b ∷ []) k n x h.1 (omega (arith, h.2)) ∙ word_end (b ∷ w) k n x g

-- a number, byte by byte, and its end
digit_run : (w v : List ℕ) (y z k n : ℕ) (x : List ℕ) → Digits w → toks (spot (in_number (y ∷ z ∷ v)) k n) (w ++ x) ≡ toks (spot (in_number (y ∷ z ∷ v ++ w)) k n) x
digit_run [] v y z k n x d = ap (λ u. toks (spot (in_number (y ∷ z ∷ u)) k n) x) (sym (append-nil v))
digit_run (b ∷ w) v y z k n x d =
    at (in_number (y ∷ z ∷ v)) k n b (w ++ x) d.0 ∙ digit_run w (v ++ b ∷ []) y z k n x d.1 ∙ ap (λ u. toks (spot (in_number (y ∷ z ∷ u)) k n) x) (append_assoc v (b ∷ []) w)

number_end : (w : List ℕ) (k n : ℕ) (x : List ℕ) → complete w ≡ true → Break x → toks (spot (in_number w) k n) x ≡ tok (numeral w) (toks (spot after k n) x)
number_end w k n [] t h = absurd h
number_end w k n (c ∷ x) t h =
    ⊎_elim (λ e. at (in_number w) k n c x e ∙ ap (λ y. out (cond y (says (numeral w) (at_after k n Space)) (goes (halt n))) x) t ∙ sym (ap (tok (numeral w)) (at after k n c x e)))
    (λ e. at (in_number w) k n c x e ∙ ap (λ y. out (cond y (says (numeral w) (at_after k n Close)) (goes (halt n))) x) t ∙ sym (ap (tok (numeral w)) (at after k n c x e))) h

-- one byte more behind the first
second : (y b k n : ℕ) (x : List ℕ) → class_of b ≡ Digit → grows (y ∷ []) b ≡ true → toks (spot (in_number (y ∷ [])) k n) (b ∷ x) ≡ toks (spot (in_number (y ∷ b ∷ [])) k n) x
second y b k n x e g = at (in_number (y ∷ [])) k n b x e ∙ ap (λ t. toks (cond t (spot (in_number (y ∷ b ∷ [])) k n) (halt n)) x) g

digit_plain : (b : ℕ) → class_of b ≡ Digit → b ≢ 45
digit_plain b e = grind (arith, nat_tests)

unsigned_read : (w : List ℕ) (k n : ℕ) (x : List ℕ) → Unsigned w → Break x → toks (spot want k n) (w ++ x) ≡ tok (numeral w) (toks (spot after k n) x)
unsigned_read [] k n x h g = absurd h
unsigned_read (b ∷ []) k n x h g =
    let p = digit_plain b h in
    at want k n b x h ∙ number_end (b ∷ []) k n x (grind (arith, nat_tests)) g
unsigned_read (b ∷ c ∷ w) k n x h g =
    let p = digit_plain b h.0 in
    let q = h.1 in
    at want k n b (c ∷ w ++ x) h.0 ∙ second b c k n (w ++ x) h.2.0 (grind (arith, nat_tests)) ∙ digit_run w [] b c k n x h.2.1 ∙ number_end (b ∷ c ∷ w) k n x refl g

signed_read : (b : ℕ) (w : List ℕ) (k n : ℕ) (x : List ℕ) → class_of b ≡ Minus → Unsigned w → w ≢ 48 ∷ [] → Break x → toks (spot want k n) (b ∷ w ++ x) ≡ tok (numeral (b ∷ w)) (toks (spot after k n) x)
signed_read b [] k n x e h z g = absurd h
signed_read b (c ∷ []) k n x e h z g =
    let p = is_minus b e in
    let q : c ≢ 48 = λ r. z (ap (λ y. y ∷ []) r) in
    at want k n b (c ∷ x) e ∙ second b c k n x h (grind (arith, nat_tests)) ∙ number_end (b ∷ c ∷ []) k n x refl g
signed_read b (c ∷ d ∷ w) k n x e h z g =
    let p = is_minus b e in
    let q = h.1 in
    at want k n b (c ∷ d ∷ w ++ x) e ∙ second b c k n (d ∷ w ++ x) h.0 (grind (arith, nat_tests)) ∙ digit_run (d ∷ w) [] b c k n x h.2 ∙ number_end (b ∷ c ∷ d ∷ w) k n x refl g

number_read : (w : List ℕ) (k n : ℕ) (x : List ℕ) → IsNumber w → Break x → toks (spot want k n) (w ++ x) ≡ tok (numeral w) (toks (spot after k n) x)
number_read [] k n x h g = absurd h
number_read (b ∷ w) k n x h g = ⊎_elim (λ u. unsigned_read (b ∷ w) k n x u g) (λ s. signed_read b w k n x s.0 s.1 s.2 g) h

-- a form's items as a list
abbrev list : Forms → List Form
list none = []
list (more f fs) = f ∷ list fs

pack_list : (fs : Forms) → pack (list fs) ≡ fs
pack_list none = refl
pack_list (more f fs) = ap (more f) (pack_list fs)

-- behind an item comes a space or the form's end
break_rests : (fs : Forms) (x : List ℕ) → Break (rests fs (41 ∷ x))
break_rests none x = inr refl
break_rests (more f fs) x = inl refl

-- a bracket opens, and closes
opens : (m : Mode) (k n : ℕ) (x : List ℕ) → out (lex m k n 40 Open) x ≡ out (opening k n) x → k < 12 → toks (spot m k n) (40 ∷ x) ≡ tok left (toks (spot want (k + 1) n) x)
opens m k n x e h = at m k n 40 x refl ∙ e ∙ ap (λ t. out (cond t (says left (goes (spot want (k + 1) n))) (goes (halt n))) x) (lt-ltb k 12 h)

closes : (gs : List Form) (o : List (List Form)) (d : List Form) (k n : ℕ) (x : List ℕ) → 0 < k → 0 < length o → parse (gs ∷ o) d (toks (spot after (k + 1) n) (41 ∷ x)) ≡ parse (added (form (pack gs)) o) d (toks (spot after k n) x)
closes gs [] d k n x h l = absurd (omega arith)
closes gs (y ∷ o) d k n x h l =
    let same : k + 1 - 1 ≡ k = omega arith in
    ap (λ t. parse ((y ++ form (pack gs) ∷ []) ∷ o) d (toks (cond t (spot after (k + 1 - 1) n) (spot ended 0 n)) x)) (lt-ltb 1 (k + 1) (omega arith))
    ∙ ap (λ j. parse ((y ++ form (pack gs) ∷ []) ∷ o) d (toks (spot after j n) x)) same

added_long : (f : Form) (o : List (List Form)) → 0 < length o → 0 < length (added f o)
added_long f [] h = h
added_long f (x ∷ o) h = omega arith

-- an item, a form's items, and the items behind its first
mutual
  item : (f : Form) (k n : ℕ) (x : List ℕ) (o : List (List Form)) (d : List Form) → 0 < k → 0 < length o → Valid f k → Break x → parse o d (toks (spot want k n) (show f x)) ≡ parse (added f o) d (toks (spot after k n) x)
  item (word w) k n x o d h l v g = ap (parse o d) (word_read w k n x v.1 g)
  item (number w) k n x o d h l v g = ap (parse o d) (number_read w k n x v.1 g)
  item (form fs) k n x o d h l v g =
      ap (parse o d) (opens want k n (shows fs (41 ∷ x)) refl v.0)
      ∙ all fs [] (k + 1) n x o d (omega arith) v.1 v.2
      ∙ closes (list fs) o d k n x h l
      ∙ ap (λ y. parse (added (form y) o) d (toks (spot after k n) x)) (pack_list fs)

  all : (fs : Forms) (gs : List Form) (k n : ℕ) (x : List ℕ) (o : List (List Form)) (d : List Form) → 0 < k → Filled fs → Valids fs k → parse (gs ∷ o) d (toks (spot want k n) (shows fs (41 ∷ x))) ≡ parse ((gs ++ list fs) ∷ o) d (toks (spot after k n) (41 ∷ x))
  all none gs k n x o d h l v = absurd l
  all (more f fs) gs k n x o d h l v =
      item f k n (rests fs (41 ∷ x)) (gs ∷ o) d h (omega arith) v.0 (break_rests fs x)
      ∙ tail fs (gs ++ f ∷ []) k n x o d h v.1
      ∙ ap (λ y. parse (y ∷ o) d (toks (spot after k n) (41 ∷ x))) (append_assoc gs (f ∷ []) (list fs))

  tail : (fs : Forms) (gs : List Form) (k n : ℕ) (x : List ℕ) (o : List (List Form)) (d : List Form) → 0 < k → Valids fs k → parse (gs ∷ o) d (toks (spot after k n) (rests fs (41 ∷ x))) ≡ parse ((gs ++ list fs) ∷ o) d (toks (spot after k n) (41 ∷ x))
  tail none gs k n x o d h v = ap (λ y. parse (y ∷ o) d (toks (spot after k n) (41 ∷ x))) (sym (append-nil gs))
  tail (more f fs) gs k n x o d h v =
      item f k n (rests fs (41 ∷ x)) (gs ∷ o) d h (omega arith) v.0 (break_rests fs x)
      ∙ tail fs (gs ++ f ∷ []) k n x o d h v.1
      ∙ ap (λ y. parse (y ∷ o) d (toks (spot after k n) (41 ∷ x))) (append_assoc gs (f ∷ []) (list fs))

-- a line
one_line : (f : Form) (n : ℕ) (x : List ℕ) (d : List Form) → Valid f 0 → parse [] d (toks (spot line 0 n) (show f (10 ∷ x))) ≡ parse [] (d ++ f ∷ []) (toks (spot line 0 (n + 1)) x)
one_line (word w) n x d v = absurd (omega (arith, v.0))
one_line (number w) n x d v = absurd (omega (arith, v.0))
one_line (form fs) n x d v =
    all fs [] 1 n (10 ∷ x) [] d (omega arith) v.1 v.2
    ∙ ap (λ y. parse [] (d ++ form y ∷ []) (toks (spot line 0 (n + 1)) x)) (pack_list fs)

-- the lines of valid forms, printed, are read, whatever follows
pub forth : (fs d : List Form) (n : ℕ) (x : List ℕ) → AllValid fs → parse [] d (toks (spot line 0 n) (lines fs x)) ≡ parse [] (d ++ fs) (toks (spot line 0 (n + length fs)) x)
forth [] d n x v =
    let e : n ≡ n + 0 = omega arith in
    (λ i. parse [] (sym (append-nil d) i) (toks (spot line 0 (e i)) x))
forth (f ∷ fs) d n x v =
    let e : n + 1 + length fs ≡ n + length (f ∷ fs) = omega arith in
    one_line f n (lines fs x) d v.0
    ∙ forth fs (d ++ f ∷ []) (n + 1) x v.1
    ∙ (λ i. parse [] (append_assoc d (f ∷ []) fs i) (toks (spot line 0 (e i)) x))
