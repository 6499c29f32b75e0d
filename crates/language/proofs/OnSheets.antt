-- Where the grammar reads a form of a sheet, the definitions by rows give what it reads.
use Rattle.std.proofs.Common.{◌≡◌, ℕ, zero, suc, ◌+◌, ◌-◌, Bool, true, false, cond, List, [], ◌∷◌, map, length, Some, None, Option, sym, refl, ap, ◌∙◌, subst, ⊎_elim, arith}
use Rattle.std.proofs.lemmas.List.{get_or_past}
use Rattle.std.proofs.lemmas.Bool.{cases_lt, lt-ltb}
use Rattle.text.specs.Form.{Form, Forms}
use Rattle.text.specs.Sheet.{row_at, next_row, items_at, shape, form_at, forms_at}
use Rattle.text.specs.declared.row.Row.{Row}
use Rattle.text.specs.declared.row.Row.TheVariants.{Word as WordRow, Number as NumberRow, Items}
use Rattle.language.specs.Basics.{Word, and_then, or_else, changed, in_front, first_where}
use Rattle.language.specs.Named.{Term, Act, Line}
use Rattle.language.specs.House.{house}
use Rattle.language.specs.Grammar.{Item, as_word, as_number, as_term, as_act, as_house, as_kind, as_opener, takes, ends, either_way, acts, body, term_row, act_row, form_row, line_row, kind_named, opens, item, items, line}
use Rattle.language.specs.Causes.{lines, unfit, first_unfit}
use Rattle.language.specs.OnSheet.{inner_row, second_row, third_row, fourth_row, word_in, word_at, digits_in, digits_at, house_in, house_at, count_in, count_at, statement_view, house_act, act_view, row_view, house_view, head_view, term_of, term_at, act_of, act_at, acts_of, line_of, line_at, lines_at, term_seen, act_seen}
use Rattle.language.specs.declared.house.Opener.{Opener}
use Rattle.language.specs.declared.house.Opener.TheVariants.{Kind, Tact, Const, State}
use Rattle.language.specs.declared.house.TermHead.{TermHead}
use Rattle.language.specs.declared.house.TermHead.TheVariants as term_head
use Rattle.language.specs.declared.house.ActHead.{ActHead}
use Rattle.language.specs.declared.house.ActHead.TheVariants as act_head
use Rattle.language.specs.declared.house.House.{House}
use Rattle.language.specs.declared.house.House.TheVariants.{Expression, Statement}
use Rattle.language.proofs.Readings.{no_value, same_value, then_read, changed_read, never_read, either_read, next_read, takes_read, ends_read, is_word, is_number, is_act}

-- What holds of a value if it is there.
abbrev Keeps : {R : Type 0} → (R → Type 0) → Option R → Type 0
Keeps P (Some r) = P r
Keeps P None = Unit {0}

module _ {R : Type 0} (P : R → Type 0) where
  then_keeps : {A : Type 0} (o : Option A) (f : A → Option R) → ((a : A) → Keeps P (f a)) → Keeps P (and_then o f)
  then_keeps (Some a) f h = h a
  then_keeps None f h = tt

  takes_keeps : {A : Type 0} (reads : Item → Option A) (f : A → List Item → Option R) → ((a : A) (is : List Item) → Keeps P (f a is)) → (is : List Item) → Keeps P (takes reads f is)
  takes_keeps reads f h [] = tt
  takes_keeps reads f h (i ∷ is) = then_keeps (reads i) (λ a. f a is) (λ a. h a is)

  ends_keeps : (r : R) → P r → (is : List Item) → Keeps P (ends r is)
  ends_keeps r h [] = h
  ends_keeps r h (i ∷ is) = tt

  changed_keeps : {A : Type 0} (g : A → R) (o : Option A) → ((a : A) → P (g a)) → Keeps P (changed g o)
  changed_keeps g (Some a) h = h a
  changed_keeps g None h = tt

  either_keeps : (f g : List Item → Option R) → ((is : List Item) → Keeps P (f is)) → ((is : List Item) → Keeps P (g is)) → (is : List Item) → Keeps P (either_way f g is)
  either_keeps f g h k is = one (f is) (h is)
    where
      one : (o : Option R) → Keeps P o → Keeps P (or_else o (g is))
      one (Some r) h = h
      one None h = k is

-- The statement that an item is, a timeout too.
abbrev pub statement : Item → Option Act
statement (Item.act s) = Some s
statement (Item.timeout s) = Some s
statement _ = None

-- The items of a form, from a row on.
abbrev pub items_of : ℕ → List Row → ℕ → ℕ → Option (List Item)
items_of d rows p k = items (items_at (form_at d rows) rows p k)

-- The row of a form's first item, as the reading of forms has it.
pub form_inner : (d : ℕ) (rows : List Row) (at : ℕ) → form_at (suc d) rows at ≡ shape (items_at (form_at d rows) rows (inner_row rows at)) (row_at rows at)
form_inner d rows at = ⊎_elim (λ h. rw (lt-ltb at (length rows) h)) (λ h. rw (get_or_past rows at (Items 0 0) h)) (cases_lt at (length rows))

-- A form that a house word begins is an expression, a statement or a timeout.
abbrev Formed : Item → Type 0
Formed (Item.word w) = ⊥
Formed (Item.number ds) = ⊥
Formed _ = Unit {0}

abbrev Acting : Item → Type 0
Acting (Item.act s) = Unit {0}
Acting (Item.timeout s) = Unit {0}
Acting _ = ⊥

ruleset kept = (then_keeps, takes_keeps, ends_keeps, changed_keeps, either_keeps)

acting : (h : ActHead) (is : List Item) → Keeps Acting (act_row h is)
acting act_head.Put is = search kept
acting _ is = search kept depth 9

formed : (h : House) (is : List Item) → Keeps Formed (form_row h is)
formed (Expression h) is = search kept
formed (Statement h) is = acting-formed (act_row h is) (acting h is)
  where
    acting-formed : (o : Option Item) → Keeps Acting o → Keeps Formed o
    acting-formed (Some (Item.word w)) k = k
    acting-formed (Some (Item.number ds)) k = k
    acting-formed _ k = tt
formed _ is = tt

form_formed : (fs : Forms) → Keeps Formed (item (Form.form fs))
form_formed fs = search (kept, formed) depth 9

-- A word and a number are rows of their own.
word_read : (d : ℕ) (rows : List Row) (at : ℕ) {w : Word} → item (form_at d rows at) ≡ Some (Item.word w) → (word_at rows at ≡ w) × (house_at rows at ≡ house w)
word_read zero rows at e = absurd (no_value e)
word_read (suc d) rows at {w} e = one (row_at rows at) e
  where
    one : (r : Row) → item (shape (items_at (form_at d rows) rows (at + 1)) r) ≡ Some (Item.word w) → (word_in r ≡ w) × (house_in r ≡ house w)
    one (WordRow v) e = let h : v.now ≡ w = cc in (h, ap house h)
    one (NumberRow v) e = absurd (let z : ◌≡◌ {A = ℕ} 0 1 = cc in omega arith)
    one (Items k n) e = absurd (subst (Keeps Formed) e (form_formed (items_at (form_at d rows) rows (at + 1) k)))

number_read : (d : ℕ) (rows : List Row) (at : ℕ) {ds : List ℕ} → item (form_at d rows at) ≡ Some (Item.number ds) → digits_at rows at ≡ ds
number_read zero rows at e = absurd (no_value e)
number_read (suc d) rows at {ds} e = one (row_at rows at) e
  where
    one : (r : Row) → item (shape (items_at (form_at d rows) rows (at + 1)) r) ≡ Some (Item.number ds) → digits_in r ≡ ds
    one (WordRow v) e = absurd (let z : ◌≡◌ {A = ℕ} 0 1 = cc in omega arith)
    one (NumberRow v) e = cc
    one (Items k n) e = absurd (subst (Keeps Formed) e (form_formed (items_at (form_at d rows) rows (at + 1) k)))

-- What is read of the items of a form, by rows.
module _ (d : ℕ) (rows : List Row) (at : ℕ) {i : Item} (read : item (form_at d rows at) ≡ Some i) where
  pub word_as : {w : Word} → as_word i ≡ Some w → word_at rows at ≡ w
  word_as e = (word_read d rows at (read ∙ ap Some (is_word i e))).0

  pub number_as : {ds : List ℕ} → as_number i ≡ Some ds → digits_at rows at ≡ ds
  number_as e = number_read d rows at (read ∙ ap Some (is_number i e))

  pub house_as : {h : House} → as_house i ≡ Some h → house_at rows at ≡ Some h
  house_as e = then_read (as_word i) house e (λ w p q. (word_read d rows at (read ∙ ap Some (is_word i p))).1 ∙ q)

acting_no_term : (i : Item) {e : Term} → Acting i → as_term i ≡ Some e → ⊥
acting_no_term (Item.act s) a e = no_value e
acting_no_term (Item.timeout s) a e = no_value e
acting_no_term _ a e = a

-- Expressions.
module _ (d : ℕ) (rows : List Row) (at : ℕ) (T : ℕ → Term) (part : (p : ℕ) (i : Item) (e : Term) → item (form_at d rows p) ≡ Some i → as_term i ≡ Some e → T p ≡ e) where
  term_head_read : (k : ℕ) (h : TermHead) {e : Term} → and_then (items_of d rows (second_row rows at) k) (term_row h) ≡ Some e → term_of rows at T (head_view rows at h) ≡ e
  term_head_read k term_head.Not r = takes_read _ rows _ k as_term _ r λ j i a l p q r. ends_read _ rows _ j _ r λ l e. cc (part _ _ _ p q)
  term_head_read k (term_head.Ask o) r = takes_read _ rows _ k as_word _ r λ j i a l p q r. ends_read _ rows _ j _ r λ l e. cc (word_as d rows _ p q)
  term_head_read k _ r =
      takes_read _ rows _ k as_term _ r λ j i a l p q r. takes_read _ rows _ j as_term _ r λ j i b l p' q' r. ends_read _ rows _ j _ r λ l e. cc (part _ _ _ p q, part _ _ _ p' q')

  term_house_read : (k : ℕ) (h : House) {i : Item} {e : Term} → and_then (items_of d rows (second_row rows at) k) (form_row h) ≡ Some i → as_term i ≡ Some e → term_seen rows at T (house_view rows at (Some h)) ≡ e
  term_house_read k (Expression h) r q = changed_read _ Item.term (term_row h) r λ e' p f. term_head_read k h p ∙ same_value (ap as_term f ∙ q)
  term_house_read k (Statement h) r q = absurd (acting_no_term _ (subst (Keeps Acting) r (then_keeps Acting _ (act_row h) (acting h))) q)
  term_house_read k _ r q = never_read _ r

  term_row_read : (x : Row) → row_at rows at ≡ x → {i : Item} {e : Term} → item (shape (items_at (form_at d rows) rows (inner_row rows at)) x) ≡ Some i → as_term i ≡ Some e → term_seen rows at T (row_view rows at x) ≡ e
  term_row_read (WordRow w) x r q = ap (λ y. Term.named (word_in y)) x ∙ same_value (ap as_term (same_value r) ∙ q)
  term_row_read (NumberRow w) x r q = ap (λ y. Term.number (digits_in y)) x ∙ same_value (ap as_term (same_value r) ∙ q)
  term_row_read (Items k n) x r q = takes_read _ rows _ k as_house form_row r λ j i h l p s t. rw (house_as d rows _ p s) (term_house_read j h t q)

pub term_read : (d : ℕ) (rows : List Row) (at : ℕ) (i : Item) (e : Term) → item (form_at d rows at) ≡ Some i → as_term i ≡ Some e → term_at d rows at ≡ e
term_read zero rows at i e r q = absurd (no_value r)
term_read (suc d) rows at i e r q = term_row_read d rows at (term_at d rows) (term_read d rows) (row_at rows at) refl (rw form_inner at r) q

-- Statements with no timeout are a body.
acts_body : (is : List Item) {s : Act} → acts is ≡ Some s → body is ≡ Some s
acts_body [] e = e
acts_body (Item.word w ∷ is) e = e
acts_body (Item.number ds ∷ is) e = e
acts_body (Item.term t ∷ is) e = e
acts_body (Item.act s ∷ is) e = changed_read (Some is) (Act.then s) acts e λ t p f. rw (acts_body is p) (ap Some f)
acts_body (Item.timeout s ∷ is) e = absurd (no_value e)

-- Statements.
module _ (d : ℕ) (rows : List Row) (A : ℕ → Act) (part : (p : ℕ) (i : Item) (s : Act) → item (form_at d rows p) ≡ Some i → statement i ≡ Some s → A p ≡ s) where
  act_as : (p : ℕ) (i : Item) {s : Act} → item (form_at d rows p) ≡ Some i → as_act i ≡ Some s → A p ≡ s
  act_as p i r q = part p i _ r (ap statement (is_act i q))

  next_in_body : (p k : ℕ) (s : Act) → ((t : Act) → and_then (items_of d rows (next_row rows p) k) body ≡ Some t → acts_of A rows (next_row rows p) k ≡ t)
      → (i : Item) → item (form_at d rows p) ≡ Some i → and_then (items_of d rows (next_row rows p) k) (λ is. body (i ∷ is)) ≡ Some s → acts_of A rows p (suc k) ≡ s
  next_in_body p k s rest (Item.word w) q r = never_read _ r
  next_in_body p k s rest (Item.number ds) q r = never_read _ r
  next_in_body p k s rest (Item.term e) q r = never_read _ r
  next_in_body p k s rest (Item.act t) q r = changed_read (items_of d rows (next_row rows p) k) (Act.then t) body r λ u e f. cc (part p _ t q refl, rest u e)
  next_in_body p k s rest (Item.timeout t) q r = ends_read (form_at d rows) rows (next_row rows p) k _ r λ l f. rw l (cc (part p _ t q refl))

  body_read : (p k : ℕ) (s : Act) → and_then (items_of d rows p k) body ≡ Some s → acts_of A rows p k ≡ s
  body_read p zero s r = same_value r
  body_read p (suc k) s r = next_read (form_at d rows) rows p k body r (next_in_body p k s (body_read (next_row rows p) k))

  acts_read : (p k : ℕ) {s : Act} → and_then (items_of d rows p k) acts ≡ Some s → acts_of A rows p k ≡ s
  acts_read p k {s} r = then_read (items_of d rows p k) acts r λ is o e. body_read p k s (rw o (acts_body is e))

  module _ (at : ℕ) (T : ℕ → Term) (term : (p : ℕ) (i : Item) (e : Term) → item (form_at d rows p) ≡ Some i → as_term i ≡ Some e → T p ≡ e) where
    act-head-read : (k : ℕ) (h : ActHead) {i : Item} → count_at rows at ≡ suc k → and_then (items_of d rows (second_row rows at) k) (act_row h) ≡ Some i → statement i ≡ Some (act_of rows T A (statement_view rows at h))
    act-head-read k act_head.Put c r = takes_read _ rows _ k as_word _ r λ j i n l p q r. takes_read _ rows _ j as_term _ r λ j i e l p' q' r. ends_read _ rows _ j _ r λ l f. cc (ap statement f, word_as d rows _ p q, term _ _ _ p' q')
    act-head-read k act_head.If c r =
        takes_read _ rows _ k as_term _ r λ j i e l p q r. takes_read _ rows _ j as_act _ r λ j' i s l' p' q' r.
        either_read (items_of d rows (fourth_row rows at) j') (ends (Item.act (Act.when e s))) (takes as_act λ t. ends (Item.act (Act.choose e s t))) r
        (λ r. ends_read _ rows _ j' _ r λ m f. let n : count_at rows at ≡ 3 = omega arith in rw n (cc (ap statement f, term _ _ _ p q, act_as _ _ p' q')))
        (λ r. takes_read _ rows _ j' as_act _ r λ j'' i t l'' p'' q'' r. ends_read _ rows _ j'' _ r λ m f. let n : count_at rows at ≡ 4 = omega arith in
        rw n (cc (ap statement f, term _ _ _ p q, act_as _ _ p' q', act_as _ _ p'' q'')))
    act-head-read k act_head.Do c r =
        takes_read _ rows _ k as_act _ r λ j i s l p q r. changed_read (items_of d rows (third_row rows at) j) (λ t. Item.act (Act.then s t)) acts r λ t e f.
        let n : count_at rows at - 1 ≡ suc j = omega arith in rw n (cc (ap statement f, act_as _ _ p q, acts_read (third_row rows at) j e))
    act-head-read k act_head.Go c r = takes_read _ rows _ k as_word _ r λ j i n l p q r. ends_read _ rows _ j _ r λ l f. cc (ap statement f, word_as d rows _ p q)
    act-head-read k act_head.Start c r = takes_read _ rows _ k as_word _ r λ j i n l p q r. ends_read _ rows _ j _ r λ l f. cc (ap statement f, word_as d rows _ p q)
    act-head-read k act_head.Stop c r =
        either_read (items_of d rows (second_row rows at) k) (ends (Item.act Act.halt)) (takes as_word λ p. ends (Item.act (Act.stop p))) r
        (λ r. ends_read _ rows _ k _ r λ m f. let n : count_at rows at ≡ 1 = omega arith in rw n (cc (ap statement f)))
        (λ r. takes_read _ rows _ k as_word _ r λ j i w l p q r. ends_read _ rows _ j _ r λ m f. let n : count_at rows at ≡ 2 = omega arith in rw n (cc (ap statement f, word_as d rows _ p q)))
    act-head-read k act_head.After c r = takes_read _ rows _ k as_number _ r λ j i n l p q r. takes_read _ rows _ j as_act _ r λ j i e l p' q' r. ends_read _ rows _ j _ r λ l f. cc (ap statement f, number_as d rows _ p q, act_as _ _ p' q')
    act-head-read k _ c r = ends_read _ rows _ k _ r λ l f. cc (ap statement f)

    act-house-read : (k : ℕ) (h : House) {i : Item} {s : Act} → count_at rows at ≡ suc k → and_then (items_of d rows (second_row rows at) k) (form_row h) ≡ Some i → statement i ≡ Some s → act_seen rows T A (house_act rows at (Some h)) ≡ s
    act-house-read k (Expression h) c r q = changed_read (items_of d rows (second_row rows at) k) Item.term (term_row h) r λ e p f. absurd (no_value (ap statement f ∙ q))
    act-house-read k (Statement h) c r q = same_value (sym (act-head-read k h c r) ∙ q)
    act-house-read k _ c r q = never_read _ r

    act-row-read : (x : Row) → row_at rows at ≡ x → {i : Item} {s : Act} → item (shape (items_at (form_at d rows) rows (inner_row rows at)) x) ≡ Some i → statement i ≡ Some s → act_seen rows T A (act_view rows at) ≡ s
    act-row-read (WordRow w) x r q = absurd (no_value (ap statement (same_value r) ∙ q))
    act-row-read (NumberRow w) x r q = absurd (no_value (ap statement (same_value r) ∙ q))
    act-row-read (Items k n) x r q = takes_read _ rows _ k as_house form_row r λ j i h l p s t. rw (house_as d rows _ p s) (act-house-read j h (ap count_in x ∙ l) t q)

pub act_read : (d : ℕ) (rows : List Row) (at : ℕ) (i : Item) (s : Act) → item (form_at d rows at) ≡ Some i → statement i ≡ Some s → act_at d rows at ≡ s
act_read zero rows at i s r q = absurd (no_value r)
act_read (suc d) rows at i s r q = act-row-read d rows (act_at d rows) (act_read d rows) at (term_at d rows) (term_read d rows) (row_at rows at) refl (rw form_inner at r) q

-- Lines.
module _ (rows : List Row) (at : ℕ) where
  opener_row_read : (k : ℕ) (o : Opener) {l : Line} → count_at rows at ≡ suc k → and_then (items_of 12 rows (second_row rows at) k) (line_row o) ≡ Some l → line_of rows at (Some o) ≡ l
  opener_row_read k Kind c r =
      takes_read _ rows _ k as_kind _ r λ j i z m p q r. ends_read _ rows _ j _ r λ m f. then_read (as_house i) kind_named q λ h a b. rw (house_as 12 rows _ p a, b) f
  opener_row_read k Tact c r = takes_read _ rows _ k as_number _ r λ j i n m p q r. ends_read _ rows _ j _ r λ m f. cc (number_as 12 rows _ p q)
  opener_row_read k Const c r =
      takes_read _ rows _ k as_word _ r λ j i w m p q r. takes_read _ rows _ j as_number _ r λ j i n m p' q' r. ends_read _ rows _ j _ r λ m f. cc (word_as 12 rows _ p q, number_as 12 rows _ p' q')
  opener_row_read k State c r =
      takes_read _ rows _ k as_word _ r λ j i w m p q r. changed_read (items_of 12 rows (third_row rows at) j) (Line.state w) body r λ b e f.
      let n : count_at rows at - 2 ≡ j = omega arith in rw n (cc (word_as 12 rows _ p q, body_read 12 rows (act_at 12 rows) (act_read 12 rows) (third_row rows at) j b e))
  opener_row_read k _ c r = takes_read _ rows _ k as_word _ r λ j i w m p q r. ends_read _ rows _ j _ r λ m f. cc (word_as 12 rows _ p q)

  line_row_read : (x : Row) → row_at rows at ≡ x → {l : Line} → line (shape (items_at (form_at 12 rows) rows (inner_row rows at)) x) ≡ Some l → line_at rows at ≡ l
  unfolding line_at
  line_row_read (WordRow w) x r = absurd (no_value r)
  line_row_read (NumberRow w) x r = absurd (no_value r)
  line_row_read (Items k n) x r = takes_read _ rows _ k as_opener line_row r λ j i o m p s t. then_read (as_house i) opens s λ h a b. rw (house_as 12 rows _ p a, b) (opener_row_read j o (ap count_in x ∙ m) t)

  pub line_read : {l : Line} → line (form_at 13 rows at) ≡ Some l → line_at rows at ≡ l
  line_read r = line_row_read (row_at rows at) refl (rw form_inner at r)

cond_none : {A : Type 0} (b : Bool) (a : A) (o : Option A) → cond b (Some a) o ≡ None → o ≡ None
cond_none true a o e = absurd (no_value (sym e))
cond_none false a o e = e

-- Where no line is unfit, every form is a line.
pub lines_read : (rows : List Row) (p m n : ℕ) (before : List (Option Line)) → first_where unfit n before (map line (forms_at rows p m)) ≡ None → lines (forms_at rows p m) ≡ lines_at rows p m
lines_read rows p zero n before e = refl
lines_read rows p (suc m) n before e = one (line (form_at 13 rows p)) refl e (lines_read rows (next_row rows p) m (suc n))
  where
    rest : List Form
    rest = forms_at rows (next_row rows p) m

    one : (o : Option Line) → line (form_at 13 rows p) ≡ o → cond (unfit before o (map line rest)) (Some n) (first_where unfit (suc n) (o ∷ before) (map line rest)) ≡ None
        → ((bs : List (Option Line)) → first_where unfit (suc n) bs (map line rest) ≡ None → lines rest ≡ lines_at rows (next_row rows p) m)
        → in_front o (lines rest) ≡ lines_at rows p (suc m)
    one None o e go = absurd (no_value (sym e))
    one (Some l) o e go = cc (line_read rows p o, go (Some l ∷ before) (cond_none (unfit before (Some l) (map line rest)) n _ e))

pub fit_lines_read : (rows : List Row) (m : ℕ) (ls : List Line) → first_unfit (forms_at rows 0 m) ls ≡ None → lines (forms_at rows 0 m) ≡ lines_at rows 0 m
fit_lines_read rows m ls e = lines_read rows 0 m 1 [] e
