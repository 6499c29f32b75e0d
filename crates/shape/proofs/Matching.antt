-- The machine of patterns reads what the grammar reads.
use Rattle.std.proofs.Common.{◌≡◌, ℕ, Bool, List, [], ◌∷◌, map, ℤ, is_some, Some, None, Option, sym, refl, ap, ◌∙◌}
use Rattle.language.specs.Basics.{and_then, changed}
use Rattle.language.specs.Named.{Term, Act}
use Rattle.language.specs.House.{house}
use Rattle.language.specs.Grammar.{Item, as_word, as_number, as_term, as_act, as_kind, as_house, as_opener, kind_named, opens, takes, ends, either_way, acts, body, term_row, act_row, form_row, line_row}
use Rattle.language.specs.declared.house.House.{House}
use Rattle.language.specs.declared.house.House.TheVariants.{Opens, Expression, Statement, KindName}
use Rattle.language.specs.declared.house.Opener.{Opener}
use Rattle.language.specs.declared.house.Opener.TheVariants as opener
use Rattle.language.specs.declared.house.TermHead.{TermHead}
use Rattle.language.specs.declared.house.TermHead.TheVariants as term_head
use Rattle.language.specs.declared.house.ActHead.{ActHead}
use Rattle.language.specs.declared.house.ActHead.TheVariants as act_head
use Rattle.shape.specs.declared.sort.Sort.{Sort}
use Rattle.shape.specs.declared.sort.Sort.TheVariants as sorts
use Rattle.shape.specs.declared.pattern.Pattern.{Pattern}
use Rattle.shape.specs.declared.pattern.Expect.{Expect}
use Rattle.shape.specs.declared.pattern.Expect.TheVariants.{Nothing, Word, KindName as OneKind, Number, Term as OneTerm, Act as OneAct, MaybeWord, MaybeAct, Acts, Body}
use Rattle.shape.specs.Sorts.{item_sort, line_sort, is_word, is_kind, is_number, is_term, is_act}
use Rattle.shape.specs.Patterns.{taking, form_start, line_start, term_pattern, act_pattern, line_pattern, head_pattern, opener_pattern, moved, after, ended, whole_of}

-- What a form with these items is, by its pattern.
abbrev pub run : Pattern → List Item → Option Sort
run p is = whole_of (map (λ i. Some (item_sort i)) is) p

module _ {R : Type 0} (tell : R → Sort) where
  -- A pattern tells of each list of items what a row of the grammar reads of it.
  abbrev pub Means : Pattern → (List Item → Option R) → Type 0
  Means p f = (is : List Item) → changed tell (f is) ≡ run p is

  told_twice : {A B : Type 0} (g : B → R) (h : A → B) (o : Option A) → changed tell (changed g (changed h o)) ≡ changed tell (changed (λ x. g (h x)) o)
  told_twice g h (Some a) = refl
  told_twice g h None = refl

  -- No item is left.
  ends_means : (b c : Expect) (s : Sort) (r : R) → tell r ≡ s → Means (taking Nothing b c s) (ends r)
  ends_means b c s r e [] = ap Some e
  ends_means b c s r e (i ∷ is) = refl

  -- One item that is read, behind which the pattern goes on.
  module _ {A : Type 0} (reads : Item → Option A) (test : Sort → Bool) (agree : (i : Item) → is_some (reads i) ≡ test (item_sort i)) (f : A → List Item → Option R) where
    next-means : (b c : Expect) (e : Expect) (s : Sort) → ((a : A) → Means (taking b c Nothing s) (f a)) → (i : Item) (is : List Item) → changed tell (and_then (reads i) (λ a. f a is)) ≡ and_then (moved (test (item_sort i)) (taking e b c s)) (λ q. run q is)
    next-means b c e s rest i is = one (reads i) (test (item_sort i)) (agree i)
      where
        one : (o : Option A) (t : Bool) → is_some o ≡ t → changed tell (and_then o (λ a. f a is)) ≡ and_then (moved t (taking e b c s)) (λ q. run q is)
        one (Some a) t h = rw (← h) (rest a is)
        one None t h = rw (← h)

-- The tests are what the grammar takes.
agree_word : (i : Item) → is_some (as_word i) ≡ is_word (item_sort i)
agree_word (Item.word w) = refl
agree_word _ = refl

agree_number : (i : Item) → is_some (as_number i) ≡ is_number (item_sort i)
agree_number (Item.word w) = refl
agree_number _ = refl

agree_term : (i : Item) → is_some (as_term i) ≡ is_term (item_sort i)
agree_term (Item.word w) = refl
agree_term _ = refl

agree_act : (i : Item) → is_some (as_act i) ≡ is_act (item_sort i)
agree_act (Item.word w) = refl
agree_act _ = refl

agree_kind : (i : Item) → is_some (as_kind i) ≡ is_kind (item_sort i)
agree_kind (Item.word w) = one (house w)
  where
    one : (h : Option House) → is_some (and_then h kind_named) ≡ is_kind (sorts.Word h)
    one None = refl
    one (Some (KindName k)) = refl
    one (Some _) = refl
agree_kind _ = refl

-- One lemma for each sort of item that comes next.
module _ {R : Type 0} (tell : R → Sort) (b c : Expect) (s : Sort) where
  module _ {A : Type 0} (f : A → List Item → Option R) (rest : (a : A) → Means tell (taking b c Nothing s) (f a)) where
    takes-means : (e : Expect) (reads : Item → Option A) (test : Sort → Bool) → ((i : Item) → is_some (reads i) ≡ test (item_sort i)) → None ≡ ended (taking e b c s) → ((x : Sort) → after (taking e b c s) x ≡ moved (test x) (taking e b c s)) → Means tell (taking e b c s) (takes reads f)
    takes-means e reads test agree unfinished goes [] = unfinished
    takes-means e reads test agree unfinished goes (i ∷ is) = next-means tell reads test agree f b c e s rest i is ∙ ap (λ q. and_then q (λ p. run p is)) (sym (goes (item_sort i)))

  word_means : (f : List ℕ → List Item → Option R) → ((a : List ℕ) → Means tell (taking b c Nothing s) (f a)) → Means tell (taking Word b c s) (takes as_word f)
  word_means f rest = takes-means f rest Word as_word is_word agree_word refl (λ x. refl)

  number_means : (f : List ℕ → List Item → Option R) → ((a : List ℕ) → Means tell (taking b c Nothing s) (f a)) → Means tell (taking Number b c s) (takes as_number f)
  number_means f rest = takes-means f rest Number as_number is_number agree_number refl (λ x. refl)

  term_means : (f : Term → List Item → Option R) → ((a : Term) → Means tell (taking b c Nothing s) (f a)) → Means tell (taking OneTerm b c s) (takes as_term f)
  term_means f rest = takes-means f rest OneTerm as_term is_term agree_term refl (λ x. refl)

  act_means : (f : Act → List Item → Option R) → ((a : Act) → Means tell (taking b c Nothing s) (f a)) → Means tell (taking OneAct b c s) (takes as_act f)
  act_means f rest = takes-means f rest OneAct as_act is_act agree_act refl (λ x. refl)

  kind_means : (f : ℤ → List Item → Option R) → ((a : ℤ) → Means tell (taking b c Nothing s) (f a)) → Means tell (taking OneKind b c s) (takes as_kind f)
  kind_means f rest = takes-means f rest OneKind as_kind is_kind agree_kind refl (λ x. refl)

  -- One item or none.
  maybe_word_means : (r : R) → tell r ≡ s → (f : List ℕ → List Item → Option R) → ((a : List ℕ) → Means tell (taking b c Nothing s) (f a)) → Means tell (taking MaybeWord b c s) (either_way (ends r) (takes as_word f))
  maybe_word_means r e f rest [] = ap Some e
  maybe_word_means r e f rest (i ∷ is) = word_means f rest (i ∷ is)

  maybe_act_means : (r : R) → tell r ≡ s → (f : Act → List Item → Option R) → ((a : Act) → Means tell (taking b c Nothing s) (f a)) → Means tell (taking MaybeAct b c s) (either_way (ends r) (takes as_act f))
  maybe_act_means r e f rest [] = ap Some e
  maybe_act_means r e f rest (i ∷ is) = act_means f rest (i ∷ is)

  -- Any number of statements.
  acts_means : (g : Act → R) → ((t : Act) → tell (g t) ≡ s) → Means tell (taking Acts b c s) (λ is. changed g (acts is))
  acts_means g e [] = ap Some (e Act.pass)
  acts_means g e (Item.act t ∷ is) = told_twice tell g (Act.then t) (acts is) ∙ acts_means (λ x. g (Act.then t x)) (λ x. e (Act.then t x)) is
  acts_means g e (_ ∷ is) = refl

  -- Any number of statements, and a timeout as the last one or none.
  last_means : (g : Act → R) (t : Act) → tell (g t) ≡ s → Means tell (taking Nothing b c s) (λ is. changed g (ends t is))
  last_means g t e [] = ap Some e
  last_means g t e (i ∷ is) = refl

body_means : {R : Type 0} (tell : R → Sort) (s : Sort) (g : Act → R) → ((t : Act) → tell (g t) ≡ s) → Means tell (taking Body Nothing Nothing s) (λ is. changed g (body is))
body_means tell s g e [] = ap Some (e Act.pass)
body_means tell s g e (Item.act t ∷ is) = told_twice tell g (Act.then t) (body is) ∙ body_means tell s (λ x. g (Act.then t x)) (λ x. e (Act.then t x)) is
body_means tell s g e (Item.timeout t ∷ is) = last_means tell Nothing Nothing s g (Act.then t Act.pass) (e (Act.then t Act.pass)) is
body_means tell s g e (_ ∷ is) = refl

ruleset means = (ends_means, word_means, number_means, term_means, act_means, kind_means, maybe_word_means, maybe_act_means, acts_means, body_means)

-- The items of each expression, statement and line.
term_rows : (h : TermHead) → Means (λ e. sorts.Term) (term_pattern h) (term_row h)
term_rows term_head.Not = search means depth 9
term_rows _ = search means depth 9

act_rows : (h : ActHead) → Means item_sort (act_pattern h) (act_row h)
act_rows act_head.Put = search means depth 9
act_rows _ = search means depth 9

line_rows : (o : Opener) → Means line_sort (line_pattern o) (line_row o)
line_rows opener.Kind = search means depth 9
line_rows _ = search means depth 9

-- The word that begins a form, and its items.
told_term : (o : Option Term) → changed item_sort (changed Item.term o) ≡ changed (λ e. sorts.Term) o
told_term (Some e) = refl
told_term None = refl

head_rows : (h : Option House) (is : List Item) → changed item_sort (and_then h (λ x. form_row x is)) ≡ and_then (head_pattern (sorts.Word h)) (λ p. run p is)
head_rows (Some (Expression h)) is = told_term (term_row h is) ∙ term_rows h is
head_rows (Some (Statement h)) is = act_rows h is
head_rows _ is = refl

pub form_means : Means item_sort form_start (takes as_house form_row)
form_means [] = refl
form_means (Item.word w ∷ is) = head_rows (house w) is
form_means (_ ∷ is) = refl

opener_rows : (h : Option House) (is : List Item) → changed line_sort (and_then (and_then h opens) (λ x. line_row x is)) ≡ and_then (opener_pattern (sorts.Word h)) (λ p. run p is)
opener_rows (Some (Opens o)) is = line_rows o is
opener_rows _ is = refl

pub line_means : Means line_sort line_start (takes as_opener line_row)
line_means [] = refl
line_means (Item.word w ∷ is) = opener_rows (house w) is
line_means (_ ∷ is) = refl
