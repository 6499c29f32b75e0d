-- What a row of the grammar says of the items of a form, where it reads one.
use Rattle.std.proofs.Common.{◌≡◌, ℕ, zero, suc, List, ◌∷◌, Some, None, Option, refl, ap, arith}
use Rattle.text.specs.Form.{Form}
use Rattle.text.specs.Sheet.{items_at, next_row}
use Rattle.text.specs.declared.row.Row.{Row}
use Rattle.language.specs.Basics.{Word, and_then, changed, or_else}
use Rattle.language.specs.Named.{Act}
use Rattle.language.specs.Grammar.{Item, as_word, as_number, as_act, takes, ends, either_way, item, items}

-- Nothing is no value.
pub no_value : {A : Type 0} {a : A} → None ≡ Some a → ⊥
no_value e = let z : ◌≡◌ {A = ℕ} 0 1 = cc in omega arith

pub same_value : {A : Type 0} {a b : A} → Some a ≡ Some b → a ≡ b
same_value e = cc

-- What comes of two steps.
module _ {A B G : Type 0} where
  pub then_read : (o : Option A) (f : A → Option B) {b : B} → and_then o f ≡ Some b → ((a : A) → o ≡ Some a → f a ≡ Some b → G) → G
  then_read (Some a) f e go = go a refl e
  then_read None f e go = absurd (no_value e)

  pub changed_read : {L : Type 0} (o : Option L) (g : A → B) (f : L → Option A) {b : B} → and_then o (λ x. changed g (f x)) ≡ Some b → ((a : A) → and_then o f ≡ Some a → g a ≡ b → G) → G
  changed_read None g f e go = absurd (no_value e)
  changed_read (Some x) g f e go = one (f x) e go
    where
      one : (v : Option A) {b : B} → changed g v ≡ Some b → ((a : A) → v ≡ Some a → g a ≡ b → G) → G
      one None e go = absurd (no_value e)
      one (Some a) e go = go a refl (same_value e)

  pub never_read : (o : Option A) {b : B} → and_then o (λ x. None) ≡ Some b → G
  never_read None e = absurd (no_value e)
  never_read (Some x) e = absurd (no_value e)

-- One of two ways.
pub either_read : {B G : Type 0} (o : Option (List Item)) (f g : List Item → Option B) {b : B} → and_then o (either_way f g) ≡ Some b → (and_then o f ≡ Some b → G) → (and_then o g ≡ Some b → G) → G
either_read None f g e left right = absurd (no_value e)
either_read {B} {G} (Some is) f g {b} e left right = one (f is) e left right
  where
    one : (v : Option B) → or_else v (g is) ≡ Some b → (v ≡ Some b → G) → (g is ≡ Some b → G) → G
    one (Some a) e left right = left e
    one None e left right = right e

-- The items of a form, from a row on.
module _ {R G : Type 0} (F : ℕ → Form) (rows : List Row) where
  pub next_read : (p j : ℕ) (g : List Item → Option R) {r : R}
      → and_then (items (items_at F rows p (suc j))) g ≡ Some r
      → ((i : Item) → item (F p) ≡ Some i → and_then (items (items_at F rows (next_row rows p) j)) (λ is. g (i ∷ is)) ≡ Some r → G)
      → G
  next_read p j g {r} = one (item (F p)) (items (items_at F rows (next_row rows p) j))
    where
      one : (o : Option Item) (os : Option (List Item)) → and_then (and_then o (λ i. changed (λ is. i ∷ is) os)) g ≡ Some r
          → ((i : Item) → o ≡ Some i → and_then os (λ is. g (i ∷ is)) ≡ Some r → G) → G
      one None os e go = absurd (no_value e)
      one (Some i) None e go = absurd (no_value e)
      one (Some i) (Some is) e go = go i refl e

  pub takes_read : {A : Type 0} (p k : ℕ) (reads : Item → Option A) (f : A → List Item → Option R) {r : R}
      → and_then (items (items_at F rows p k)) (takes reads f) ≡ Some r
      → ((j : ℕ) (i : Item) (a : A) → k ≡ suc j → item (F p) ≡ Some i → reads i ≡ Some a → and_then (items (items_at F rows (next_row rows p) j)) (f a) ≡ Some r → G)
      → G
  takes_read p zero reads f e go = absurd (no_value e)
  takes_read {A} p (suc j) reads f {r} e go = next_read p j (takes reads f) e λ i q. one i q (reads i) refl
    where
      rest : Option (List Item)
      rest = items (items_at F rows (next_row rows p) j)

      one : (i : Item) → item (F p) ≡ Some i → (o : Option A) → reads i ≡ o → and_then rest (λ is. and_then o (λ a. f a is)) ≡ Some r → G
      one i q None l e = never_read rest e
      one i q (Some a) l e = go j i a refl q l e

  pub ends_read : (p k : ℕ) (x : R) {r : R} → and_then (items (items_at F rows p k)) (ends x) ≡ Some r → (k ≡ 0 → x ≡ r → G) → G
  ends_read p zero x e go = go refl (same_value e)
  ends_read p (suc j) x e go = next_read p j (ends x) e λ i q. never_read (items (items_at F rows (next_row rows p) j))

-- An item that reads as a word, a number or a statement is one.
pub is_word : (i : Item) {w : Word} → as_word i ≡ Some w → i ≡ Item.word w
is_word (Item.word v) e = ap Item.word (same_value e)
is_word _ e = absurd (no_value e)

pub is_number : (i : Item) {ds : List ℕ} → as_number i ≡ Some ds → i ≡ Item.number ds
is_number (Item.number ds) e = ap Item.number (same_value e)
is_number _ e = absurd (no_value e)

pub is_act : (i : Item) {s : Act} → as_act i ≡ Some s → i ≡ Item.act s
is_act (Item.act s) e = ap Item.act (same_value e)
is_act _ e = absurd (no_value e)
