-- A sheet that is filled row by row.
use Rattle.std.proofs.Common.{◌≡◌, ℕ, zero, suc, ◌+◌, ◌-◌, ◌<◌, ◌≤◌, List, [], ◌∷◌, ◌++◌, length, get_or, take, drop, set, sym, refl, ap, ◌∙◌, subst, append_assoc, arith, length-append, length-drop}
use Rattle.std.proofs.lemmas.List.{take-append-le, drop-append-le, take_all, drop_all, set_at, get_or_at, length_push}
use Rattle.text.specs.Form.{Form, word, number, form, pack}
use Rattle.text.specs.Reading.{added, lined}
use Rattle.text.specs.Sheet.{rows_of, rows_in}
use Rattle.text.specs.declared.row.Row.{Row}
use Rattle.text.specs.declared.row.Row.TheVariants.{Word, Number, Items}

-- the forms that rows stand for, one after the other, by the numbers of their items
abbrev pub build : List Row → List Form
build [] = []
build (Word w ∷ rs) = word w.now ∷ build rs
build (Number w ∷ rs) = number w.now ∷ build rs
build (Items k n ∷ rs) = form (pack (take k (build rs))) ∷ drop k (build rs)

-- every form has all of its items, and n rows behind its own that they take
abbrev pub Whole : List Row → Type 0
Whole [] = Unit {0}
Whole (Word w ∷ rs) = Whole rs
Whole (Number w ∷ rs) = Whole rs
Whole (Items k n ∷ rs) = (k ≤ length (build rs)) × (n ≤ length rs) × (build (drop n rs) ≡ drop k (build rs)) × Whole rs

-- rows stand for no more forms than they are
pub build_length : (rs : List Row) → length (build rs) ≤ length rs
build_length [] = omega arith
build_length (Word w ∷ rs) = omega (arith, build_length rs)
build_length (Number w ∷ rs) = omega (arith, build_length rs)
build_length (Items k n ∷ rs) = omega (arith, build_length rs, length-drop k (build rs))

-- what is left of whole rows is whole
pub whole_drop : (n : ℕ) (rows : List Row) → Whole rows → Whole (drop n rows)
whole_drop zero rows w = w
whole_drop (suc n) [] w = w
whole_drop (suc n) (Word x ∷ rs) w = whole_drop n rs w
whole_drop (suc n) (Number x ∷ rs) w = whole_drop n rs w
whole_drop (suc n) (Items k m ∷ rs) w = whole_drop n rs w.3

-- rows that are whole stand for themselves, whatever follows
build_append : (xs ys : List Row) → Whole xs → build (xs ++ ys) ≡ build xs ++ build ys
build_append [] ys w = refl
build_append (Word x ∷ xs) ys w = ap (λ l. word x.now ∷ l) (build_append xs ys w)
build_append (Number x ∷ xs) ys w = ap (λ l. number x.now ∷ l) (build_append xs ys w)
build_append (Items k n ∷ xs) ys w =
    let ih = build_append xs ys w.3 in
    ap (λ l. form (pack (take k l)) ∷ drop k l) ih ∙ (λ i. form (pack (take-append-le k (build xs) (build ys) w.0 i)) ∷ drop-append-le k (build xs) (build ys) w.0 i)

whole_append : (xs ys : List Row) → Whole xs → Whole ys → Whole (xs ++ ys)
whole_append [] ys w v = v
whole_append (Word x ∷ xs) ys w v = whole_append xs ys w v
whole_append (Number x ∷ xs) ys w v = whole_append xs ys w v
whole_append (Items k n ∷ xs) ys w v =
    let ih = build_append xs ys w.3 in (
      omega (arith, w.0, ap length ih, length-append (build xs) (build ys)),
      omega (arith, w.1, length-append xs ys),
      ap build (drop-append-le n xs ys w.1) ∙ build_append (drop n xs) ys (whole_drop n xs w.3) ∙ ap (λ l. l ++ build ys) w.2 ∙ sym (drop-append-le k (build xs) (build ys) w.0) ∙ ap (drop k) (sym ih),
      whole_append xs ys w.3 v,
    )

-- a form's row before its items' rows
build_form : (xs : List Row) (fs : List Form) (k n : ℕ) → build xs ≡ fs → k ≡ length fs → build (Items k n ∷ xs) ≡ form (pack fs) ∷ []
build_form xs fs k n e h =
    ap (λ l. form (pack (take k l)) ∷ drop k l) e ∙ (λ i. form (pack (take_all k fs (omega arith) i)) ∷ drop_all k fs (omega arith) i)

whole_form : (xs : List Row) (fs : List Form) (k n : ℕ) → Whole xs → build xs ≡ fs → k ≡ length fs → n ≡ length xs → Whole (Items k n ∷ xs)
whole_form xs fs k n w e h l = (
  omega (arith, ap length e),
  omega arith,
  ap build (drop_all n xs (omega arith)) ∙ sym (drop_all k (build xs) (omega (arith, ap length e))),
  w,
)

-- The rows so far, where o are the open forms' items and d the forms of the lines. An open form's row keeps the
-- count and the row of the form around it.
abbrev pub Part : List (List Form) → List Form → List Row → ℕ → ℕ → Type 0
Part [] d rows top count = record { is : build rows ≡ d; whole : Whole rows; many : count ≡ length d }
Part (fs ∷ o) d rows top count = record {
  before : List Row;
  behind : List Row;
  outer : ℕ;
  items : ℕ;
  split : rows ≡ before ++ Items items outer ∷ behind;
  place : top ≡ length before;
  many : count ≡ length fs;
  is : build behind ≡ fs;
  whole : Whole behind;
  rest : Part o d before outer items;
}

-- no more items than rows
pub part_count : (o : List (List Form)) (d : List Form) (rows : List Row) (top count : ℕ) → Part o d rows top count → count ≤ length rows
part_count [] d rows top count p = omega (arith, build_length rows, ap length p.is, p.many)
part_count (fs ∷ o) d rows top count p =
    omega (arith, build_length p.behind, ap length p.is, p.many, ap length p.split, length-append p.before (Items p.items p.outer ∷ p.behind))

-- a form begins
pub part_open : (o : List (List Form)) (d : List Form) (rows : List Row) (top count : ℕ) → Part o d rows top count → Part ([] ∷ o) d (rows ++ Items count top ∷ []) (length rows) 0
part_open o d rows top count p = record {
  before = rows;
  behind = [];
  outer = top;
  items = count;
  split = refl;
  place = refl;
  many = refl;
  is = refl;
  whole = tt;
  rest = p;
}

-- rows more that stand for one more item, of the innermost open form or of the lines
pub part_add : (o : List (List Form)) (d : List Form) (rows ys : List Row) (top count : ℕ) (f : Form) → build ys ≡ f ∷ [] → Whole ys → Part o d rows top count → Part (added f o) (lined f o d) (rows ++ ys) top (count + 1)
part_add [] d rows ys top count f e w p = record {
  is = build_append rows ys p.whole ∙ (λ i. p.is i ++ e i);
  whole = whole_append rows ys p.whole w;
  many = omega (arith, p.many, length_push d f);
}
part_add (fs ∷ o) d rows ys top count f e w p = record {
  before = p.before;
  behind = p.behind ++ ys;
  outer = p.outer;
  items = p.items;
  split = ap (λ l. l ++ ys) p.split ∙ append_assoc p.before (Items p.items p.outer ∷ p.behind) ys;
  place = p.place;
  many = omega (arith, p.many, length_push fs f);
  is = build_append p.behind ys p.whole ∙ (λ i. p.is i ++ e i);
  whole = whole_append p.behind ys p.whole w;
  rest = p.rest;
}

-- the innermost open form ends: its row gets its counts
abbrev closed_rows : List Row → ℕ → ℕ → List Row
closed_rows rows top count = set rows top (Items count (length rows - top - 1))

module _ (fs : List Form) (o : List (List Form)) (d : List Form) (rows : List Row) (top count : ℕ) (p : Part (fs ∷ o) d rows top count) where
  -- the open form's row, and the rows of its items behind it
  sizes : length rows ≡ top + 1 + length p.behind
  sizes = omega (arith, p.place, ap length p.split, length-append p.before (Items p.items p.outer ∷ p.behind))

  pub part_top : top < length rows
  part_top = omega (arith, sizes)

  -- what its row holds until then
  pub part_frame : (e : Row) → get_or rows top e ≡ Items p.items p.outer
  part_frame e = ap (λ l. get_or l top e) p.split ∙ get_or_at p.before (Items p.items p.outer) p.behind e top (sym p.place)

  pub part_close : Part (added (form (pack fs)) o) (lined (form (pack fs)) o d) (closed_rows rows top count) p.outer (p.items + 1)
  part_close =
      let n = length rows - top - 1 in
      let is : closed_rows rows top count ≡ p.before ++ Items count n ∷ p.behind = ap (λ l. set l top (Items count n)) p.split ∙ set_at p.before _ p.behind (Items count n) top (sym p.place) in
      subst (λ l. Part (added (form (pack fs)) o) (lined (form (pack fs)) o d) l p.outer (p.items + 1)) (sym is)
      (part_add o d p.before (Items count n ∷ p.behind) p.outer p.items (form (pack fs)) (build_form p.behind fs count n p.is p.many) (whole_form p.behind fs count n p.whole p.is p.many (omega (arith, sizes))) p.rest)

-- how many rows the forms so far take
abbrev pub held : List (List Form) → List Form → ℕ
held [] d = rows_in d
held (fs ∷ o) d = rows_in fs + 1 + held o d

-- one more item
rows_push : (fs : List Form) (f : Form) → rows_in (fs ++ f ∷ []) ≡ rows_in fs + rows_of f
rows_push [] f = omega arith
rows_push (g ∷ fs) f = omega (arith, rows_push fs f)

pub held_added : (o : List (List Form)) (d : List Form) (f : Form) → held (added f o) (lined f o d) ≡ held o d + rows_of f
held_added [] d f = rows_push d f
held_added (fs ∷ o) d f = omega (arith, rows_push fs f)
