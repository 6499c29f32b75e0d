-- The reader and the sheet together, item by item.
use Rattle.std.proofs.Common.{◌≡◌, ℕ, suc, ◌+◌, ◌-◌, ◌<◌, ◌≤◌, leb, List, [], ◌∷◌, length, take, set, Ok, Err, sym, refl, ap, ◌∙◌, subst, arith}
use mathlib.Core.Path.{subst₃}
use Rattle.std.proofs.lemmas.List.{length-take-le}
use Rattle.std.proofs.lemmas.Bool.{cond-true, cond-false, lt-leb, le-leb}
use Rattle.text.specs.Form.{Form, word, number, form, pack}
use Rattle.text.specs.Tokens.{Tok, left, right, name, numeral, Toks, tok, end, toks, spot, line}
use Rattle.text.specs.Reading.{Read, forms, parse, added, lined, read_text}
use Rattle.text.specs.Machine.{tok_of}
use Rattle.text.specs.Sheet.{rows_of, rows_in, forms_at}
use Rattle.text.specs.Page.{laid_out, Holds}
use Rattle.text.specs.Filling.{most_items, weight, Adds, Puts}
use Rattle.text.specs.declared.reader.Item.{Item}
use Rattle.text.specs.declared.reader.Item.TheVariants.{Open, Close, Word as WordItem, Number as NumberItem}
use Rattle.text.specs.declared.read.Page.{Page}
use Rattle.text.specs.declared.read.ReadRefusal.TheVariants.{Short}
use Rattle.text.specs.declared.row.Row.{Row}
use Rattle.text.specs.declared.row.Row.TheVariants.{Word, Number, Items}
use Rattle.text.specs.declared.filler.Filler.{Filler}
use Rattle.text.proofs.Balance.{Balanced, balanced, total, total_few}
use Rattle.text.proofs.Rows.{build, Whole, Part, part_count, part_open, part_add, part_close, part_frame, part_top, held, held_added}
use Rattle.text.proofs.Sheets.{sheet_holds}
use Rattle.text.proofs.Laws.{read_back}

-- o and d are the open forms and the lines' forms so far, and ts the tokens that are left
pub record Along (x : Read) (o : List (List Form)) (d : List Form) (ts : Toks) (rows : List Row) (f : Filler) : Type 0 where
  pub reads : x ≡ parse o d ts
  pub level : Balanced (length o) ts
  pub few : f.used + total ts ≤ most_items
  pub counts : f.used ≡ held o d
  pub part : f.used ≤ length rows → Part o d (take f.used rows) f.top f.count

-- some open forms and lines' forms
pub record Going (x : Read) (ts : Toks) (rows : List Row) (f : Filler) : Type 0 where
  pub opens : List (List Form)
  pub done : List Form
  pub along : Along x opens done ts rows f

-- what is put, where there is room
abbrev Put : Item → List Row → List Row → Filler → Filler → Type 0
Put i rows rows' f g = g.used ≤ length rows → f.count < most_items → Puts i (take f.used rows) f (take g.used rows') g

-- the same part, under equal numbers
moved : (o : List (List Form)) (d : List Form) {xs ys : List Row} {t u c e : ℕ} → ys ≡ xs → u ≡ t → e ≡ c → Part o d xs t c → Part o d ys u e
moved o d p q r part = subst₃ (λ xs t c. Part o d xs t c) (sym p) (sym q) (sym r) part

-- the number of items stays small
small : (x : Read) (o : List (List Form)) (d : List Form) (t : Tok) (ts : Toks) (rows : List Row) (f : Filler) (a : Along x o d (tok t ts) rows f) → f.used ≤ length rows → f.count < most_items
small x o d t ts rows f a h =
    omega (arith, part_count o d (take f.used rows) f.top f.count (a.part h), a.few, length-take-le f.used rows h)

-- a form's end leaves one open form less
added_length : (o : List (List Form)) (k : Form) → suc (length o) - 1 ≡ length (added k o)
added_length [] k = refl
added_length (fs ∷ o) k = omega arith

module _ (x : Read) (d : List Form) (ts : Toks) (rows rows' : List Row) (f g : Filler) (same : length rows' ≡ length rows) where
  -- a form's beginning
  opened : (o : List (List Form)) → Along x o d (tok left ts) rows f → g.used ≡ f.used + 1 → Put Open rows rows' f g → Going x ts rows' g
  opened o a u put = record {
    opens = [] ∷ o;
    done = d;
    along = record {
      reads = a.reads;
      level = subst (λ k. Balanced k ts) (omega arith) a.level;
      few = omega (arith, a.few);
      counts = omega (arith, a.counts);
      part = λ h.
          let l : f.used ≤ length rows = omega arith in
          let q = put (omega arith) (small x o d left ts rows f a l) in
          moved ([] ∷ o) d q.0 (q.1 ∙ sym (length-take-le f.used rows l)) q.2 (part_open o d (take f.used rows) f.top f.count (a.part l));
    };
  }

  -- a word or a number
  leaf : (t : Tok) (row : Row) (k : Form) → build (row ∷ []) ≡ k ∷ [] → Whole (row ∷ []) → rows_of k ≡ 1 → (o : List (List Form)) → x ≡ parse (added k o) d ts → (0 < length o) × Balanced (length o) ts → Along x o d (tok t ts) rows f → g.used ≡ f.used + 1 → (g.used ≤ length rows → f.count < most_items → Adds row (take f.used rows) f (take g.used rows') g) → Going x ts rows' g
  leaf t row k b w one [] reads level a u put = absurd (omega (arith, level.0))
  leaf t row k b w one (fs ∷ o) reads level a u put = record {
    opens = added k (fs ∷ o);
    done = d;
    along = record {
      reads = reads;
      level = level.1;
      few = omega (arith, a.few);
      counts = omega (arith, a.counts, held_added (fs ∷ o) d k, one);
      part = λ h.
          let l : f.used ≤ length rows = omega arith in
          let q = put (omega arith) (small x (fs ∷ o) d t ts rows f a l) in
          moved (added k (fs ∷ o)) d q.0 q.1 q.2 (part_add (fs ∷ o) d (take f.used rows) (row ∷ []) f.top f.count k b w (a.part l));
    };
  }

  -- a form's end
  closed : (o : List (List Form)) → Along x o d (tok right ts) rows f → g.used ≡ f.used + 0 → Put Close rows rows' f g → Going x ts rows' g
  closed [] a u put = absurd (omega (arith, a.level.0))
  closed (fs ∷ o) a u put =
      let k = form (pack fs) in
      record {
        opens = added k o;
        done = lined k o d;
        along = record {
          reads = a.reads;
          level = subst (λ j. Balanced j ts) (added_length o k) a.level.1;
          few = omega (arith, a.few);
          counts = omega (arith, a.counts, held_added o d k);
          part = λ h.
              let l : f.used ≤ length rows = omega arith in
              let xs = take f.used rows in
              let n = length-take-le f.used rows l in
              let p = a.part l in
              let top = part_top fs o d xs f.top f.count p in
              let few : p.items < most_items = omega (arith, part_count o d p.before p.outer p.items p.rest, p.place, a.few) in
              let q = put (omega arith) (small x (fs ∷ o) d right ts rows f a l) p.items p.outer (Items 0 0) few (omega arith) (part_frame fs o d xs f.top f.count p (Items 0 0)) in
              moved (added k o) (lined k o d) (q.0 ∙ ap (λ m. set xs f.top (Items f.count (m - f.top - 1))) (sym n)) q.1 q.2 (part_close fs o d xs f.top f.count p);
        };
      }

-- an item more
pub going_item : (x : Read) (ts us : Toks) (rows rows' : List Row) (f g : Filler) (i : Item) → length rows' ≡ length rows → Going x us rows f → us ≡ tok (tok_of i) ts → g.used ≡ f.used + weight i → Put i rows rows' f g → Going x ts rows' g
going_item x ts us rows rows' f g i same going e u put =
    by i (subst (λ y. Along x going.opens going.done y rows f) e going.along) u put
  where
    by : (j : Item) → Along x going.opens going.done (tok (tok_of j) ts) rows f → g.used ≡ f.used + weight j → Put j rows rows' f g → Going x ts rows' g
    by Open a v p = opened x going.done ts rows rows' f g same going.opens a v p
    by Close a v p = closed x going.done ts rows rows' f g same going.opens a v p
    by (WordItem w n) a v p = leaf x going.done ts rows rows' f g same (name w.now) (Word w) (word w.now) refl tt refl going.opens a.reads a.level a v p
    by (NumberItem w n) a v p = leaf x going.done ts rows rows' f g same (numeral w.now) (Number w) (number w.now) refl tt refl going.opens a.reads a.level a v p

-- at the start nothing is read
pub going_start : (t : List ℕ) (us : Toks) (rows : List Row) (f : Filler) → us ≡ toks (spot line 0 1) t → length t ≤ 32768 → f.used ≡ 0 → f.count ≡ 0 → Going (read_text t) us rows f
going_start t us rows f e h u c = record {
  opens = [];
  done = [];
  along = record {
    reads = ap (parse [] []) (sym e);
    level = subst (Balanced 0) (sym e) (balanced t);
    few = omega (arith, ap total e, total_few (spot line 0 1) t);
    counts = u;
    part = λ _. moved [] [] {t = f.top} (ap (λ n. take n rows) u) refl c (record { is = refl; whole = tt; many = refl });
  };
}

-- at the end
pub record Ended (x : Read) (rows : List Row) (f : Filler) : Type 0 where
  pub done : List Form
  pub reads : x ≡ forms done
  pub counts : f.used ≡ rows_in done
  pub part : f.used ≤ length rows → Part [] done (take f.used rows) f.top f.count

-- where no token is left no form is open
pub going_end : (x : Read) (us : Toks) (rows : List Row) (f : Filler) → Going x us rows f → us ≡ end → Ended x rows f
going_end x us rows f going e = by going.opens (subst (λ y. Along x going.opens going.done y rows f) e going.along)
  where
    by : (o : List (List Form)) → Along x o going.done end rows f → Ended x rows f
    by [] a = record { done = going.done; reads = a.reads; counts = a.counts; part = a.part }
    by (fs ∷ o) a = absurd (omega (arith, a.level))

-- the answer where the sheet is too short
pub short_answer : (x : Read) (rows : List Row) (f : Filler) (len : ℕ) → Ended x rows f → length rows ≡ len → length rows < f.used → Err Short ≡ laid_out x len
short_answer x rows f len h e l =
    sym (ap (λ y. laid_out y len) h.reads ∙ cond-false (leb (rows_in h.done) len) (Ok _) (Err Short) (lt-leb (rows_in h.done) len (omega (arith, h.counts))))

-- where the sheet has the rows that are wanted, it then holds the forms
abbrev page : Filler → Page
page f = record { rows = f.used; lines = f.count }

pub good_sheet : (t : List ℕ) (rows : List Row) (f : Filler) → Ended (read_text t) rows f → f.used ≤ length rows → Holds (read_text t) (Ok (page f)) rows
good_sheet t rows f h l =
    let p = h.part l in
    let stands = sheet_holds rows f.used h.done l p.whole p.is (read_back t h.done h.reads).0 in
    h.reads ∙ ap forms (sym stands) ∙ ap (λ m. forms (forms_at rows 0 m)) (sym p.many)

-- the answer then, and what the sheet holds
pub good_answer : (t : List ℕ) (rows : List Row) (f : Filler) (len : ℕ) → Ended (read_text t) rows f → length rows ≡ len → f.used ≤ length rows → (Ok (page f) ≡ laid_out (read_text t) len) × Holds (read_text t) (Ok (page f)) rows
good_answer t rows f len h e l =
    let p = h.part l in (
      (λ i. Ok (record { rows = h.counts i; lines = p.many i })) ∙ sym (ap (λ y. laid_out y len) h.reads ∙ cond-true (leb (rows_in h.done) len) (Ok _) (Err Short) (le-leb (rows_in h.done) len (omega (arith, h.counts)))),
      good_sheet t rows f h l,
    )
