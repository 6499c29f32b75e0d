-- Rows read one after another.
use Rattle.std.proofs.Common.{◌≡◌, ℕ, ◌-◌, ◌<◌, ◌≤◌, true, false, eqb, List, [], ◌∷◌, ◌++◌, map, length, take, drop, ℤ, Ok, Err, codes, sym, refl, ap, ◌∙◌, subst, append_assoc, arith, length-append, w32, SFits}
use Rattle.std.specs.List.{AllByRecursion}
use Rattle.std.proofs.ByRecursion.{All-push}
use Rattle.std.proofs.lemmas.List.{append-nil, flat_map_more, map_push, nil_from_length, take-append-drop, take_rest}
use Rattle.std.proofs.lemmas.Bool.{eqb-false, eqb-true}
use Rattle.numerals.specs.Print.{shown_list}
use Rattle.lists.specs.declared.ListError.{ListError}
use Rattle.lists.specs.declared.ListError.TheVariants.{NotAList, NoMemory}
use Rattle.lists.specs.Read.{ListRead, Shown}
use Rattle.rows.specs.Rows.{RowFound, RowOf, RowsFound, WholeRows, shown_row_line, shown_rows}
use Rattle.rows.proofs.Prints.{print_tells}

-- A list was read to where nothing was before: its values are there now, and with what follows it makes up the text.
module _ (head text : List ℕ) (before vs : List ℤ) (n : ℕ) (read : ListRead head text before (Ok n) vs) (empty : before ≡ []) where
  shown : Shown head text vs n
  shown = subst (λ ws. Shown head text ws n) (sym (read.2 ∙ ap (λ x. x ++ read.0) empty)) read.1

  pub read_fit : AllByRecursion (SFits w32) vs
  read_fit = shown.fit

  pub read_whole : text ≡ shown_list head vs ++ take (length text - n) (drop n text)
  read_whole = sym (take-append-drop n text) ∙ rw (shown.print, take_rest text n)

-- A list of another length is no row of the width.
pub other_width : (width : ℕ) (text : List ℕ) (before vs : List ℤ) (n : ℕ) → ListRead (codes "row") text before (Ok n) vs → before ≡ [] → (length vs ≡ width → ⊥) → (row : List ℤ) (rest : List ℕ) → RowOf width row → text ≡ shown_row_line row ++ rest → ⊥
other_width width text before vs n read empty other row rest of_width e =
    let whole = read_whole (codes "row") text before vs n read empty in
    other (ap length (print_tells (codes "row") vs row (take (length text - n) (drop n text)) rest (read_fit (codes "row") text before vs n read empty) of_width.1 (sym whole ∙ e)).0 ∙ of_width.0)

-- There is no row where there is no list.
pub row_refused : (width : ℕ) (text : List ℕ) (before after : List ℤ) (e : ListError) → ListRead (codes "row") text before (Err e) after → RowFound width text (Err e)
row_refused width text before after NotAList none = λ row rest of_width. none row rest of_width.1
row_refused width text before after NoMemory none = tt

-- No rows of the width make up the text.
abbrev pub NoRows : ℕ → List ℕ → Type 0
NoRows width text = (rows : List (List ℤ)) → AllByRecursion (RowOf width) rows → text ≡ shown_rows rows → ⊥

-- These rows were read from a text; where no rows make up what is left, none make up the text.
pub record PassedRows (width : ℕ) (text left : List ℕ) (rows : List (List ℤ)) : Type 0 where
  pub each : AllByRecursion (RowOf width) rows
  pub front : text ≡ shown_rows rows ++ left
  pub decides : NoRows width left → NoRows width text

pub passed_none : (width : ℕ) (text : List ℕ) → PassedRows width text text []
passed_none width text = record { each = tt; front = refl; decides = λ none. none }

-- Where a row comes first, what follows it decides.
row_decides : (width : ℕ) (left rest : List ℕ) (row : List ℤ) → RowOf width row → left ≡ shown_row_line row ++ rest → NoRows width rest → NoRows width left
row_decides width left rest row of_width e none [] each f = absurd (let same = sym e ∙ f in let z : ◌≡◌ {A = ℕ} 0 1 = cc in omega arith)
row_decides width left rest row of_width e none (r ∷ rows) each f = none rows each.1 (print_tells (codes "row") row r rest (shown_rows rows) of_width.1 each.0.1 (sym e ∙ f)).1

pub passed_more : {X : Type 0} (items : X → List ℤ) (width : ℕ) (text left rest : List ℕ) (rows more : List X) (row : X) → PassedRows width text left (map items rows) → RowOf width (items row) × (left ≡ shown_row_line (items row) ++ rest) → more ≡ rows ++ row ∷ [] → PassedRows width text rest (map items more)
passed_more items width text left rest rows more row p found pushed =
    let all : map items more ≡ map items rows ++ items row ∷ [] = ap (map items) pushed ∙ map_push items rows row in
    let shown = shown_rows (map items rows) in
    record {
      each = rw all (All-push (RowOf width) (map items rows) (items row) p.each found.0);
      front = p.front ∙ ap (λ x. shown ++ x) found.1 ∙ sym (append_assoc shown (shown_row_line (items row)) rest) ∙ ap (λ x. x ++ rest) (flat_map_more shown_row_line [] (map items rows) (items row) ∙ ap shown_rows (sym all));
      decides = λ none. p.decides (row_decides width left rest (items row) found.0 found.1 none);
    }

-- A line of a row has bytes.
pub row_shorter : (left rest : List ℕ) (row : List ℤ) → left ≡ shown_row_line row ++ rest → length rest < length left
row_shorter left rest row e = omega (arith, ap length e, length-append (shown_row_line row) rest)

-- All rows were read.
pub passed_all : (width : ℕ) (text left : List ℕ) (rows : List (List ℤ)) → 1 ≤ width → PassedRows width text left rows → true ≡ eqb (length left) 0 → WholeRows width text rows
passed_all width text left rows some p none = record {
  some = some;
  each = p.each;
  print = p.front ∙ ap (λ x. shown_rows rows ++ x) (nil_from_length left (eqb-true (length left) 0 (sym none))) ∙ append-nil (shown_rows rows);
}

-- Something is left that begins with no row.
pub passed_no_row : (width : ℕ) (text left : List ℕ) (rows : List (List ℤ)) → PassedRows width text left rows → false ≡ eqb (length left) 0 → ((row : List ℤ) (rest : List ℕ) → RowOf width row → left ≡ shown_row_line row ++ rest → ⊥) → (all : List (List ℤ)) → WholeRows width text all → ⊥
passed_no_row width text left rows p some none all whole = p.decides no_left all whole.each whole.print where
  no_left : NoRows width left
  no_left [] each e = eqb-false (length left) 0 (sym some) (ap length e)
  no_left (r ∷ rs) each e = none r (shown_rows rs) each.0 e

-- So where the row that comes next is refused, the rows are.
pub rows_refused : (width : ℕ) (text left : List ℕ) (rows : List (List ℤ)) (e : ListError) → PassedRows width text left rows → false ≡ eqb (length left) 0 → RowFound width left (Err e) → RowsFound width text (Err e)
rows_refused width text left rows NotAList p some none = passed_no_row width text left rows p some none
rows_refused width text left rows NoMemory p some none = tt
