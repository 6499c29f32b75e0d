-- A text that was read has no more lines than bytes.
use Rattle.std.proofs.Common.{◌≡◌, ℕ, ◌≤◌, Bool, true, false, cond, ◌||◌, eqb, ltb, leb, List, [], ◌∷◌, length, Ok, Err, Result, ap, arith, length-append, ltb-false}
use Rattle.std.proofs.lemmas.Bool.{or_parts}
use Rattle.text.specs.Form.{Form, Forms, word, number, form, none, more}
use Rattle.text.specs.Page.{page_of, laid_out}
use Rattle.text.specs.Print.{show, shows, rests, lines}
use Rattle.text.specs.Reading.{Read, forms, wrong, read_text}
use Rattle.text.specs.Sheet.{rows_in}
use Rattle.text.specs.declared.read.Page.{Page}
use Rattle.text.specs.declared.read.ReadRefusal.{ReadRefusal}
use Rattle.text.specs.declared.read.ReadRefusal.TheVariants.{Size, Short}
use Rattle.text.proofs.Laws.{read_back}

mutual
  -- What is printed stands in front of the rest.
  show_longer : (f : Form) (x : List ℕ) → length x ≤ length (show f x)
  show_longer (word w) x = omega (arith, length-append w x)
  show_longer (number w) x = omega (arith, length-append w x)
  show_longer (form fs) x = omega (arith, shows_longer fs (41 ∷ x))

  shows_longer : (fs : Forms) (x : List ℕ) → length x ≤ length (shows fs x)
  shows_longer none x = omega arith
  shows_longer (more f fs) x = omega (arith, show_longer f (rests fs x), rests_longer fs x)

  rests_longer : (fs : Forms) (x : List ℕ) → length x ≤ length (rests fs x)
  rests_longer none x = omega arith
  rests_longer (more f fs) x = omega (arith, show_longer f (rests fs x), rests_longer fs x)

-- Each line has its line feed.
lines_longer : (fs : List Form) (x : List ℕ) → length fs ≤ length (lines fs x)
lines_longer [] x = omega arith
lines_longer (f ∷ fs) x = omega (arith, show_longer f (10 ∷ lines fs x), lines_longer fs x)

-- A page's lines are those of the forms that were read.
laid_lines : (f : Bool) (page p : Page) → ◌≡◌ {A = Result Page ReadRefusal} (Ok p) (cond f (Ok page) (Err Short)) → p ≡ page
laid_lines true page p h = cc
laid_lines false page p h = let z : ◌≡◌ {A = ℕ} 0 1 = cc in absurd (omega arith)

read_lines : (text : List ℕ) (b : Bool) (x : Read) (len : ℕ) (p : Page) → ◌≡◌ {A = Result Page ReadRefusal} (Ok p) (cond b (Err Size) (laid_out x len)) → read_text text ≡ x → (b ≡ false → length text ≤ 32768) → p.lines ≤ 32768
read_lines text true x len p h e few = let z : ◌≡◌ {A = ℕ} 0 1 = cc in absurd (omega arith)
read_lines text false (wrong n) len p h e few = let z : ◌≡◌ {A = ℕ} 0 1 = cc in absurd (omega arith)
read_lines text false (forms fs) len p h e few =
    let same = ap (λ (q : Page). q.lines) (laid_lines (leb (rows_in fs) len) (record { rows = rows_in fs; lines = length fs }) p h) in
    let print = ap length (read_back text fs e).1 in
    omega (arith, same, print, lines_longer fs [], few mathlib.Core.Path.refl)

pub few_lines : (text : List ℕ) (len : ℕ) (p : Page) → Ok p ≡ page_of text len → p.lines ≤ 32768
few_lines text len p h =
    read_lines text (eqb (length text) 0 || ltb 32768 (length text)) (read_text text) len p h mathlib.Core.Path.refl
    (λ e. ltb-false 32768 (length text) (or_parts (eqb (length text) 0) (ltb 32768 (length text)) e).1)
