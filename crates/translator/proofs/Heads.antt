-- What the head says of lines, line by line.
use Rattle.std.proofs.Common.{◌≡◌, ℕ, suc, ◌≤◌, Bool, true, false, cond, List, [], ◌∷◌, length, map, ℤ, pos, Some, None, Option, sym, refl, ap, ◌∙◌, arith, eqb-true}
use Rattle.std.specs.List.{filter, find}
use Rattle.std.specs.Option.{option_map, option_map_or}
use borrow.Author.Tests.{clash}
use Rattle.text.specs.declared.row.Row.{Row}
use Rattle.language.specs.Basics.{Word, count, in_front, those, collect}
use Rattle.language.specs.Named.{Line, kind, tact, const, cell, input, output, process, state}
use Rattle.language.specs.Numbers.{word_value}
use Rattle.language.specs.Lines.{is, sort, rank, name, declared}
use Rattle.language.specs.OnSheet.{line_of, line_at, opener_at, digits_at, second_row}
use Rattle.language.specs.Words.{kind_number, period}
use Rattle.language.specs.declared.house.Opener.{Opener}
use Rattle.language.specs.declared.house.Opener.TheVariants.{Kind, Tact, Const, Cell, In, Out, Proc, State}
use Rattle.translator.specs.Front.{kind_at, kind_after}

-- A line that declares a name takes one place among the names of its sort.
front_length : (l : Line) (ws : List Word) → 3 ≤ rank (sort l) → length (in_front (name l) ws) ≡ suc (length ws)
front_length (kind k) ws h = absurd (omega arith)
front_length (tact n) ws h = absurd (omega arith)
front_length (const w n) ws h = refl
front_length (cell w) ws h = refl
front_length (input w) ws h = refl
front_length (output w) ws h = refl
front_length (process w) ws h = refl
front_length (state w b) ws h = refl

counted_by : (o : Opener) (l : Line) (ls : List Line) (b : Bool) → (b ≡ true → 3 ≤ rank (sort l)) → length (declared o ls) ≡ count (is o) ls
    → length (collect name (cond b (l ∷ those (is o) ls) (those (is o) ls))) ≡ cond b (suc (count (is o) ls)) (count (is o) ls)
counted_by o l ls true h e = let k = front_length l (declared o ls) (h refl) in omega arith
counted_by o l ls false h e = e

pub declared_count : (o : Opener) (ls : List Line) → 3 ≤ rank o → length (declared o ls) ≡ count (is o) ls
declared_count o [] h = refl
declared_count o (l ∷ ls) h = counted_by o l ls (is o l) (λ e. let k = eqb-true (rank o) (rank (sort l)) e in omega arith) (declared_count o ls h)

-- The kind, by the first line.
kind_first : (rows : List Row) (at : ℕ) (o : Option Opener) (ls : List Line) → true ≡ is Kind (line_of rows at o) → kind_number (line_of rows at o ∷ ls) ≡ kind_after rows at o
kind_first rows at None ls e = refl
kind_first rows at (Some Kind) ls e = refl
kind_first rows at (Some Tact) ls e = absurd (clash (sym e))
kind_first rows at (Some Const) ls e = absurd (clash (sym e))
kind_first rows at (Some Cell) ls e = absurd (clash (sym e))
kind_first rows at (Some In) ls e = absurd (clash (sym e))
kind_first rows at (Some Out) ls e = absurd (clash (sym e))
kind_first rows at (Some Proc) ls e = absurd (clash (sym e))
kind_first rows at (Some State) ls e = absurd (clash (sym e))

kind_later : (l : Line) (ls : List Line) → false ≡ is Kind l → kind_number (l ∷ ls) ≡ kind_number ls
kind_later (kind k) ls e = absurd (clash e)
kind_later (tact n) ls e = refl
kind_later (const w n) ls e = refl
kind_later (cell w) ls e = refl
kind_later (input w) ls e = refl
kind_later (output w) ls e = refl
kind_later (process w) ls e = refl
kind_later (state w b) ls e = refl

kind_here : (rows : List Row) (at : ℕ) (ls : List Line) → true ≡ is Kind (line_at rows at) → kind_number (line_at rows at ∷ ls) ≡ kind_at rows at
unfolding line_at
kind_here rows at ls e = kind_first rows at (opener_at rows at) ls e

-- The period, by the first line.
period_first : (rows : List Row) (at : ℕ) (o : Option Opener) (ls : List Line) → true ≡ is Tact (line_of rows at o) → period (line_of rows at o ∷ ls) ≡ word_value (digits_at rows (second_row rows at))
period_first rows at None ls e = absurd (clash (sym e))
period_first rows at (Some Kind) ls e = absurd (clash (sym e))
period_first rows at (Some Tact) ls e = refl
period_first rows at (Some Const) ls e = absurd (clash (sym e))
period_first rows at (Some Cell) ls e = absurd (clash (sym e))
period_first rows at (Some In) ls e = absurd (clash (sym e))
period_first rows at (Some Out) ls e = absurd (clash (sym e))
period_first rows at (Some Proc) ls e = absurd (clash (sym e))
period_first rows at (Some State) ls e = absurd (clash (sym e))

period_later : (l : Line) (ls : List Line) → false ≡ is Tact l → period (l ∷ ls) ≡ period ls
period_later (kind k) ls e = refl
period_later (tact n) ls e = absurd (clash e)
period_later (const w n) ls e = refl
period_later (cell w) ls e = refl
period_later (input w) ls e = refl
period_later (output w) ls e = refl
period_later (process w) ls e = refl
period_later (state w b) ls e = refl

period_here : (rows : List Row) (at : ℕ) (ls : List Line) → true ≡ is Tact (line_at rows at) → period (line_at rows at ∷ ls) ≡ word_value (digits_at rows (second_row rows at))
unfolding line_at
period_here rows at ls e = period_first rows at (opener_at rows at) ls e

-- What the first row that passes a test says of all, 0 where none does.
first_step : (p : ℕ → Bool) (f : ℕ → ℤ) (g : List ℕ → ℤ) → ((at : ℕ) (ats : List ℕ) → true ≡ p at → g (at ∷ ats) ≡ f at) → ((at : ℕ) (ats : List ℕ) → false ≡ p at → g (at ∷ ats) ≡ g ats)
    → (at : ℕ) (ats : List ℕ) (b : Bool) → b ≡ p at → g ats ≡ option_map_or f (find p ats) (pos 0) → g (at ∷ ats) ≡ option_map_or f (cond b (Some at) (find p ats)) (pos 0)
first_step p f g here later at ats true e h = here at ats e
first_step p f g here later at ats false e h = later at ats e ∙ h

first_says : (p : ℕ → Bool) (f : ℕ → ℤ) (g : List ℕ → ℤ) → g [] ≡ pos 0 → ((at : ℕ) (ats : List ℕ) → true ≡ p at → g (at ∷ ats) ≡ f at) → ((at : ℕ) (ats : List ℕ) → false ≡ p at → g (at ∷ ats) ≡ g ats)
    → (ats : List ℕ) → g ats ≡ option_map_or f (find p ats) (pos 0)
first_says p f g none here later [] = none
first_says p f g none here later (at ∷ ats) = first_step p f g here later at ats (p at) refl (first_says p f g none here later ats)

pub kind_is : (rows : List Row) (ats : List ℕ) → kind_number (map (line_at rows) ats) ≡ option_map_or (kind_at rows) (find (λ at. is Kind (line_at rows at)) ats) (pos 0)
kind_is rows =
    first_says (λ at. is Kind (line_at rows at)) (kind_at rows) (λ ats. kind_number (map (line_at rows) ats)) refl
    (λ at ats e. kind_here rows at (map (line_at rows) ats) e) (λ at ats e. kind_later (line_at rows at) (map (line_at rows) ats) e)

pub period_is : (rows : List Row) (ats : List ℕ)
    → period (map (line_at rows) ats) ≡ option_map_or (λ at. word_value (digits_at rows (second_row rows at))) (find (λ at. is Tact (line_at rows at)) ats) (pos 0)
period_is rows =
    first_says (λ at. is Tact (line_at rows at)) (λ at. word_value (digits_at rows (second_row rows at))) (λ ats. period (map (line_at rows) ats)) refl
    (λ at ats e. period_here rows at (map (line_at rows) ats) e) (λ at ats e. period_later (line_at rows at) (map (line_at rows) ats) e)

-- How many rows are read as what passes a test.
pub count_rows : {A : Type 0} (p : A → Bool) (f : ℕ → A) (ats : List ℕ) → length (filter (λ at. p (f at)) ats) ≡ count p (map f ats)
count_rows p f [] = refl
count_rows p f (at ∷ ats) = let h = count_rows p f ats in elim (p (f at)) as (λ b. length (cond b (at ∷ filter (λ at. p (f at)) ats) (filter (λ at. p (f at)) ats)) ≡ cond b (suc (count p (map f ats))) (count p (map f ats))) [ true ↦ ap suc h | false ↦ h ]

pub count_few : {A : Type 0} (p : A → Bool) (xs : List A) → count p xs ≤ length xs
count_few p [] = omega arith
count_few p (x ∷ xs) = let h = count_few p xs in elim (p x) as (λ b. cond b (suc (count p xs)) (count p xs) ≤ suc (length xs)) [ true ↦ omega arith | false ↦ omega arith ]

-- A place as it is.
pub as_it_is : (o : Option ℕ) → o ≡ option_map (λ at. at) o
as_it_is None = refl
as_it_is (Some at) = refl
