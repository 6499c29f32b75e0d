-- Names looked up line by line, and in the lists of those that lines declare.
use Rattle.std.proofs.Common.{◌≡◌, ℕ, suc, ◌<◌, ◌≤◌, Bool, true, false, cond, ◌&&◌, List, [], ◌∷◌, map, length, position, Some, None, Option, refl, ap, ◌∙◌, arith}
use Rattle.std.specs.List.{filter, find as find_first}
use Rattle.text.specs.declared.row.Row.{Row}
use Rattle.language.specs.Basics.{Word, same, found, find, changed, in_front, those}
use Rattle.language.specs.Numbers.{word_value}
use Rattle.language.specs.Named.{Line}
use Rattle.language.specs.Lines.{sort, is, name, names, declared}
use Rattle.language.proofs.Tests.{position_more}
use Rattle.lookup.specs.Lookups.{has_name, opens_name, declares_constant}
use Rattle.language.specs.OnSheet.{word_at, digits_at, second_row, third_row, opener_at, line_of, line_at}
use Rattle.language.specs.Resolve.{constant, constants_in}
use Rattle.language.specs.declared.house.Opener.{Opener}
use Rattle.language.specs.declared.house.Opener.TheVariants.{Kind, Tact, Const, Cell, In, Out, Proc, State}

cond_same : {A : Type 0} (b : Bool) (x : A) → cond b x x ≡ x
cond_same true x = refl
cond_same false x = refl

-- The names that lines declare of a sort, line by line.
declared_more : (o : Opener) (l : Line) (ls : List Line) → declared o (l ∷ ls) ≡ in_front (cond (is o l) (name l) None) (declared o ls)
declared_more o l ls =
    elim (is o l) as (λ b. names (cond b (l ∷ those (is o) ls) (those (is o) ls)) ≡ in_front (cond b (name l) None) (declared o ls)) [ true ↦ refl | false ↦ refl ]

-- The name that the line at a row declares is its second item.
name_of : (o : Opener) (rows : List Row) (at : ℕ) (p : Option Opener)
    → cond (is o (line_of rows at p)) (name (line_of rows at p)) None ≡ cond (opens_name o p) (Some (word_at rows (second_row rows at))) None
name_of o rows at None = cond_same _ None
name_of o rows at (Some Kind) = cond_same _ None
name_of o rows at (Some Tact) = cond_same _ None
name_of o rows at (Some Const) = refl
name_of o rows at (Some Cell) = refl
name_of o rows at (Some In) = refl
name_of o rows at (Some Out) = refl
name_of o rows at (Some Proc) = refl
name_of o rows at (Some State) = refl

-- The name that the line at a row declares, of whatever sort.
pub name_is : (rows : List Row) (at : ℕ) (p : Option Opener)
    → name (line_of rows at p) ≡ cond (has_name (sort (line_of rows at p))) (Some (word_at rows (second_row rows at))) None
name_is rows at None = refl
name_is rows at (Some Kind) = refl
name_is rows at (Some Tact) = refl
name_is rows at (Some Const) = refl
name_is rows at (Some Cell) = refl
name_is rows at (Some In) = refl
name_is rows at (Some Out) = refl
name_is rows at (Some Proc) = refl
name_is rows at (Some State) = refl

-- The names that the lines at some rows declare of a sort are the second items of those that do.
pub declared_rows : (o : Opener) (rows : List Row) (ats : List ℕ)
    → declared o (map (line_at rows) ats) ≡ map (λ at. word_at rows (second_row rows at)) (filter (λ at. opens_name o (opener_at rows at)) ats)
unfolding line_at
declared_rows o rows [] = refl
declared_rows o rows (at ∷ ats) =
    rw (declared_more, name_of, declared_rows o rows ats)
    (elim (opens_name o (opener_at rows at))
    as (λ b. in_front (cond b (Some (word_at rows (second_row rows at))) None) (map (λ q. word_at rows (second_row rows q)) (filter (λ q. opens_name o (opener_at rows q)) ats))
    ≡ map (λ q. word_at rows (second_row rows q)) (cond b (at ∷ filter (λ q. opens_name o (opener_at rows q)) ats) (filter (λ q. opens_name o (opener_at rows q)) ats)))
    [ true ↦ refl | false ↦ refl ])

-- The place of a word among what f reads at some rows.
pub position_read : (f : ℕ → Word) (w : Word) (ats : List ℕ) → position (λ at. same (f at) w) ats ≡ found w (map f ats)
position_read f w [] = refl
position_read f w (at ∷ ats) =
    position_more (λ q. same (f q) w) at ats ∙ ap (λ o. cond (same (f at) w) (Some 0) (changed suc o)) (position_read f w ats)

-- The constant that the line at a row declares.
constant_of : (rows : List Row) (at : ℕ) (p : Option Opener)
    → constant (line_of rows at p) ≡ cond (is Const (line_of rows at p)) (Some (word_at rows (second_row rows at), word_value (digits_at rows (third_row rows at)))) None
constant_of rows at None = refl
constant_of rows at (Some Kind) = refl
constant_of rows at (Some Tact) = refl
constant_of rows at (Some Const) = refl
constant_of rows at (Some Cell) = refl
constant_of rows at (Some In) = refl
constant_of rows at (Some Out) = refl
constant_of rows at (Some Proc) = refl
constant_of rows at (Some State) = refl

find_step : {A : Type 0} (b : Bool) (v w : Word) (x : A) (rs : List (Word × A))
    → find (in_front (cond b (Some (v, x)) None) rs) w ≡ cond b (cond (same v w) (Some x) (find rs w)) (find rs w)
find_step true v w x rs = refl
find_step false v w x rs = refl

-- The constant of a name is that of the first row at which a line declares it.
pub find_rows : (w : Word) (rows : List Row) (ats : List ℕ)
    → find (constants_in (map (line_at rows) ats)) w
    ≡ changed (λ at. word_value (digits_at rows (third_row rows at))) (find_first (declares_constant rows w) ats)
unfolding line_at
find_rows w rows [] = refl
find_rows w rows (at ∷ ats) =
    rw (constant_of, find_step, find_rows w rows ats)
    (elim (is Const (line_of rows at (opener_at rows at)))
    as (λ b. cond b (cond (same (word_at rows (second_row rows at)) w) (Some (word_value (digits_at rows (third_row rows at)))) (changed (λ q. word_value (digits_at rows (third_row rows q))) (find_first (declares_constant rows w) ats))) (changed (λ q. word_value (digits_at rows (third_row rows q))) (find_first (declares_constant rows w) ats))
    ≡ changed (λ q. word_value (digits_at rows (third_row rows q))) (cond (b && same (word_at rows (second_row rows at)) w) (Some at) (find_first (declares_constant rows w) ats))) [
      | true ↦ elim (same (word_at rows (second_row rows at)) w)
          as (λ c. cond c (Some (word_value (digits_at rows (third_row rows at)))) (changed (λ q. word_value (digits_at rows (third_row rows q))) (find_first (declares_constant rows w) ats))
          ≡ changed (λ q. word_value (digits_at rows (third_row rows q))) (cond c (Some at) (find_first (declares_constant rows w) ats)))
          [ true ↦ refl | false ↦ refl ]
      | false ↦ refl
    ])

-- The place of a word that is among others is below their number.
pub found_below : (w : Word) (ws : List Word) (n : ℕ) → found w ws ≡ Some n → n < length ws
found_below w [] n e = let z : ◌≡◌ {A = ℕ} 0 1 = cc in omega arith
found_below w (v ∷ vs) n e =
    elim (same v w) as (λ b. cond b (Some 0) (changed suc (found w vs)) ≡ Some n → n < suc (length vs)) [
      | true ↦ λ f. let z : 0 ≡ n = cc in omega arith
      | false ↦ later (found w vs) (found_below w vs)
    ] e
  where
    later : (o : Option ℕ) → ((k : ℕ) → o ≡ Some k → k < length vs) → changed suc o ≡ Some n → n < suc (length vs)
    later None h f = let z : ◌≡◌ {A = ℕ} 0 1 = cc in omega arith
    later (Some k) h f = let z : suc k ≡ n = cc in omega (arith, h k refl)

one_more : (o : Option Word) (ws : List Word) (n : ℕ) → length ws ≤ n → length (in_front o ws) ≤ suc n
one_more None ws n h = omega arith
one_more (Some w) ws n h = omega arith

-- Lines declare no more names of a sort than there are lines.
pub declared_below : (o : Opener) (ls : List Line) → length (declared o ls) ≤ length ls
declared_below o [] = omega arith
declared_below o (l ∷ ls) = rw declared_more (one_more (cond (is o l) (name l) None) (declared o ls) (length ls) (declared_below o ls))
