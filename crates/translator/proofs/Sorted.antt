-- What stands in a line, told by its sort.
use Rattle.std.proofs.Common.{◌≡◌, ℕ, zero, suc, ◌-◌, Bool, true, false, cond, List, [], ◌∷◌, length, Some, None, Option, sym, refl, ap}
use borrow.Author.Tests.{clash}
use Rattle.text.specs.Sheet.{next_row}
use Rattle.text.specs.declared.row.Row.{Row}
use Rattle.language.specs.Named.{pass}
use Rattle.language.specs.Lines.{is, body, states_behind}
use Rattle.language.specs.OnSheet.{line_of, line_at, lines_at, opener_at, body_at, act_at, acts_of, third_row, count_at}
use Rattle.language.specs.declared.house.Opener.{Opener}
use Rattle.language.specs.declared.house.Opener.TheVariants.{Kind, Tact, Const, Cell, In, Out, Proc, State}

body_of : (rows : List Row) (at : ℕ) (o : Option Opener) → is State (line_of rows at o) ≡ true → body (line_of rows at o) ≡ body_at rows at
body_of rows at None e = absurd (clash e)
body_of rows at (Some Kind) e = absurd (clash e)
body_of rows at (Some Tact) e = absurd (clash e)
body_of rows at (Some Const) e = absurd (clash e)
body_of rows at (Some Cell) e = absurd (clash e)
body_of rows at (Some In) e = absurd (clash e)
body_of rows at (Some Out) e = absurd (clash e)
body_of rows at (Some Proc) e = absurd (clash e)
body_of rows at (Some State) e = refl

pub body_there : (rows : List Row) (at : ℕ) → is State (line_at rows at) ≡ true → body (line_at rows at) ≡ body_at rows at
unfolding line_at
body_there rows at e = body_of rows at (opener_at rows at) e

pub body_acts : (rows : List Row) (at from items k d : ℕ) → true ≡ is State (line_at rows at) → from ≡ third_row rows at → items ≡ count_at rows at → k ≡ items - 2 → d ≡ 12
    → body (line_at rows at) ≡ acts_of (act_at d rows) rows from k
body_acts rows at from items k d e f g h deep = let b = body_there rows at (sym e) in rw (deep, h, g, f) b

no_body_of : (rows : List Row) (at : ℕ) (o : Option Opener) → is State (line_of rows at o) ≡ false → body (line_of rows at o) ≡ pass
no_body_of rows at None e = refl
no_body_of rows at (Some Kind) e = refl
no_body_of rows at (Some Tact) e = refl
no_body_of rows at (Some Const) e = refl
no_body_of rows at (Some Cell) e = refl
no_body_of rows at (Some In) e = refl
no_body_of rows at (Some Out) e = refl
no_body_of rows at (Some Proc) e = refl
no_body_of rows at (Some State) e = absurd (clash (sym e))

pub no_body : (rows : List Row) (at : ℕ) → is State (line_at rows at) ≡ false → body (line_at rows at) ≡ pass
unfolding line_at
no_body rows at e = no_body_of rows at (opener_at rows at) e

states_are_by : (rows : List Row) (p m : ℕ) (b : Bool) → lines_at rows (next_row rows p) (length (states_behind (lines_at rows (next_row rows p) m))) ≡ states_behind (lines_at rows (next_row rows p) m)
    → lines_at rows p (length (cond b (line_at rows p ∷ states_behind (lines_at rows (next_row rows p) m)) [])) ≡ cond b (line_at rows p ∷ states_behind (lines_at rows (next_row rows p) m)) []
states_are_by rows p m true e = ap (λ ls. line_at rows p ∷ ls) e
states_are_by rows p m false e = refl

-- So many lines as there are states in front are those states.
pub states_are : (rows : List Row) (p m : ℕ) → lines_at rows p (length (states_behind (lines_at rows p m))) ≡ states_behind (lines_at rows p m)
states_are rows p zero = refl
states_are rows p (suc m) = states_are_by rows p m (is State (line_at rows p)) (states_are rows (next_row rows p) m)
