-- Names that were met before: among the lines from a row on, and among those before a line.
use Rattle.std.proofs.Common.{◌≡◌, ℕ, zero, suc, Bool, true, false, cond, not, ◌&&◌, ◌||◌, List, [], ◌∷◌, ◌++◌, Some, None, Option, sym, refl, ap, ◌∙◌}
use mathlib.Core.Bool.{or-true}
use Rattle.text.specs.declared.items.Items.{Items}
use Rattle.text.specs.declared.row.Row.{Row}
use Rattle.language.specs.Basics.{Word, any, among, those, leading, in_front}
use Rattle.language.specs.Causes.{rivals}
use Rattle.language.specs.Named.{Line}
use Rattle.language.specs.Lines.{is, name, names}
use Rattle.language.specs.OnSheet.{line_at, lines_at, lines_of}
use Rattle.language.specs.declared.house.Opener.TheVariants.{State}
use Rattle.naming.specs.Rivals.{bears, takes_up}
use Rattle.naming.specs.Spots.{row_behind, back, back_of, Stands}
use Rattle.naming.proofs.Spots.{lines_last, states_run}

-- A test holds of one of some lines, in whichever order.
or_swap : (a b c : Bool) → (a || (b || c)) ≡ (b || (a || c))
or_swap true b c = sym (or-true b)
or_swap false b c = refl

any_last : (t : Line → Bool) (ls : List Line) (l : Line) → any t (ls ++ l ∷ []) ≡ (t l || any t ls)
any_last t [] l = refl
any_last t (x ∷ xs) l = ap (λ b. t x || b) (any_last t xs l) ∙ or_swap (t x) (t l) (any t xs)

pub any_back : (t : Line → Bool) (rows : List Row) (p k : ℕ) → any t (lines_at rows p k) ≡ any t (back rows p k)
any_back t rows p zero = refl
any_back t rows p (suc k) =
    ap (any t) (lines_last rows p k) ∙ any_last t (lines_at rows p k) (line_at rows (row_behind rows p k)) ∙ ap (λ b. t (line_at rows (row_behind rows p k)) || b) (any_back t rows p k)

-- A word is among the names of lines exactly if one of them declares it.
in_front_among : (w : Word) (o : Option Word) (vs : List Word) → among w (in_front o vs) ≡ (bears w o || among w vs)
in_front_among w None vs = refl
in_front_among w (Some v) vs = refl

pub met_all : (w : Word) (ls : List Line) → any (takes_up true w) ls ≡ among w (names ls)
met_all w [] = refl
met_all w (l ∷ ls) = ap (λ b. bears w (name l) || b) (met_all w ls) ∙ sym (in_front_among w (name l) (names ls))

-- The same of lines that are no states.
pub met_others : (w : Word) (ls : List Line) → any (takes_up false w) ls ≡ among w (names (those (λ b. not (is State b)) ls))
met_others w [] = refl
met_others w (l ∷ ls) =
    elim (not (is State l)) as (λ b. ((b && bears w (name l)) || any (takes_up false w) ls) ≡ among w (names (cond b (l ∷ those (λ b. not (is State b)) ls) (those (λ b. not (is State b)) ls))))
    [ true ↦ ap (λ b. bears w (name l) || b) (met_others w ls) ∙ sym (in_front_among w (name l) (names (those (λ b. not (is State b)) ls))) | false ↦ met_others w ls ]

-- A word is among the names that a state's name must differ from, and those of a line that is no state.
pub met_by_state : (before states : Items) (at : ℕ) (w : Word) (l : Line) → Stands before states at → true ≡ is State l
    → any (takes_up true w) (lines_of states) ≡ among w (names (rivals (back_of before) l))
met_by_state before states at w l s e =
    any_back (takes_up true w) states.rows.now states.first states.count
    ∙ met_all w (back_of states)
    ∙ ap (λ ls. among w (names ls)) (sym (states_run before states at s))
    ∙ ap (λ b. among w (names (cond b (leading (is State) (back_of before)) (those (λ b. not (is State b)) (back_of before))))) e

pub met_by_other : (before : Items) (w : Word) (l : Line) → false ≡ is State l
    → any (takes_up false w) (lines_of before) ≡ among w (names (rivals (back_of before) l))
met_by_other before w l e =
    any_back (takes_up false w) before.rows.now before.first before.count
    ∙ met_others w (back_of before)
    ∙ ap (λ b. among w (names (cond b (leading (is State) (back_of before)) (those (λ b. not (is State b)) (back_of before))))) e
