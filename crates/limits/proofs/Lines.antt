-- Lines of a sort among others.
use Rattle.std.proofs.Common.{◌≡◌, ℕ, zero, suc, Bool, true, false, cond, not, eqb, ◌≢◌, List, [], ◌∷◌, length, refl, arith}
use Rattle.std.proofs.lemmas.Bool.{ne_eqb}
use Rattle.text.specs.Sheet.{next_row}
use Rattle.text.specs.declared.row.Row.{Row}
use Rattle.language.specs.Lines.{is, states_behind}
use Rattle.language.specs.Named.{Line}
use Rattle.language.specs.OnSheet.{line_at, lines_at}
use Rattle.language.specs.declared.house.Opener.TheVariants.{State}

-- None is the first of those that a test leaves.
no_first : (b : Bool) (x : Line) (xs : List Line) → eqb (length (cond b (x ∷ xs) [])) 0 ≡ not b
no_first true x xs = ne_eqb (length (x ∷ xs)) 0 (λ e. omega arith)
no_first false x xs = refl

-- No states follow exactly if the next line is none.
pub no_states : (rows : List Row) (p m : ℕ) → m ≢ 0 → eqb (length (states_behind (lines_at rows p m))) 0 ≡ not (is State (line_at rows p))
no_states rows p zero h = absurd (h refl)
no_states rows p (suc m) h = no_first (is State (line_at rows p)) (line_at rows p) (states_behind (lines_at rows (next_row rows p) m))
