-- The lines on a sheet, from one to the next.
use Rattle.std.proofs.Common.{◌≡◌, ℕ, zero, suc, ◌+◌, ◌-◌, ◌<◌, ◌≤◌, Bool, true, false, cond, List, [], ◌∷◌, length, map, refl, sym, ap, ◌∙◌, arith}
use Rattle.text.specs.Items.{starts_of}
use Rattle.text.specs.Sheet.{next_row}
use Rattle.text.specs.declared.items.Items.{Items}
use Rattle.text.specs.declared.row.Row.{Row}
use Rattle.language.specs.Basics.{leading}
use Rattle.language.specs.Named.{Line}
use Rattle.language.specs.OnSheet.{line_at, lines_at, lines_of}

-- There are as many lines as were asked for.
pub lines_length : (rows : List Row) (at m : ℕ) → length (lines_at rows at m) ≡ m
lines_length rows at zero = refl
lines_length rows at (suc m) = ap suc (lines_length rows (next_row rows at) m)

-- Items that are lines, split into the first and those behind it, or none.
pub lines_split : (rows : List Row) (left behind : Items) (at : ℕ) → left.rows.now ≡ rows → behind.rows.now ≡ left.rows.now → starts_of left ≡ at ∷ starts_of behind → lines_of left ≡ line_at rows at ∷ lines_of behind
lines_split rows left behind at p q e =
    ap (λ r. map (line_at r) (starts_of left)) p
    ∙ ap (map (line_at rows)) e
    ∙ ap (λ r. line_at rows at ∷ map (line_at r) (starts_of behind)) (sym (q ∙ p))

pub no_lines : (left : Items) → starts_of left ≡ [] → lines_of left ≡ []
no_lines left e = ap (map (line_at left.rows.now)) e

leading_below : (t : Line → Bool) (ls : List Line) → length (leading t ls) ≤ length ls
leading_below t [] = omega arith
leading_below t (l ∷ ls) =
    elim (t l) as (λ b. length (cond b (l ∷ leading t ls) []) ≤ suc (length ls)) [ true ↦ omega (arith, leading_below t ls) | false ↦ omega arith ]

-- No more lines lead than there are.
pub leading_few : (t : Line → Bool) (rows : List Row) (at m : ℕ) → length (leading t (lines_at rows at m)) ≤ m
leading_few t rows at m = omega (arith, leading_below t (lines_at rows at m), lines_length rows at m)
