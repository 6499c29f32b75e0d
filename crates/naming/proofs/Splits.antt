-- The first line that passes a test, told by the lines before it and behind it.
use Rattle.std.proofs.Common.{◌≡◌, ℕ, suc, ◌+◌, Bool, cond, List, [], ◌∷◌, length, position, Some, refl, ap, ◌∙◌}
use Rattle.language.specs.Basics.{changed, first_where}
use Rattle.language.specs.Named.{Line}
use Rattle.language.proofs.Tests.{position_more, counted_on}
use Rattle.naming.specs.Splits.{splits}

-- A test of a line, those before it and those behind it.
abbrev pub Test : Type 0
Test = List Line → Line → List Line → Bool

-- The test of a line that is split off.
abbrev pub at_split : Test → List Line × (Line × List Line) → Bool
at_split p t = p t.0 t.1.0 t.1.1

-- Counted from n on, the first split that passes is the first line that does.
pub first_split : (p : Test) (n : ℕ) (before ls : List Line) → changed (λ i. n + i) (position (at_split p) (splits before ls)) ≡ first_where p n before ls
first_split p n before [] = refl
first_split p n before (l ∷ ls) =
    ap (changed (λ i. n + i)) (position_more (at_split p) (before, (l, ls)) (splits (l ∷ before) ls))
    ∙ counted_on n (p before l ls) (position (at_split p) (splits (l ∷ before) ls))
    ∙ ap (cond (p before l ls) (Some n)) (first_split p (suc n) (l ∷ before) ls)

-- As many splits as lines.
pub length-splits : (before ls : List Line) → length (splits before ls) ≡ length ls
length-splits before [] = refl
length-splits before (l ∷ ls) = ap suc (length-splits (l ∷ before) ls)
