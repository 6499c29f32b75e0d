-- Levels read from a host's latch, and outputs put to its lines.
use Rattle.std.specs.Prelude.{ℕ, zero, suc, List, [], ◌∷◌, map, ℤ, pos, Some, None, Option, slice_index_or}
use Rattle.std.specs.List.{range_with_len}

-- The latched levels of the lines 0 to 31. Beyond the last latched line a level is 0.
unfoldable pub sensed : List ℤ → List ℤ
sensed latch = map (λ i. slice_index_or latch i (pos 0)) (range_with_len 0 32)

-- The held outputs after each line with a value took it, and every other line kept what it had.
abbrev pub settled : List (Option ℤ) → List ℤ → List ℤ
settled [] held = held
settled (p ∷ puts) [] = []
settled (None ∷ puts) (x ∷ held) = x ∷ settled puts held
settled (Some v ∷ puts) (x ∷ held) = v ∷ settled puts held

-- The held outputs after the first n lines, or all where there are fewer, were put to 0.
abbrev pub cleared : ℕ → List ℤ → List ℤ
cleared zero held = held
cleared (suc n) [] = []
cleared (suc n) (x ∷ held) = pos 0 ∷ cleared n held
