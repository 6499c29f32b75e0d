-- Each line of a text with the lines before it, the nearest first, and those behind it.
use Rattle.std.specs.Prelude.{List, [], ◌∷◌}
use Rattle.language.specs.Named.{Line}
use Rattle.language.specs.OnSheet.{line_at, lines_of}
use Rattle.naming.specs.Spots.{back_of}
use Rattle.naming.specs.declared.spot.Spot.{Spot}
use Rattle.naming.specs.declared.spot.Spots.{Spots}

-- The lines, split at each.
abbrev pub splits : List Line → List Line → List (List Line × (Line × List Line))
splits before [] = []
splits before (l ∷ ls) = (before, (l, ls)) ∷ splits (l ∷ before) ls

-- The line at a spot.
abbrev pub line_of : Spot → Line
line_of spot = line_at spot.before.rows.now spot.at

-- A spot's lines.
abbrev pub split_of : Spot → List Line × (Line × List Line)
split_of spot = (back_of spot.before, (line_of spot, lines_of spot.behind))

-- Those that a walk has not passed.
abbrev pub splits_left : Spots → List (List Line × (Line × List Line))
splits_left walk = splits (back_of walk.before) (lines_of walk.left)
