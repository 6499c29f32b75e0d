-- A stored code: a guard that watches a lid, and a power process that raises a rail and counts its tries.
use Rattle.std.specs.Prelude.{List, [], ◌∷◌, ℤ, pos}

-- Its head, its two processes, and its 23 instructions.
abbrev pub guard : List ℤ
guard =
    pos 1 ∷ pos 10 ∷ pos 1 ∷ pos 1 ∷ pos 1 ∷ pos 2 ∷ pos 23
    ∷ pos 2 ∷ pos 0 ∷ pos 5 ∷ pos 0 ∷ pos 0 ∷ pos 0 ∷ pos 0 ∷ pos 0 ∷ pos 0 ∷ pos 0 ∷ pos 0 ∷ pos 0 ∷ pos 0 ∷ pos 0 ∷ pos 0 ∷ pos 0 ∷ pos 0
    ∷ pos 1 ∷ pos 13 ∷ pos 0 ∷ pos 0 ∷ pos 0 ∷ pos 0 ∷ pos 0 ∷ pos 0 ∷ pos 0 ∷ pos 0 ∷ pos 0 ∷ pos 0 ∷ pos 0 ∷ pos 0 ∷ pos 0 ∷ pos 0 ∷ pos 0
    ∷ pos 3 ∷ pos 0 ∷ pos 16 ∷ pos 4 ∷ pos 20 ∷ pos 1 ∷ pos 19 ∷ pos 1 ∷ pos 0 ∷ pos 0
    ∷ pos 3 ∷ pos 0 ∷ pos 13 ∷ pos 0 ∷ pos 16 ∷ pos 12 ∷ pos 21 ∷ pos 1 ∷ pos 1 ∷ pos 0 ∷ pos 18 ∷ pos 0 ∷ pos 19 ∷ pos 0 ∷ pos 0 ∷ pos 0
    ∷ pos 1 ∷ pos 1 ∷ pos 18 ∷ pos 0 ∷ pos 2 ∷ pos 0 ∷ pos 1 ∷ pos 1 ∷ pos 7 ∷ pos 0 ∷ pos 17 ∷ pos 0 ∷ pos 24 ∷ pos 1 ∷ pos 16 ∷ pos 22 ∷ pos 22 ∷ pos 0 ∷ pos 0 ∷ pos 0 ∷ []
