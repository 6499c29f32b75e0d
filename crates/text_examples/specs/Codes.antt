-- A stored code.
use Rattle.std.specs.Prelude.{List, [], ◌∷◌, ℤ, pos}

-- A process whose only state puts 5 and then `0 and 1 / 0` into its cell: one process, 12 instructions.
abbrev pub and_code : List ℤ
and_code =
    pos 1 ∷ pos 1 ∷ pos 1 ∷ pos 1 ∷ pos 1 ∷ pos 1 ∷ pos 12
    ∷ pos 1 ∷ pos 0 ∷ pos 0 ∷ pos 0 ∷ pos 0 ∷ pos 0 ∷ pos 0 ∷ pos 0 ∷ pos 0 ∷ pos 0 ∷ pos 0 ∷ pos 0 ∷ pos 0 ∷ pos 0 ∷ pos 0 ∷ pos 0 ∷ pos 0
    ∷ pos 1 ∷ pos 5 ∷ pos 17 ∷ pos 0 ∷ pos 1 ∷ pos 0 ∷ pos 16 ∷ pos 9 ∷ pos 1 ∷ pos 1 ∷ pos 1 ∷ pos 0 ∷ pos 10 ∷ pos 0 ∷ pos 14 ∷ pos 0 ∷ pos 15 ∷ pos 10
    ∷ pos 6 ∷ pos 0 ∷ pos 17 ∷ pos 0 ∷ pos 0 ∷ pos 0 ∷ []
