-- How an input is split: the text, and the tape from the first place on where the bytes `(row` stand.
use Rattle.std.specs.Prelude.{ℕ, suc, Bool, false, cond, ◌&&◌, List, [], ◌∷◌, take, drop, ◌==◌}

-- The bytes `(row` stand in front.
abbrev pub begins_tape : List ℕ → Bool
begins_tape [] = false
begins_tape (a ∷ []) = false
begins_tape (a ∷ b ∷ []) = false
begins_tape (a ∷ b ∷ c ∷ []) = false
begins_tape (a ∷ b ∷ c ∷ d ∷ rest) = a == 40 && (b == 114 && (c == 111 && d == 119))

-- The first place where they stand; the input's length where they stand nowhere.
abbrev pub tape_at : List ℕ → ℕ
tape_at [] = 0
tape_at (b ∷ bs) = cond (begins_tape (b ∷ bs)) 0 (suc (tape_at bs))

-- What stands before it, and what stands from it on.
abbrev pub text_in : List ℕ → List ℕ
text_in input = take (tape_at input) input

abbrev pub tape_in : List ℕ → List ℕ
tape_in input = drop (tape_at input) input
