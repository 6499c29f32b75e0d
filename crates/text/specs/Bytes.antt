-- Bytes by their classes, and which bytes make a number.
use Rattle.std.specs.Prelude.{ℕ, Bool, true, false, cond, not, ◌&&◌, ◌||◌, List, [], ◌∷◌, ◌==◌, nat_le}
use Rattle.text.specs.declared.class.Class.{Class}
use Rattle.text.specs.declared.class.Class.TheVariants.{Open, Close, Space, Feed, Minus, Digit, Letter, Other}

-- 0 to 9
abbrev pub digit : ℕ → Bool
digit b = nat_le 48 b && nat_le b 57

-- A to Z and a to z
abbrev pub letter : ℕ → Bool
letter b = (nat_le 65 b && nat_le b 90) || (nat_le 97 b && nat_le b 122)

-- the class of a byte: ( ) space, line feed, -, a digit, a letter, or none of them
abbrev pub class_of : ℕ → Class
class_of b =
    cond (b == 40) Open (cond (b == 41) Close (cond (b == 32) Space (cond (b == 10) Feed (cond (b == 45) Minus (cond (digit b) Digit (cond (letter b) Letter Other))))))

-- a digit b may follow what a number has so far: none behind a first 0, and no 0 behind -
abbrev pub grows : List ℕ → ℕ → Bool
grows [] b = true
grows (x ∷ []) b = not (x == 48) && not (x == 45 && b == 48)
grows (x ∷ y ∷ w) b = true

-- what a number has so far is a number: it has more than a -
abbrev pub complete : List ℕ → Bool
complete [] = false
complete (x ∷ []) = not (x == 45)
complete (x ∷ y ∷ w) = true
