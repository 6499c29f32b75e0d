-- Which words, numbers and forms a text may have.
use Rattle.std.specs.Prelude.{◌≡◌, ℕ, ◌+◌, ◌<◌, ◌≢◌, ◌⊎◌, List, [], ◌∷◌, length}
use Rattle.text.specs.Form.{Form, Forms, word, number, form, none, more}
use Rattle.text.specs.Bytes.{class_of}
use Rattle.text.specs.declared.class.Class.TheVariants.{Minus, Digit, Letter}

-- letters and digits
abbrev pub Inside : List ℕ → Type 0
Inside [] = Unit {0}
Inside (b ∷ w) = ((class_of b ≡ Letter) ⊎ (class_of b ≡ Digit)) × Inside w

-- a letter, and at most eleven letters and digits
abbrev pub IsWord : List ℕ → Type 0
IsWord [] = ⊥
IsWord (b ∷ w) = (class_of b ≡ Letter) × Inside w × (length w < 12)

-- digits alone
abbrev pub Digits : List ℕ → Type 0
Digits [] = Unit {0}
Digits (b ∷ w) = (class_of b ≡ Digit) × Digits w

-- base ten, with no leading zero
abbrev pub Unsigned : List ℕ → Type 0
Unsigned [] = ⊥
Unsigned (b ∷ []) = class_of b ≡ Digit
Unsigned (b ∷ c ∷ w) = (class_of b ≡ Digit) × (b ≢ 48) × Digits (c ∷ w)

-- with a minus sign or without, and no -0
abbrev pub IsNumber : List ℕ → Type 0
IsNumber [] = ⊥
IsNumber (b ∷ w) = Unsigned (b ∷ w) ⊎ ((class_of b ≡ Minus) × Unsigned w × (w ≢ 48 ∷ []))

-- at least one item
abbrev pub Filled : Forms → Type 0
Filled none = ⊥
Filled (more f fs) = Unit {0}

abbrev mutual
  -- an item in k brackets: brackets nest at most twelve deep, each form has an item, and a line is a form
  pub Valid : Form → ℕ → Type 0
  Valid (word w) k = (0 < k) × IsWord w
  Valid (number w) k = (0 < k) × IsNumber w
  Valid (form fs) k = (k < 12) × Filled fs × Valids fs (k + 1)

  -- items in k brackets
  pub Valids : Forms → ℕ → Type 0
  Valids none k = Unit {0}
  Valids (more f fs) k = Valid f k × Valids fs k

-- the forms of lines
abbrev pub AllValid : List Form → Type 0
AllValid [] = Unit {0}
AllValid (f ∷ fs) = Valid f 0 × AllValid fs
