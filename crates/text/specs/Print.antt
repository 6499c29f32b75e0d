-- How forms are printed: each function puts the bytes before the rest x.
use Rattle.std.specs.Prelude.{ℕ, List, [], ◌∷◌, ◌++◌}
use Rattle.text.specs.Form.{Form, Forms, word, number, form, none, more}

abbrev mutual
  -- a word or a number as its bytes, a form in brackets
  pub show : Form → List ℕ → List ℕ
  show (word w) x = w ++ x
  show (number w) x = w ++ x
  show (form fs) x = 40 ∷ shows fs (41 ∷ x)

  -- items with one space between
  pub shows : Forms → List ℕ → List ℕ
  shows none x = x
  shows (more f fs) x = show f (rests fs x)

  -- each item behind a space
  pub rests : Forms → List ℕ → List ℕ
  rests none x = x
  rests (more f fs) x = 32 ∷ show f (rests fs x)

-- each form and a line feed
abbrev pub lines : List Form → List ℕ → List ℕ
lines [] x = x
lines (f ∷ fs) x = show f (10 ∷ lines fs x)
