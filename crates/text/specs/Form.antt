-- A text's forms, as trees.
use Rattle.std.specs.Prelude.{ℕ, List, [], ◌∷◌}

mutual
  -- a word or a number is held as its bytes
  pub data Form : Type 0 where
    word : List ℕ → Form
    number : List ℕ → Form
    form : Forms → Form

  -- the items of a form, in order
  pub data Forms : Type 0 where
    none : Forms
    more : Form → Forms → Forms

-- a list of items as the items of a form
abbrev pub pack : List Form → Forms
pack [] = none
pack (f ∷ fs) = more f (pack fs)
