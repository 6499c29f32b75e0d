-- The law of reading: which texts are read, and which line is told of any other.
use Rattle.std.specs.Prelude.{◌≡◌, ℕ, ◌+◌, ◌≢◌, List, [], ◌∷◌, length}
use Rattle.text.specs.Form.{Form}
use Rattle.text.specs.Reading.{read_text, forms, wrong}
use Rattle.text.specs.Print.{show, lines}
use Rattle.text.specs.Valid.{Valid, AllValid}

-- line n of a text is the first that is no form: the lines before it are prints of valid forms, and what is left,
-- which is not empty, does not begin with the print of a valid form and a line feed
pub record Told (t : List ℕ) (n : ℕ) : Type 0 where
  pub before : List Form
  pub rest : List ℕ
  pub valid : AllValid before
  pub text : t ≡ lines before rest
  pub line : n ≡ length before + 1
  pub some : rest ≢ []
  pub no_form : (f : Form) (y : List ℕ) → Valid f 0 → rest ≢ show f (10 ∷ y)

-- a text is read as forms exactly if they are valid and it is their print, and otherwise its first other line is told
pub record ReadingLaw : Type 0 where
  -- forms that are read of a text are valid, and the text is their print
  pub back : (t : List ℕ) (fs : List Form) → read_text t ≡ forms fs → AllValid fs × (t ≡ lines fs [])
  -- valid forms, printed, are read again
  pub forth : (fs : List Form) → AllValid fs → read_text (lines fs []) ≡ forms fs
  -- a line that is told is the first that is no form
  pub told : (t : List ℕ) (n : ℕ) → read_text t ≡ wrong n → Told t n
