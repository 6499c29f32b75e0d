-- How a text is read: its tokens put together to forms, one to a line.
use Rattle.std.specs.Prelude.{ℕ, List, [], ◌∷◌, ◌++◌}
use Rattle.text.specs.Form.{Form, word, number, form, pack}
use Rattle.text.specs.Tokens.{left, right, name, numeral, Toks, tok, end, bad, toks, spot, line}

-- the forms of a text's lines, or the first line that is no form
pub data Read : Type 0 where
  forms : List Form → Read
  wrong : ℕ → Read

-- the open forms, the innermost first, with an item more in the innermost
abbrev pub added : Form → List (List Form) → List (List Form)
added f [] = []
added f (fs ∷ o) = (fs ++ f ∷ []) ∷ o

-- the lines' forms, with a form more where none is open
abbrev pub lined : Form → List (List Form) → List Form → List Form
lined f [] d = d ++ f ∷ []
lined f (fs ∷ o) d = d

-- the innermost open form, as it ends
abbrev pub inner : List (List Form) → Form
inner [] = form (pack [])
inner (fs ∷ o) = form (pack fs)

-- the open forms around it
abbrev pub outer : List (List Form) → List (List Form)
outer [] = []
outer (fs ∷ o) = o

-- o: the open forms, the innermost first, with their items so far; d: the forms of the lines so far
abbrev pub parse : List (List Form) → List Form → Toks → Read
parse o d end = forms d
parse o d (bad n) = wrong n
parse o d (tok left ts) = parse ([] ∷ o) d ts
parse o d (tok right ts) = parse (added (inner o) (outer o)) (lined (inner o) (outer o) d) ts
parse o d (tok (name w) ts) = parse (added (word w) o) d ts
parse o d (tok (numeral w) ts) = parse (added (number w) o) d ts

-- what a text is read as
abbrev pub read_text : List ℕ → Read
read_text t = parse [] [] (toks (spot line 0 1) t)
