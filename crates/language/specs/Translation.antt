-- What a text is translated to, or why it is refused.
use Rattle.std.specs.Prelude.{ℕ, cond, ◌||◌, List, [], ◌∷◌, length, ℤ, Some, None, Option, ◌==◌, nat_le, nat_lt}
use Rattle.text.specs.Form.{Form}
use Rattle.text.specs.Reading.{Read, forms, wrong, read_text}
use Rattle.text.specs.Sheet.{rows_in}
use Rattle.language.specs.Named.{Line}
use Rattle.language.specs.Program.{bound}
use Rattle.language.specs.Words.{words}
use Rattle.language.specs.Resolve.{program}
use Rattle.language.specs.Causes.{lines, first_unfit, first_past_limit, first_no_name, first_unknown, first_next_in_last}

-- The refusal's number and line, or the words of the flat code and the bound of a scan's steps.
pub data Answer : Type 0 where
  refused : ℕ → ℕ → Answer
  translated : List ℤ → ℕ → Answer

-- The causes that are looked for in a text's forms and lines, in their order, each over the whole text before the next.
abbrev pub name_causes : List (ℕ × (List Form → List Line → Option ℕ))
name_causes = (5, first_no_name) ∷ (6, first_unknown) ∷ (7, first_next_in_last) ∷ []

abbrev pub causes : List (ℕ × (List Form → List Line → Option ℕ))
causes = (3, first_unfit) ∷ (4, first_past_limit) ∷ name_causes

-- A cause at a line, if it holds, else what else is told.
abbrev pub told_at : ℕ → Option ℕ → Option (ℕ × ℕ) → Option (ℕ × ℕ)
told_at number None others = others
told_at number (Some line) others = Some (number, line)

-- The first of these causes that holds, with its line.
abbrev pub first_cause : List (ℕ × (List Form → List Line → Option ℕ)) → List Form → List Line → Option (ℕ × ℕ)
first_cause [] fs ls = None
first_cause (c ∷ cs) fs ls = told_at c.0 (c.1 fs ls) (first_cause cs fs ls)

-- The code, if there is room for it.
abbrev pub fitted : ℕ → ℕ → List ℤ → Answer
fitted room most ws = cond (nat_lt room (length ws)) (refused 8 0) (translated ws most)

-- A cause that holds, else the code.
abbrev pub unless_caused : Option (ℕ × ℕ) → Answer → Answer
unless_caused (Some c) a = refused c.0 c.1
unless_caused None a = a

-- The answer for forms and their lines: a cause that holds, else the code.
abbrev pub answer_for : ℕ → List Form → List Line → Answer
answer_for room fs ls = unless_caused (first_cause causes fs ls) (fitted room (bound (program ls)) (words ls))

-- The answer for what was read, with a row for each word, number and form.
abbrev pub judged : ℕ → ℕ → Read → Answer
judged rows room (wrong n) = refused 2 n
judged rows room (forms fs) = cond (nat_le (rows_in fs) rows) (answer_for room fs (lines fs)) (refused 8 0)

-- The answer for a text, a sheet of so many rows and a code with room for so many words.
abbrev pub translation : List ℕ → ℕ → ℕ → Answer
translation text rows room = cond (length text == 0 || nat_lt 32768 (length text)) (refused 1 0) (judged rows room (read_text text))
