-- Worked examples, in one list: values of the kinds, texts, and stored codes.
use Rattle.std.specs.Prelude.{◌≡◌, ℕ, Bool, true, List, [], ◌∷◌, ◌++◌, map, length, ℤ, pos, Option}
use Rattle.std.specs.List.{AllByRecursion}
use Rattle.flat.specs.Tests.{fits}
use Rattle.kinds.specs.Worked.{worked}
use Rattle.language.specs.Translation.{Answer, refused, translated, translation}
use Rattle.worked.specs.Guard.{guard}
use Rattle.worked.specs.Examples.{Seen, Example, went, scans, fresh, examples}
use Rattle.text_examples.specs.Texts.{guard_text, and_text, refused_texts}

-- What a case comes to: a kind's answer, a translation's words and bound or its refusal, whether a code is of the layout, the scans of a code.
pub data Outcome : Type 0 where
  number : Option ℤ → Outcome
  sizes : (words bound : ℕ) → Outcome
  answer : Answer → Outcome
  layout : Bool → Outcome
  seen_scans : List Seen → Outcome

-- What a case comes to and what it should come to.
pub record Case : Type 0 where
  pub found : Outcome
  pub wanted : Outcome

-- The answer for a text, with room for any code.
abbrev pub translate : List ℕ → Answer
translate text = translation text 4096 8743

-- How many words a text's code has, and its bound.
abbrev pub sizes_of : Answer → Outcome
sizes_of (refused n l) = answer (refused n l)
sizes_of (translated ws most) = sizes (length ws) most

-- The code of a text, or none.
abbrev pub code_of : Answer → List ℤ
code_of (refused n l) = []
code_of (translated ws most) = ws

-- The scans of a text's code.
abbrev pub text_scans : List ℕ → List (List ℤ) → Outcome
text_scans text levels = seen_scans (scans (code_of (translate text)) levels (fresh (code_of (translate text))))

-- The cases of a code: it is of the layout, and its scans are seen as they should be.
abbrev pub code_cases : List Example → List Case
code_cases [] = []
code_cases (e ∷ es) =
    record { found = layout (fits e.code); wanted = layout true }
    ∷ record { found = seen_scans (scans e.code e.levels (fresh e.code)); wanted = seen_scans e.wanted }
    ∷ code_cases es

-- The guard through lid levels 0, 1, 1, 1, 0.
abbrev pub guard_levels : List (List ℤ)
guard_levels = (pos 0 ∷ []) ∷ (pos 1 ∷ []) ∷ (pos 1 ∷ []) ∷ (pos 1 ∷ []) ∷ (pos 0 ∷ []) ∷ []

abbrev pub guard_wanted : List Seen
guard_wanted =
    went 3 0 1 255 1 (pos 0) (pos 0) ∷ went 14 1 1 0 1 (pos 1) (pos 1) ∷ went 13 1 2 0 2 (pos 2) (pos 1)
    ∷ went 14 1 3 254 1 (pos 3) (pos 1) ∷ went 8 0 1 255 1 (pos 3) (pos 0) ∷ []

abbrev pub and_wanted : List Seen
and_wanted = went 7 0 1 255 0 (pos 0) (pos 0) ∷ []

-- Texts: the guard from its very bytes has 87 words and bound 18, its code is the stored one, and its five scans are as they should be; of an `and`
-- whose first part is untrue the second is not run.
abbrev pub text_cases : List Case
text_cases =
    record { found = sizes_of (translate guard_text); wanted = sizes 87 18 }
    ∷ record { found = answer (translate guard_text); wanted = answer (translated guard 18) }
    ∷ record { found = text_scans guard_text guard_levels; wanted = seen_scans guard_wanted }
    ∷ record { found = text_scans and_text ((pos 0 ∷ []) ∷ []); wanted = seen_scans and_wanted }
    ∷ map (λ t. record { found = answer (translate t.text); wanted = answer t.wanted }) refused_texts

-- The worked values of the kinds.
abbrev pub value_cases : List Case
value_cases = map (λ c. record { found = number c.answer; wanted = number c.wanted }) worked

-- All cases, in one list.
abbrev pub cases : List Case
cases = value_cases ++ (text_cases ++ code_cases examples)

-- A case comes to what it should.
abbrev pub Holds : Case → Type 0
Holds c = c.found ≡ c.wanted

-- Each case does.
abbrev pub WorkedExamples : Type 0
WorkedExamples = AllByRecursion Holds cases
