-- What translate answers and leaves.
use Rattle.std.specs.Prelude.{ℕ, List, ◌++◌, length, drop, ℤ, Ok, Err, Result}
use Rattle.language.specs.Translation.{Answer}
use Rattle.checks.specs.Refusals.{refusal_number, refusal_line}
use Rattle.checks.specs.declared.refusal.Refusal.{Refusal}

-- What translate answers: how many words it wrote and the bound, or a refusal's number and line.
pub data Told : Type 0 where
  wrote : (words bound : ℕ) → Told
  refused : (number line : ℕ) → Told

abbrev pub told : Result (ℕ × ℕ) Refusal → Told
told (Ok p) = wrote p.0 p.1
told (Err e) = refused (refusal_number e) (refusal_line e)

-- What translate answers, and what the code then holds.
pub record Outcome : Type 0 where
  pub told : Told
  pub code : List ℤ

-- A translation puts its words in front of the code and keeps the rest; a refusal keeps the whole code.
abbrev pub outcome : Answer → List ℤ → Outcome
outcome (Answer.refused n l) code = record { told = refused n l; code = code }
outcome (Answer.translated ws most) code = record { told = wrote (length ws) most; code = ws ++ drop (length ws) code }
