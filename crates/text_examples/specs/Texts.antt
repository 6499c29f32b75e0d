-- Texts whose translation is worked out.
use Rattle.std.specs.Prelude.{ℕ, List, [], ◌∷◌, ◌++◌, codes}
use Rattle.language.specs.Translation.{Answer, refused}

-- A guard that watches a lid, and a power process that raises a rail and counts its tries.
abbrev pub guard_text : List ℕ
guard_text = codes "(kind long)\n(tact 10)\n(cell TRIES)\n(in LID)\n(out RAIL)\n(proc Guard)\n(state Open (if LID (do (start Power) (next))))\n(state Shut (if (not LID) (do (stop Power) (put RAIL 0) (go Open))))\n(proc Power)\n(state Rise (put RAIL 1) (put TRIES (add TRIES 1)) (after 1 (fail)))\n"

-- A text of one cell X, one input A, one output B, and a process P with these states.
abbrev pub with_states : List ℕ → List ℕ
with_states states = codes "(kind long)\n(tact 1)\n(cell X)\n(in A)\n(out B)\n(proc P)\n" ++ states

-- An `and` whose first part is untrue: the division by zero is not run, and the cell, first 5, becomes zero.
abbrev pub and_text : List ℕ
and_text = with_states (codes "(state S (put X 5) (put X (and 0 (div 1 0))))\n")

-- A text and the refusal that it meets.
pub record RefusedText : Type 0 where
  pub text : List ℕ
  pub wanted : Answer

infix 40 ◌meets◌
abbrev ◌meets◌ : List ℕ → Answer → RefusedText
t meets a = record { text = t; wanted = a }

-- At least one for each cause, and its line.
abbrev pub refused_texts : List RefusedText
refused_texts =
    ([] meets refused 1 0)
    ∷ (codes "(kind long)\n(tact  1)\n" meets refused 2 2)
    ∷ (codes "(kind long)\n(tact 1)" meets refused 2 2)
    ∷ (with_states (codes "(state ABCDEFGHIJKLM)\n") meets refused 2 7)
    ∷ (with_states (codes "(state S (put X -0))\n") meets refused 2 7)
    ∷ (codes "(tact 1)\n(kind long)\n(proc P)\n(state S)\n" meets refused 3 2)
    ∷ (with_states (codes "(state S (after 1 (fail)) (fail))\n") meets refused 3 7)
    ∷ (with_states (codes "(state S (if A A))\n") meets refused 3 7)
    ∷ (codes "(kind long)\n(proc P)\n(state S)\n" meets refused 4 0)
    ∷ (codes "(kind long)\n(tact 60001)\n(proc P)\n(state S)\n" meets refused 4 2)
    ∷ (with_states (codes "(state S (put X 2147483648))\n") meets refused 4 7)
    ∷ (with_states (codes "(proc Q)\n(state S)\n") meets refused 4 6)
    ∷ (with_states (codes "(state S)\n(state S)\n") meets refused 5 8)
    ∷ (with_states (codes "(state next)\n") meets refused 5 7)
    ∷ (with_states (codes "(state S (put A 1))\n") meets refused 6 7)
    ∷ (with_states (codes "(state S (go T))\n(proc Q)\n(state T)\n") meets refused 6 7)
    ∷ (with_states (codes "(state S (next))\n") meets refused 7 7)
    ∷ []
