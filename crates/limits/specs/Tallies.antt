-- Counts over the lines before a line.
use Rattle.std.specs.Prelude.{ℕ, ◌+◌, ◌-◌, Bool, cond, ◌||◌, List, [], ◌∷◌, ◌==◌, nat_le, nat_lt, slice_index, slice_set}
use Rattle.language.specs.Basics.{count, total, leading}
use Rattle.language.specs.Causes.{instructions, most, past_range, stateless}
use Rattle.language.specs.Lines.{is, sort, rank}
use Rattle.language.specs.Named.{Line}
use Rattle.language.specs.Sizes.{capped}
use Rattle.language.specs.declared.house.Opener.{Opener}
use Rattle.language.specs.declared.house.Opener.TheVariants.{Kind, Tact, Const, Cell, In, Out, Proc, State}
use Rattle.limits.specs.declared.tally.Tally.{Tally}

-- The place of a sort among the counts.
abbrev pub place : Opener → ℕ
place o = rank o - 1

-- How many lines of each sort there are, and instructions in all; of states, those of the last process.
abbrev pub tally_of : List Line → Tally
tally_of before = record {
  lines =
      capped (count (is Kind) before)
      ∷ capped (count (is Tact) before)
      ∷ capped (count (is Const) before)
      ∷ capped (count (is Cell) before)
      ∷ capped (count (is In) before)
      ∷ capped (count (is Out) before)
      ∷ capped (count (is Proc) before)
      ∷ capped (count (is State) (leading (is State) before))
      ∷ [];
  instructions = capped (total instructions before);
}

-- The counts of lines behind which a line of a sort counts: one that is no state ends the states of a process.
abbrev pub counts_before : Opener → List ℕ → List ℕ
counts_before o ns = cond (rank o == rank State) ns (slice_set ns (place State) 0)

-- The counts with a line of a sort more.
abbrev pub counts_with : Opener → List ℕ → List ℕ
counts_with o ns = slice_set (counts_before o ns) (place o) (capped (slice_index (counts_before o ns) (place o) + 1))

-- The counts with a line more.
unfoldable pub with_line : Tally → Line → Tally
with_line t l = record { lines = counts_with (sort l) t.lines; instructions = capped (t.instructions + capped (instructions l)) }

-- A line of a sort is one too many.
abbrev pub full : Tally → Opener → Bool
full t o = nat_le (most o) (slice_index t.lines (place o))

-- A line passes a limit, by the counts before it and with it.
abbrev pub past_with : Tally → Tally → Line → List Line → Bool
past_with before with l behind = past_range l || (full before (sort l) || (stateless l behind || nat_lt 4096 with.instructions))
