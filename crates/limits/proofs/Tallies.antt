-- What the counts over lines tell: from one line to the next, and whether a line passes a limit.
use Rattle.std.proofs.Common.{◌≡◌, ℕ, suc, ◌+◌, ◌<◌, Bool, true, false, cond, not, ◌||◌, eqb, ltb, leb, List, [], ◌∷◌, Some, None, Option, sym, refl, ap, ◌∙◌, ⊎_elim, arith}
use Rattle.std.proofs.lemmas.Bool.{cases_Bool, true≢false}
use Rattle.std.proofs.lemmas.Bool.Decides.{nat_tests}
use Rattle.text.specs.declared.row.Row.{Row}
use Rattle.language.specs.Basics.{count, total, leading, those}
use Rattle.language.specs.Causes.{instructions, past_range, too_many, stateless, past_limit}
use Rattle.language.specs.Lines.{is, sort, rank}
use Rattle.language.specs.Named.{Line}
use Rattle.language.specs.OnSheet.{line_of, body_at}
use Rattle.language.specs.Resolve.{all_names}
use Rattle.language.specs.Sizes.{capped, act_size}
use Rattle.language.specs.declared.house.Opener.{Opener}
use Rattle.language.specs.declared.house.Opener.TheVariants.{Kind, Tact, Const, Cell, In, Out, Proc, State}
use Rattle.language.proofs.Sizes.{act_sizes}
use Rattle.limits.specs.declared.tally.Tally.{Tally}
use Rattle.limits.specs.Tallies.{tally_of, with_line, full, past_with, place}

-- A state takes the instructions of its body, and an end.
pub state_instructions : (rows : List Row) (at : ℕ) (o : Option Opener) → true ≡ is State (line_of rows at o) → instructions (line_of rows at o) ≡ suc (act_size (body_at rows at))
state_instructions rows at None e = absurd (true≢false e)
state_instructions rows at (Some Kind) e = absurd (true≢false e)
state_instructions rows at (Some Tact) e = absurd (true≢false e)
state_instructions rows at (Some Const) e = absurd (true≢false e)
state_instructions rows at (Some Cell) e = absurd (true≢false e)
state_instructions rows at (Some In) e = absurd (true≢false e)
state_instructions rows at (Some Out) e = absurd (true≢false e)
state_instructions rows at (Some Proc) e = absurd (true≢false e)
state_instructions rows at (Some State) e = ap suc (act_sizes (all_names []) (record { own = 0; states = []; here = 0 }) (body_at rows at))

-- One line more in a count.
one_more : (n : ℕ) → capped (capped n + 1) ≡ capped (suc n)
one_more n = omega arith

-- Its instructions more in all.
sums : (before : List Line) (l : Line) → capped (capped (total instructions before) + capped (instructions l)) ≡ capped (total instructions (l ∷ before))
sums before l = omega arith

-- The counts over one line more.
pub tally_more : (before : List Line) (l : Line) → with_line (tally_of before) l ≡ tally_of (l ∷ before)
unfolding with_line
tally_more before (Line.kind k) = rw (one_more, sums before (Line.kind k))
tally_more before (Line.tact n) = rw (one_more, sums before (Line.tact n))
tally_more before (Line.const w n) = rw (one_more, sums before (Line.const w n))
tally_more before (Line.cell w) = rw (one_more, sums before (Line.cell w))
tally_more before (Line.input w) = rw (one_more, sums before (Line.input w))
tally_more before (Line.output w) = rw (one_more, sums before (Line.output w))
tally_more before (Line.process w) = rw (one_more, sums before (Line.process w))
tally_more before (Line.state w b) = rw (one_more, sums before (Line.state w b))

-- What is passed over does not count.
count_those : {A : Type 0} (p q : A → Bool) → ((x : A) → q x ≡ true → p x ≡ false) → (xs : List A) → count p (those (λ x. not (q x)) xs) ≡ count p xs
count_those p q apart [] = refl
count_those p q apart (x ∷ xs) =
    ⊎_elim
    (λ (e : q x ≡ true). let n : p x ≡ false = apart x e in simp (e, n) (count_those p q apart xs))
    (λ (e : q x ≡ false). simp e (ap (λ n. cond (p x) (suc n) n) (count_those p q apart xs)))
    (cases_Bool (q x))

-- A limit that counts go up to is reached by a count exactly if it is by what is counted.
capped_leb : (m n : ℕ) → leb m 4097 ≡ true → leb m (capped n) ≡ leb m n
capped_leb m n h = grind (arith, nat_tests)

-- The ranks of two sorts differ from one another where only one is that of a state.
other_rank : (m n : ℕ) → eqb m 8 ≡ false → eqb 8 n ≡ true → eqb m n ≡ false
other_rank m n h e = grind (arith, nat_tests)

-- The same where lines of a sort are counted that are no states.
reached : (m : ℕ) (o : Opener) (before : List Line) → leb m 4097 ≡ true → eqb (rank o) 8 ≡ false → leb m (capped (count (is o) before)) ≡ leb m (count (is o) (those (λ b. not (is State b)) before))
reached m o before h g =
    capped_leb m (count (is o) before) h
    ∙ ap (leb m) (sym (count_those (is o) (is State) (λ x e. other_rank (rank o) (rank (sort x)) g e) before))

-- The counts tell whether a line is one too many, and whether it passes a limit.
pub full_is : (before : List Line) (l : Line) → full (tally_of before) (sort l) ≡ too_many before l
full_is before (Line.kind k) = reached 1 Kind before refl refl
full_is before (Line.tact n) = reached 1 Tact before refl refl
full_is before (Line.const w n) = reached 64 Const before refl refl
full_is before (Line.cell w) = reached 64 Cell before refl refl
full_is before (Line.input w) = reached 32 In before refl refl
full_is before (Line.output w) = reached 32 Out before refl refl
full_is before (Line.process w) = reached 32 Proc before refl refl
full_is before (Line.state w b) = capped_leb 16 (count (is State) (leading (is State) before)) refl

pub past_is : (before : List Line) (l : Line) (behind : List Line) → past_with (tally_of before) (with_line (tally_of before) l) l behind ≡ past_limit before l behind
unfolding with_line
past_is before l behind =
    let over : ltb 4096 (capped (capped (total instructions before) + capped (instructions l))) ≡ ltb 4096 (total instructions (l ∷ before)) =
    ap (ltb 4096) (sums before l) ∙ capped_leb 4097 (total instructions (l ∷ before)) refl in
    λ i. past_range l || (full_is before l i || (stateless l behind || over i))

-- The same by counts that the code keeps.
pub past_told : {t u : Tally} (before : List Line) (l : Line) (behind : List Line) → t ≡ tally_of before → u ≡ with_line t l → past_with t u l behind ≡ past_limit before l behind
past_told {t} {u} before l behind e f = ap (λ v. past_with t v l behind) f ∙ ap (λ s. past_with s (with_line s l) l behind) e ∙ past_is before l behind

pub tally_told : {t u : Tally} (before : List Line) (l : Line) → t ≡ tally_of before → u ≡ with_line t l → u ≡ tally_of (l ∷ before)
tally_told before l e f = f ∙ ap (λ s. with_line s l) e ∙ tally_more before l

-- Every sort has a place among the counts.
pub place_within : (o : Opener) → place o < 8
place_within Kind = omega arith
place_within Tact = omega arith
place_within Const = omega arith
place_within Cell = omega arith
place_within In = omega arith
place_within Out = omega arith
place_within Proc = omega arith
place_within State = omega arith
