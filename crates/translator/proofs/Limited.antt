-- Lines that pass no limit take at most 4,096 instructions in all.
use Rattle.std.proofs.Common.{◌≡◌, ℕ, suc, ◌+◌, ◌≤◌, Bool, true, false, cond, ◌||◌, ltb, List, [], ◌∷◌, Some, None, Option, refl, arith, ltb-false}
use Rattle.std.proofs.lemmas.Bool.{or_parts}
use Rattle.language.specs.Basics.{Word, total, leading, first_where}
use Rattle.language.specs.Causes.{instructions, past_limit, past_range, too_many, stateless}
use Rattle.language.specs.Lines.{is, declared, processes, states_behind}
use Rattle.language.specs.Named.{Line}
use Rattle.language.specs.Program.{size_of_bodies, size_of_all}
use Rattle.language.specs.Resolve.{Names, bodies, resolved, program, all_names}
use Rattle.language.proofs.Sizes.{act_sizes}
use Rattle.language.specs.declared.house.Opener.TheVariants.{State}

-- No place is found: the test fails here, and further on no place is found.
not_here : {A : Type 0} (b : Bool) (n : A) (o : Option A) → cond b (Some n) o ≡ None → (b ≡ false) × (o ≡ None)
not_here true n o h = let z : ◌≡◌ {A = ℕ} 0 1 = cc in absurd (omega arith)
not_here false n o h = (refl, h)

or_last : (a b c d : Bool) → (a || (b || (c || d))) ≡ false → d ≡ false
or_last a b c d h = (or_parts c d (or_parts b (c || d) (or_parts a (b || (c || d)) h).1).1).1

pub few_instructions : (n : ℕ) (before ls : List Line) → first_where past_limit n before ls ≡ None → total instructions before ≤ 4096 → total instructions before + total instructions ls ≤ 4096
few_instructions n before [] h k = omega arith
few_instructions n before (l ∷ ls) h k =
    let parts = not_here (past_limit before l ls) n (first_where past_limit (suc n) (l ∷ before) ls) h in
    let below = ltb-false 4096 (total instructions (l ∷ before)) (or_last (past_range l) (too_many before l) (stateless l ls) (ltb 4096 (total instructions (l ∷ before))) parts.0) in
    omega (arith, few_instructions (suc n) (l ∷ before) ls parts.1 below)

-- The bodies of the state lines that stand in front take as many instructions as these lines.
states_sizes : (n : Names) (p : ℕ) (ss : List Word) (s : ℕ) (ls : List Line) → size_of_bodies (bodies n p ss s (leading (is State) ls)) ≡ total instructions (leading (is State) ls)
states_sizes n p ss s [] = refl
states_sizes n p ss s (Line.kind k ∷ ls) = refl
states_sizes n p ss s (Line.tact d ∷ ls) = refl
states_sizes n p ss s (Line.const w d ∷ ls) = refl
states_sizes n p ss s (Line.cell w ∷ ls) = refl
states_sizes n p ss s (Line.input w ∷ ls) = refl
states_sizes n p ss s (Line.output w ∷ ls) = refl
states_sizes n p ss s (Line.process w ∷ ls) = refl
states_sizes n p ss s (Line.state w a ∷ ls) =
    let here = act_sizes n (record { own = p; states = ss; here = s }) a in
    let there = act_sizes (all_names []) (record { own = 0; states = []; here = 0 }) a in
    omega (arith, here, there, states_sizes n p ss (suc s) ls)

-- Each state line counts for one process at most.
groups_sizes : (n : Names) (p : ℕ) (ls : List Line) → total instructions (leading (is State) ls) + size_of_all (resolved n p (processes ls)) ≤ total instructions ls
groups_sizes n p [] = omega arith
groups_sizes n p (Line.kind k ∷ ls) = omega (arith, groups_sizes n p ls)
groups_sizes n p (Line.tact d ∷ ls) = omega (arith, groups_sizes n p ls)
groups_sizes n p (Line.const w d ∷ ls) = omega (arith, groups_sizes n p ls)
groups_sizes n p (Line.cell w ∷ ls) = omega (arith, groups_sizes n p ls)
groups_sizes n p (Line.input w ∷ ls) = omega (arith, groups_sizes n p ls)
groups_sizes n p (Line.output w ∷ ls) = omega (arith, groups_sizes n p ls)
groups_sizes n p (Line.process w ∷ ls) = omega (arith, states_sizes n p (declared State (states_behind ls)) 0 ls, groups_sizes n (suc p) ls)
groups_sizes n p (Line.state w a ∷ ls) = omega (arith, groups_sizes n p ls)

-- The program of lines that pass no limit.
pub small_program : (ls : List Line) → first_where past_limit 1 [] ls ≡ None → size_of_all (program ls) ≤ 4096
small_program ls h = omega (arith, few_instructions 1 [] ls h (omega arith), groups_sizes (all_names ls) 0 ls)
