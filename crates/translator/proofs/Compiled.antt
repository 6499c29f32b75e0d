-- What is put for expressions, statements and processes is their code.
use Rattle.std.proofs.Common.{◌≡◌, ℕ, suc, ◌+◌, List, [], ◌∷◌, ℤ, pos, refl, ap, ◌∙◌, add-zero, arith}
use Rattle.flat.specs.declared.instr.Source.TheVariants.{Yes, No, Late}
use Rattle.flat.specs.declared.instr.Unary.TheVariants.{Test}
use Rattle.flat.specs.declared.instr.Instr.{Instr}
use Rattle.flat.specs.declared.instr.Instr.TheVariants.{End, Push, Convert, Combine, Jump, Unless}
use Rattle.language.specs.Basics.{Word, otherwise}
use Rattle.language.specs.Numbers.{word_value, natural}
use Rattle.language.specs.Named.{Line}
use Rattle.language.specs.Named.{Term, number, named, two, isnt, both, either, ask}
use Rattle.language.specs.Named.{Act, put, choose, when, pass, then, go, start, stop, next, restart, halt, fail, reset, after}
use Rattle.language.specs.Lines.{declared, body}
use Rattle.language.specs.Resolve.{Names, Spot, thing, thing_expr, target, put_into, process, asked, expr, stmt, bodies, resolved}
use Rattle.language.specs.Compile.{size, size_of, code, code_of}
use Rattle.language.specs.Program.{size_of_bodies, size_of_all, code_of_bodies, entries_of, instructions_from, entries_from}
use Rattle.language.specs.Sizes.{term_size, act_size, enquiry_size}
use Rattle.language.specs.declared.names.Thing.{Thing}
use Rattle.language.specs.declared.names.Thing.TheVariants.{Constant, Cell as CellThing, In as InThing, Out as OutThing}
use Rattle.language.specs.declared.names.Target.{Target}
use Rattle.language.specs.declared.names.Target.TheVariants.{Cell as CellTarget, Out as OutTarget}
use Rattle.language.specs.declared.house.Enquiry.{Enquiry}
use Rattle.language.specs.declared.house.Enquiry.TheVariants.{Active, Stopped, Failed, Passive}
use Rattle.language.specs.declared.house.Opener.TheVariants.{State}
use Rattle.language.proofs.Sizes.{term_sizes, act_sizes}
use Rattle.language.specs.Pushes.{thing_source, target_instr}
use Rattle.translator.specs.Writing.{put_at, enquiry_put, term_put, act_put, states_size, processes_size, states_put, processes_put}
use Rattle.translator.specs.Front.{line_entries, process_entries}

-- Instructions put one behind another, from place p on.
abbrev pub puts : ℕ → List Instr → List ℤ → List ℤ
puts p [] ws = ws
puts p (i ∷ is) ws = puts (p + 1) is (put_at p i ws)

puts_thing : (t : Thing) (p : ℕ) (rest : List Instr) (ws : List ℤ) → puts p (code p (thing_expr t) rest) ws ≡ puts (p + 1) rest (put_at p (Push (thing_source t)) ws)
puts_thing (Constant v) p rest ws = refl
puts_thing (CellThing i) p rest ws = refl
puts_thing (InThing i) p rest ws = refl
puts_thing (OutThing i) p rest ws = refl

puts_enquiry : (q : Enquiry) (r p : ℕ) (rest : List Instr) (ws : List ℤ) → puts p (code p (asked q r) rest) ws ≡ puts (p + enquiry_size q) rest (enquiry_put p q r ws)
puts_enquiry Active r p rest ws = refl
puts_enquiry Stopped r p rest ws = refl
puts_enquiry Failed r p rest ws = refl
puts_enquiry Passive r p rest ws = let e : p + 2 ≡ p + 1 + 1 = omega arith in rw e

-- The code of an expression.
puts_term : (n : Names) (t : Term) (p : ℕ) (rest : List Instr) (ws : List ℤ) → puts p (code p (expr n t) rest) ws ≡ puts (p + term_size t) rest (term_put n p t ws)
puts_term n (number ds) p rest ws = refl
puts_term n (named w) p rest ws = puts_thing (otherwise (Constant (pos 0)) (thing n w)) p rest ws
puts_term n (two o a b) p rest ws =
    let e : p + (term_size a + term_size b + 1) ≡ p + term_size a + term_size b + 1 = omega arith in
    let s = term_sizes n a in
    rw e ((λ i. puts p (code p (expr n a) (code (p + s i) (expr n b) (Combine o ∷ rest))) ws) ∙ puts_term n a p _ ws ∙ puts_term n b (p + term_size a) _ _)
puts_term n (isnt a) p rest ws =
    let e : p + (term_size a + 1) ≡ p + term_size a + 1 = omega arith in
    rw e (puts_term n a p _ ws)
puts_term n (both a b) p rest ws =
    let e : p + (term_size a + term_size b + 4) ≡ p + term_size a + 1 + term_size b + 1 + 1 + 1 = omega arith in
    let s = term_sizes n a in
    let t = term_sizes n b in
    rw e
    ((λ i. let F = p + s i + 1 + t i + 2 in puts p (code p (expr n a) (Unless F ∷ code (p + s i + 1) (expr n b) (Convert Test ∷ (Jump (F + 1) ∷ (Push No ∷ rest))))) ws)
    ∙ puts_term n a p _ ws ∙ puts_term n b (p + term_size a + 1) _ _)
puts_term n (either a b) p rest ws =
    let e : p + (term_size a + term_size b + 4) ≡ p + term_size a + 1 + 1 + 1 + term_size b + 1 = omega arith in
    let s = term_sizes n a in
    let t = term_sizes n b in
    let f : p + size (expr n a) + 3 ≡ p + term_size a + 1 + 1 + 1 = omega arith in
    rw e
    ((λ i. let F = p + s i + 3 in puts p (code p (expr n a) (Unless F ∷ (Push Yes ∷ (Jump (F + t i + 1) ∷ code (f i) (expr n b) (Convert Test ∷ rest))))) ws)
    ∙ puts_term n a p _ ws ∙ puts_term n b (p + term_size a + 1 + 1 + 1) _ _)
puts_term n (ask q w) p rest ws = puts_enquiry q (process n w) p rest ws

puts_put : (n : Names) (t : Target) (e : Term) (p : ℕ) (rest : List Instr) (ws : List ℤ)
    → puts p (code_of p (put_into t (expr n e)) rest) ws ≡ puts (p + (term_size e + 1)) rest (put_at (p + term_size e) (target_instr t) (term_put n p e ws))
puts_put n (CellTarget i) e p rest ws = let f : p + (term_size e + 1) ≡ p + term_size e + 1 = omega arith in rw f (puts_term n e p _ ws)
puts_put n (OutTarget i) e p rest ws = let f : p + (term_size e + 1) ≡ p + term_size e + 1 = omega arith in rw f (puts_term n e p _ ws)

-- The code of a statement.
puts_act : (n : Names) (at : Spot) (a : Act) (p : ℕ) (rest : List Instr) (ws : List ℤ) → puts p (code_of p (stmt n at a) rest) ws ≡ puts (p + act_size a) rest (act_put n at p a ws)
puts_act n at (put w e) p rest ws = puts_put n (otherwise (CellTarget 0) (target n w)) e p rest ws
puts_act n at (choose e s t) p rest ws =
    let f : p + (term_size e + act_size s + act_size t + 2) ≡ p + term_size e + 1 + act_size s + 1 + act_size t = omega arith in
    let j = term_sizes n e in
    let k = act_sizes n at s in
    let l = act_sizes n at t in
    rw f
    ((λ i. let L = p + j i + 1 + k i + 1 in puts p (code p (expr n e) (Unless L ∷ code_of (p + j i + 1) (stmt n at s) (Jump (L + l i) ∷ code_of L (stmt n at t) rest))) ws)
    ∙ puts_term n e p _ ws ∙ puts_act n at s (p + term_size e + 1) _ _ ∙ puts_act n at t (p + term_size e + 1 + act_size s + 1) rest _)
puts_act n at (when e s) p rest ws =
    let f : p + (term_size e + act_size s + 1) ≡ p + term_size e + 1 + act_size s = omega arith in
    let j = term_sizes n e in
    let k = act_sizes n at s in
    rw f
    ((λ i. puts p (code p (expr n e) (Unless (p + j i + 1 + k i) ∷ code_of (p + j i + 1) (stmt n at s) rest)) ws)
    ∙ puts_term n e p _ ws ∙ puts_act n at s (p + term_size e + 1) rest _)
puts_act n at pass p rest ws = rw (add-zero p)
puts_act n at (then s t) p rest ws =
    let f : p + (act_size s + act_size t) ≡ p + act_size s + act_size t = omega arith in
    let k = act_sizes n at s in
    rw f ((λ i. puts p (code_of p (stmt n at s) (code_of (p + k i) (stmt n at t) rest)) ws) ∙ puts_act n at s p _ ws ∙ puts_act n at t (p + act_size s) rest _)
puts_act n at (go s) p rest ws = refl
puts_act n at (start q) p rest ws = refl
puts_act n at (stop q) p rest ws = refl
puts_act n at next p rest ws = refl
puts_act n at restart p rest ws = refl
puts_act n at halt p rest ws = refl
puts_act n at fail p rest ws = refl
puts_act n at reset p rest ws = refl
puts_act n at (after ds s) p rest ws =
    let f : p + (act_size s + 2) ≡ p + 1 + 1 + act_size s = omega arith in
    let g : p + 2 ≡ p + 1 + 1 = omega arith in
    let k = act_sizes n at s in
    rw f
    ((λ i. puts (p + 1 + 1) (code_of (g i) (stmt n at s) rest) (put_at (p + 1) (Unless (p + 2 + k i)) (put_at p (Push (Late (natural (word_value ds)))) ws)))
    ∙ puts_act n at s (p + 1 + 1) rest _)

-- The code of a process's bodies, and how many instructions it has.
bodies_size : (n : Names) (q : ℕ) (states : List Word) (s : ℕ) (ls : List Line) → size_of_bodies (bodies n q states s ls) ≡ states_size ls
bodies_size n q states s [] = refl
bodies_size n q states s (l ∷ ls) =
    let h = act_sizes n (record { own = q; states = states; here = s }) (body l) in
    let k = bodies_size n q states (suc s) ls in
    omega arith

puts_states : (n : Names) (q : ℕ) (states : List Word) (s p : ℕ) (ls : List Line) (rest : List Instr) (ws : List ℤ)
    → puts p (code_of_bodies p (bodies n q states s ls) rest) ws ≡ puts (p + states_size ls) rest (states_put n q states s p ls ws)
puts_states n q states s p [] rest ws = rw (add-zero p)
puts_states n q states s p (l ∷ ls) rest ws =
    let at : Spot = record { own = q; states = states; here = s } in
    let f : p + (act_size (body l) + 1 + states_size ls) ≡ p + act_size (body l) + 1 + states_size ls = omega arith in
    let k : p + (size_of (stmt n at (body l)) + 1) ≡ p + act_size (body l) + 1 = omega (arith, act_sizes n at (body l)) in
    rw f
    ((λ i. puts p (code_of p (stmt n at (body l)) (End ∷ code_of_bodies (k i) (bodies n q states (suc s) ls) rest)) ws)
    ∙ puts_act n at (body l) p _ ws ∙ puts_states n q states (suc s) (p + act_size (body l) + 1) ls rest _)

-- The code of all processes.
pub all_size : (n : Names) (q : ℕ) (gs : List (List Line)) → size_of_all (resolved n q gs) ≡ processes_size gs
all_size n q [] = refl
all_size n q (g ∷ gs) =
    let h = bodies_size n q (declared State g) 0 g in
    let k = all_size n (suc q) gs in
    omega arith

pub puts_processes : (n : Names) (q p : ℕ) (gs : List (List Line)) (ws : List ℤ) → puts p (instructions_from p (resolved n q gs)) ws ≡ processes_put n q p gs ws
puts_processes n q p [] ws = refl
puts_processes n q p (g ∷ gs) ws =
    let k = bodies_size n q (declared State g) 0 g in
    (λ i. puts p (code_of_bodies p (bodies n q (declared State g) 0 g) (instructions_from (p + k i) (resolved n (suc q) gs))) ws)
    ∙ puts_states n q (declared State g) 0 p g _ ws ∙ puts_processes n (suc q) (p + states_size g) gs _

-- Where their bodies begin.
bodies_entries : (n : Names) (q : ℕ) (states : List Word) (s p : ℕ) (ls : List Line) → entries_of p (bodies n q states s ls) ≡ line_entries p ls
bodies_entries n q states s p [] = refl
bodies_entries n q states s p (l ∷ ls) =
    let k = act_sizes n (record { own = q; states = states; here = s }) (body l) in
    (λ i. p ∷ entries_of (p + (k i + 1)) (bodies n q states (suc s) ls)) ∙ ap (λ es. p ∷ es) (bodies_entries n q states (suc s) (p + (act_size (body l) + 1)) ls)

pub all_entries : (n : Names) (q p : ℕ) (gs : List (List Line)) → entries_from p (resolved n q gs) ≡ process_entries p gs
all_entries n q p [] = refl
all_entries n q p (g ∷ gs) =
    let j = bodies_entries n q (declared State g) 0 p g in
    let k = bodies_size n q (declared State g) 0 g in
    (λ i. j i ∷ entries_from (p + k i) (resolved n (suc q) gs)) ∙ ap (λ es. line_entries p g ∷ es) (all_entries n (suc q) (p + states_size g) gs)
