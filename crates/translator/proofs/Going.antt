-- Statements put one behind another.
use Rattle.std.proofs.Common.{◌≡◌, ℕ, suc, ◌+◌, ◌≤◌, max, List, [], ◌∷◌, ℤ, refl, arith}
use Rattle.flat.specs.declared.instr.Instr.TheVariants.{End}
use Rattle.language.specs.Lines.{declared, body}
use Rattle.language.specs.Program.{longest_body, bound}
use Rattle.language.specs.declared.house.Opener.TheVariants.{State}
use Rattle.language.specs.Named.{Line}
use Rattle.language.specs.Named.{Act, pass, then}
use Rattle.language.specs.Resolve.{Names, Spot, stmt, bodies, resolved}
use Rattle.language.specs.Compile.{longest_of}
use Rattle.language.specs.Sizes.{act_size}
use Rattle.translator.specs.Writing.{put_at, act_put, states_size, states_put, processes_size, processes_put, ActEmitted, StatesEmitted}

-- Of the statements `all`, to be put from place p on, `remaining` is left, from place q on.
pub record Going (n : Names) (at : Spot) (all remaining : Act) (p q most : ℕ) (old new : List ℤ) : Type 0 where
  pub next : q + act_size remaining ≡ p + act_size all
  pub most_left : most + longest_of (stmt n at remaining) ≡ longest_of (stmt n at all)
  pub within : most + act_size remaining ≤ act_size all
  pub wrote : act_put n at q remaining new ≡ act_put n at p all old

pub going_from : (n : Names) (at : Spot) (all : Act) (p : ℕ) (old : List ℤ) → Going n at all all p p 0 old old
going_from n at all p old = record { next = refl; most_left = omega arith; within = omega arith; wrote = refl }

pub going_more : (n : Names) (at : Spot) (all s remaining more : Act) (p q most : ℕ) (old new last : List ℤ) (r : ℕ × ℕ)
    → Going n at all remaining p q most old new → remaining ≡ then s more → ActEmitted n at s q new last r → Going n at all more p r.0 (most + r.1) old last
going_more n at all s remaining more p q most old new last r g e f =
    let k : Going n at all (then s more) p q most old new = rw e at g in
    let a = k.next in
    let b = k.most_left in
    let c = k.within in
    let x = f.next in
    let y = f.most in
    let z = f.within in
    record {
      next = omega arith;
      most_left = omega arith;
      within = omega arith;
      wrote = rw (x, f.wrote) k.wrote;
    }

pub going_all : (n : Names) (at : Spot) (all remaining : Act) (p q most : ℕ) (old new : List ℤ) → Going n at all remaining p q most old new → remaining ≡ pass → ActEmitted n at all p old new (q, most)
going_all n at all remaining p q most old new g e =
    let k : Going n at all pass p q most old new = rw e at g in
    let a = k.next in
    let b = k.most_left in
    let c = k.within in
    record { next = omega arith; most = omega arith; within = omega arith; wrote = k.wrote }

-- Of the state lines `all` of process q, whose bodies are to be put from place p on, those from state s on are left, from place next on.
pub record StatesGoing (n : Names) (q : ℕ) (all left : List Line) (s p next most : ℕ) (old new : List ℤ) : Type 0 where
  pub ended : next + states_size left ≡ p + states_size all
  pub most_left : max most (longest_body (bodies n q (declared State all) s left)) ≡ longest_body (bodies n q (declared State all) 0 all)
  pub within : most + states_size left ≤ states_size all
  pub wrote : states_put n q (declared State all) s next left new ≡ states_put n q (declared State all) 0 p all old

pub states_from : (n : Names) (q : ℕ) (all : List Line) (p : ℕ) (old : List ℤ) → StatesGoing n q all all 0 p p 0 old old
states_from n q all p old = record { ended = refl; most_left = omega arith; within = omega arith; wrote = refl }

pub states_more : (n : Names) (q : ℕ) (all left behind : List Line) (l : Line) (s p next most e m : ℕ) (old new mid last : List ℤ) (r : ℕ × ℕ)
    → StatesGoing n q all left s p next most old new → left ≡ l ∷ behind
    → ActEmitted n (record { own = q; states = declared State all; here = s }) (body l) next new mid r → e ≡ r.0 + 1 → last ≡ put_at r.0 End mid → m ≡ max most (r.1 + 1)
    → StatesGoing n q all behind (s + 1) p e m old last
states_more n q all left behind l s p next most e m old new mid last r g d f a b t =
    let k : StatesGoing n q all (l ∷ behind) s p next most old new = rw d at g in
    let h = k.ended in
    let i = k.most_left in
    let j = k.within in
    let x = f.next in
    let y = f.most in
    let z = f.within in
    let w = f.wrote in
    let u : s + 1 ≡ suc s = omega arith in
    record {
      ended = omega arith;
      most_left = rw (u, t) (omega arith);
      within = omega arith;
      wrote = rw (u, a, b, x, w) k.wrote;
    }

pub states_all : (n : Names) (q : ℕ) (all left : List Line) (s p next most : ℕ) (old new : List ℤ) → StatesGoing n q all left s p next most old new → left ≡ [] → StatesEmitted n q all p old new (next, most)
states_all n q all left s p next most old new g d =
    let k : StatesGoing n q all [] s p next most old new = rw d at g in
    let h = k.ended in
    let i = k.most_left in
    let j = k.within in
    record { next = omega arith; most = omega arith; within = omega arith; wrote = k.wrote }

-- Of the processes `all`, whose bodies are to be put from place 0 on, those from process q on are left, from place p on.
pub record ProcessesGoing (n : Names) (all left : List (List Line)) (q p total : ℕ) (old new : List ℤ) : Type 0 where
  pub ended : p + processes_size left ≡ processes_size all
  pub bound_left : total + bound (resolved n q left) ≡ bound (resolved n 0 all)
  pub within : total + processes_size left ≤ processes_size all
  pub wrote : processes_put n q p left new ≡ processes_put n 0 0 all old

pub processes_from : (n : Names) (all : List (List Line)) (old : List ℤ) → ProcessesGoing n all all 0 0 0 old old
processes_from n all old = record { ended = omega arith; bound_left = omega arith; within = omega arith; wrote = refl }

pub processes_more : (n : Names) (all left behind : List (List Line)) (g : List Line) (q p total : ℕ) (old new last : List ℤ) (r : ℕ × ℕ)
    → ProcessesGoing n all left q p total old new → left ≡ g ∷ behind → StatesEmitted n q g p new last r → ProcessesGoing n all behind (q + 1) r.0 (total + r.1) old last
processes_more n all left behind g q p total old new last r k d f =
    let t : ProcessesGoing n all (g ∷ behind) q p total old new = rw d at k in
    let h = t.ended in
    let i = t.bound_left in
    let j = t.within in
    let x = f.next in
    let y = f.most in
    let z = f.within in
    let w = f.wrote in
    let u : q + 1 ≡ suc q = omega arith in
    record {
      ended = omega arith;
      bound_left = rw u (omega arith);
      within = omega arith;
      wrote = rw (u, x, w) t.wrote;
    }
