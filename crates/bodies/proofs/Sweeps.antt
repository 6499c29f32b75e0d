-- Laws of a process's turn and of all processes in order.
use Rattle.std.proofs.Common.{◌≡◌, ℕ, suc, ◌+◌, ◌-◌, ◌*◌, ◌<◌, ◌≤◌, List, length, ℤ, Ok, Err, Result, sym, refl, ap, ◌∙◌, subst, arith, length-drop}
use Rattle.kinds.specs.Ops.{Ops}
use Rattle.flat.specs.Words.{word, states, entry, body}
use Rattle.refusals.specs.declared.Fault.{Fault}
use Rattle.refusals.specs.declared.Fault.TheVariants.{Divisor, Stack}
use Rattle.refusals.specs.declared.GivenUp.{GivenUp}
use Rattle.board.specs.Rows.{state}
use Rattle.bodies.specs.Machine.{Machine}
use Rattle.bodies.specs.Body.{Ran, done}
use Rattle.bodies.specs.Sweep.{visit, no_divisor, no_stack, onward, sweep}
use Rattle.bodies.specs.Memory.{ran, given_up, Sound, Runnable}

-- what the run of a body asks
pub body_sound :
    (code : List ℤ) (q s e base : ℕ) (words : List ℤ)
    → Runnable code
    → q < word code 5
    → s < states code q
    → e ≡ entry code q s
    → base ≡ word code 2
    → words ≡ body code e
    → Sound base e words × (e * 2 + length words ≤ 8192)
body_sound code q s e base words y h l is b w =
    let few : e < word code 6 = rw is (y.entries q s h l) in
    let size : length (body code e) ≡ length code - (7 + 17 * word code 5 + 2 * e) = length-drop (7 + 17 * word code 5 + 2 * e) code in
    let top = y.size in
    let most = y.few_instructions in
    (rw (w, b) (y.sound e few), rw w (omega arith))

-- The answer of process q, in its state s, with its place where it is given up.
abbrev pub placed : ℕ → ℕ → Result ℕ Fault → Result ℕ GivenUp
placed q s (Ok n) = Ok n
placed q s (Err f) = Err (record { fault = f; place = record { process = q; state = s } })

pub placed_ok : (q s n : ℕ) (r : Result ℕ Fault) → placed q s r ≡ Ok n → r ≡ Ok n
placed_ok q s n (Ok j) e = cc
placed_ok q s n (Err f) e = cc

module _ {V : Type 0} (k : Ops V) (seen code : List ℤ) where
  -- the turn of process q, of n
  pub sweep_turn :
      (n q steps : ℕ) (m : Machine V)
      → q < n
      → sweep k seen code (n - q) q steps m ≡ onward (visit k seen code q m) q (state m.board q) (λ j m₁. sweep k seen code (n - (q + 1)) (q + 1) (steps + j) m₁)
  sweep_turn n q steps m h =
      let e : n - q ≡ suc (n - (q + 1)) = omega arith in
      rw e refl

  pub sweep_again :
      (n q steps j : ℕ) (m m₁ : Machine V)
      → q < n
      → done j m₁ ≡ visit k seen code q m
      → sweep k seen code (n - (q + 1)) (q + 1) (steps + j) m₁ ≡ sweep k seen code (n - q) q steps m
  sweep_again n q steps j m m₁ h e =
      ap (λ (r : Ran V). onward r q (state m.board q) (λ i m₂. sweep k seen code (n - (q + 1)) (q + 1) (steps + i) m₂)) e
      ∙ sym (sweep_turn n q steps m h)

  pub sweep_stop :
      (n q steps s : ℕ) (f : Fault) (m m₁ : Machine V)
      → q < n
      → s ≡ state m.board q
      → ran (Err f) m₁ ≡ visit k seen code q m
      → given_up f q s ≡ sweep k seen code (n - q) q steps m
  sweep_stop n q steps s f m m₁ h is e =
      refused f
      ∙ ap (λ (r : Ran V). onward r q (state m.board q) (λ i m₂. sweep k seen code (n - (q + 1)) (q + 1) (steps + i) m₂)) e
      ∙ sym (sweep_turn n q steps m h)
    where
      refused : (f : Fault) → given_up f q s ≡ onward (ran (Err f) m₁) q (state m.board q) (λ i m₂. sweep k seen code (n - (q + 1)) (q + 1) (steps + i) m₂)
      refused Divisor = ap (λ (x : ℕ). no_divisor q x) is
      refused Stack = ap (λ (x : ℕ). no_stack q x) is

  -- the same by the answer that tells the place too
  pub sweep_told :
      (n q steps s : ℕ) (r : Result ℕ Fault) (e : GivenUp) (m m₁ : Machine V)
      → q < n
      → s ≡ state m.board q
      → placed q s r ≡ Err e
      → ran r m₁ ≡ visit k seen code q m
      → given_up e.fault e.place.process e.place.state ≡ sweep k seen code (n - q) q steps m
  sweep_told n q steps s (Ok j) e m m₁ h is a t = cc
  sweep_told n q steps s (Err f) e m m₁ h is a t =
      let at : GivenUp = record { fault = f; place = record { process = q; state = s } } in
      let same : at ≡ e = cc in
      subst (λ (x : GivenUp). given_up x.fault x.place.process x.place.state ≡ sweep k seen code (n - q) q steps m) same (sweep_stop n q steps s f m m₁ h is t)
