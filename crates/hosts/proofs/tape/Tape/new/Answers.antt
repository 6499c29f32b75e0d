-- The front of the zeros is as many zeros, and there is none beyond 32.
use Rattle.std.proofs.Common.{◌≡◌, ℕ, ◌∙◌, inl, inr, List, [], take, replicate, ℤ, pos, Some, None, Option, refl, ap, arith, Bor}
use native.Mathlib.Nat.{sub-zero}
use Rattle.std.specs.Option.{unwrap_or}
use Rattle.std.specs.List.{PartBy}
use Rattle.std.proofs.lemmas.List.{take-replicate}
use Rattle.std.proofs.lemmas.Bool.{le-leb, lt-leb}
use Rattle.hosts.specs.TapeRows.{tape_lines}
use Rattle.hosts.proofs.tape.Tape.new.Goals as goal

-- What `get` gives of the zeros, or no zeros.
zeros_or_none : (width : ℕ) (front : Option (Bor (List ℤ))) (none : Bor (List ℤ)) → none.now ≡ [] → PartBy (λ (x : Bor (List ℤ)). x.now) (replicate 32 (pos 0)) 0 width front → (unwrap_or front none).now ≡ replicate (tape_lines width) (pos 0)
zeros_or_none width None none e (inl h, _) = absurd (omega arith)
zeros_or_none width None none e (inr h, _) = rw (lt-leb _ _ h) e
zeros_or_none width (Some x) none e (h, _) = rw (le-leb _ _ h.1) (h.2 ∙ ap (λ n. take n (replicate 32 (pos 0))) (sub-zero width) ∙ take-replicate width 32 (pos 0) h.1)

pub returns-clause-latch : goal.returns-clause-latch
returns-clause-latch c = ap (λ (r : Bor (List ℤ)). r.now) c.unwrap_or.ensures ∙ zeros_or_none c.args.width c.get.result _ refl c.get.ensures.lookup
