use Rattle.std.proofs.Common.{◌≡◌, refl, ◌<◌, ℤ, sym, ap, ◌∙◌, inl, inr, arith, w32}
use Rattle.std.proofs.lemmas.List.{get_or_past}
use Rattle.std.proofs.lemmas.Int.{to_z-of_z}
use Rattle.std.proofs.lemmas.Bool.{cases_lt}
use Rattle.flat.specs.Instructions.{table, decoded}
use Rattle.flat.specs.Words.{natural}
use Rattle.flat.specs.declared.instr.Instr.TheVariants.{End}
use Rattle.flat.proofs.instr.decode.Goals as goal

-- no number from 1 to 27: the end
no_number : (op x : ℤ) → (natural op < 28 → natural op ≡ 0) → End ≡ decoded op x
unfolding decoded
no_number op x only =
    elim (cases_lt (natural op) 28) [
      | inl within ↦ rw (only within) refl
      | inr past ↦ sym (get_or_past (table x (natural x)) (natural op) End past)
    ]

pub returns-in_default : goal.returns-in_default
returns-in_default c =
    let same : c.as_count.result ≡ natural c.args.op = c.as_count.ensures ∙ ap natural (to_z-of_z w32 c.args.op c.ranges.op) in
    no_number c.args.op c.args.operand (λ within. omega arith)
