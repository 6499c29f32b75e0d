-- On to the line behind.
use Rattle.std.proofs.Common.{◌≡◌, ◌∙◌, sym, refl, ap, subst}
use Rattle.text.specs.Sheet.{next_row}
use Rattle.naming.specs.Spots.{Stands}
use Rattle.naming.proofs.Spots.{stands_state, stands_other}
use Rattle.naming.proofs.spot.SpotsIterator.next.Goals as goal
use Rattle.naming.proofs.spot.SpotsIterator.next.Goals.{then-is_line, else-is_line}

pub invariant_of-self-clause-stands : goal.invariant_of-self-clause-stands
invariant_of-self-clause-stands c =
    let s = c.args.self.now in
    let at = c.in_ok-at.at in
    let e = c.in_ok-at.ensures in
    let st = subst (Stands s.before s.states) (sym e.first) s.stands in
    let n : c.in_ok-at.behind.first ≡ next_row s.before.rows.now at = e.next ∙ ap (λ r. next_row r at) s.sheet in
    elim c.if-is_line.branch [
      | then-is_line w ↦ stands_state s.before s.states at st _ _ _ w.if-is_line.ensures n refl refl refl (ap (λ i. i.rows.now) w.self-is) (ap (λ i. i.first) w.self-is) (ap (λ i. i.count) w.self-is)
      | else-is_line w ↦ stands_other s.before s.states at st _ _ _ w.if-is_line.ensures n refl refl refl (ap (λ i. i.rows.now) w.self-is ∙ e.rows ∙ s.sheet) (ap (λ i. i.first) w.self-is) (ap (λ i. i.count) w.self-is)
    ]
