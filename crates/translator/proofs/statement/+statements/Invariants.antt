use Rattle.std.proofs.Common.{◌+◌, ◌*◌, map}
use Rattle.text.specs.Items.{starts_left}
use Rattle.language.specs.OnSheet.{act_at, acts_of, sequence}
use Rattle.translator.specs.Writing.{names_at, spot_at}
use Rattle.translator.proofs.Going.{Going}
use Rattle.translator.proofs.statement.+statements.Given as goal

abbrev pub decreases-emit_act : goal.decreases-emit_act
decreases-emit_act l = 3 * l.left

abbrev pub decreases-emit_acts : goal.decreases-emit_acts
decreases-emit_acts l = 3 * l.left + 1

abbrev pub decreases-emit_parts : goal.decreases-emit_parts
decreases-emit_parts l = 3 * l.left + 2

abbrev pub decreases-emit_guarded : goal.decreases-emit_guarded
decreases-emit_guarded l = 3 * l.left + 1

abbrev pub invariant-emit_acts-loop-at : goal.invariant-emit_acts-loop-at
invariant-emit_acts-loop-at l =
    let rows = l.site.sheet.lines.rows.now in
    Going (names_at l.site.sheet) (spot_at l.site) (acts_of (act_at l.left rows) rows l.fn.first l.fn.count) (sequence (map (act_at l.left rows) (starts_left l.at-iterator))) l.p l.next l.most
    l.initial.code l.code
