-- One state's body more, and all.
use Rattle.std.proofs.Common.{length, map, ap, ◌∙◌, zero-add, arith, rules}
use Rattle.text.proofs.Starts.{length-starts}
use Rattle.language.specs.OnSheet.{line_at}
use Rattle.translator.specs.Writing.{states_size}
use Rattle.translator.proofs.Going.{states_from, states_more, states_all}
use Rattle.translator.proofs.process.emit_states.Goals as goal

pub loop-here-init : goal.loop-here-init
loop-here-init c =
    let e = c.iter-at-items.ensures.rows ∙ c.items.ensures.starts in
    (zero-add _ ∙ ap length e ∙ length-starts _ _ _, rw e (states_from _ _ _ _ _))

pub invariant_of-site : goal.invariant_of-site
invariant_of-site c =
    let e = ap length c.in-Some.ensures.steps in
    let n = c.loop-here.invariant.0 in
    let few = c.args.states.few in
    record { few_processes = c.requires.few; few_before = omega arith }

pub emit_body-end-requires : goal.emit_body-end-requires
emit_body-end-requires c =
    let h = ap (λ ats. states_size (map (line_at c.args.sheet.lines.rows.now) ats)) c.in-Some.ensures.steps in
    search rules

pub put-next-requires : goal.put-next-requires
put-next-requires c =
    let h = ap (λ ats. states_size (map (line_at c.args.sheet.lines.rows.now) ats)) c.in-Some.ensures.steps in
    search rules

pub loop-here-preserved : goal.loop-here-preserved
loop-here-preserved c =
    let n = ap length c.in-Some.ensures.steps in
    let e = c.loop-here.invariant.0 in
    let h = ap (map (line_at c.args.sheet.lines.rows.now)) c.in-Some.ensures.steps in (
      omega arith,
      states_more _ _ _ _ _ _ _ _ _ _ _ _ _ _ _ _ c.emit_body-end.result c.loop-here.invariant.1 h c.emit_body-end.ensures c.put-next.ensures.next c.put-next.ensures.wrote c.max-most.ensures,
    )

pub returns : goal.returns
returns c = states_all _ _ _ _ _ _ _ _ _ _ c.loop-here.invariant.1 (ap (map (line_at c.args.sheet.lines.rows.now)) c.in-None.ensures.steps.0)
