-- One entry more, an unused one, and all.
use Rattle.std.proofs.Common.{◌≡◌, ◌+◌, ◌^◌, ◌<◌, map, set, refl, ap, arith, w32}
use mir.Facts.{to_z_pos}
use Rattle.language.specs.Lines.{body}
use Rattle.language.specs.OnSheet.{line_at}
use Rattle.language.specs.Sizes.{act_size}
use Rattle.translator.specs.Writing.{states_size}
use Rattle.translator.proofs.Fronts.{entries_from, entries_more, entries_pad, entries_all}
use Rattle.translator.proofs.front.write_entries.Goals as goal
use Rattle.translator.proofs.front.write_entries.Goals.{in-Some, in-None}

pub loop-i-init : goal.loop-i-init
loop-i-init c = rw (c.iter-left.ensures.rows, c.items.ensures.starts) (entries_from _ _ _ _)

pub loop-i-preserved : goal.loop-i-preserved
loop-i-preserved c =
    let read = map (line_at c.args.sheet.lines.rows.now) in
    elim c.match-next.branch [
      | in-Some w ↦
          let e = ap read w.in-Some.ensures.steps in
          let h = ap states_size e in
          let few : c.loop-i.place < 2 ^ 31 = omega arith in
          let n : c.match-next.place ≡ c.loop-i.place + (act_size (body (line_at c.args.sheet.lines.rows.now w.in-Some.at)) + 1) = omega arith in
          rw w.code-is (entries_more _ _ _ _ _ _ _ _ _ _ _ _ c.loop-i.invariant e c.loop-i-test.true n (ap (set c.loop-i.code (c.args.w + c.loop-i.i)) (to_z_pos w32 few)))
      | in-None w ↦
          let e = ap read w.in-None.ensures.steps.0 in
          let f = ap read w.in-None.ensures.steps.1 in
          rw (f, w.place-is, w.code-is) (entries_pad _ _ _ _ _ _ _ _ _ c.loop-i.invariant e c.loop-i-test.true refl)
    ]

pub returns : goal.returns
returns c = entries_all _ _ _ _ _ _ _ _ c.loop-i.invariant c.loop-i-test.false
