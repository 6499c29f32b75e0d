-- Each turn scans the row that comes next.
use Rattle.std.proofs.Common.{vec_items, ◌∙◌}
use Rattle.playback.proofs.Turns.{listed_more, listed-refused}
use Rattle.playback.proofs.listing.Player.list.Goals as goal

pub returns-in-Err : goal.returns-in-Err
returns-in-Err g c =
    listed-refused vec_items c.args.rows.now c.loop-i.i c.index-rows-i.result c.loop-i.invariant.listed c.loop-i-test.true c.index-rows-i.is _ c.deref.ensures.value _ _ c.loop-i.invariant.same_code c.loop-i.invariant.same_room _ _ _
    c.in-Err.refusal c.number-number.result _ c.in-Err.ensures.result c.number-number.ensures c.in_ok-push_shown_with_room-in-Err.ensures.appended

pub loop-i-preserved : goal.loop-i-preserved
loop-i-preserved g c = record {
  same_code = c.in-Ok.ensures.code ∙ c.loop-i.invariant.same_code;
  same_head = c.in-Ok.ensures.head ∙ c.loop-i.invariant.same_head;
  same_room = c.in-Ok.ensures.room ∙ c.loop-i.invariant.same_room;
  listed =
      listed_more vec_items c.args.rows.now c.loop-i.i c.index-rows-i.result c.loop-i.invariant.listed c.loop-i-test.true c.index-rows-i.is _ c.deref.ensures.value _ _ c.loop-i.invariant.same_code c.loop-i.invariant.same_room _ _ _
      c.in-Ok.steps c.head-head.result _ c.in-Ok.ensures.result (c.head-head.ensures ∙ c.requires.head_is) (rw c.deref-in-Ok.ensures.value at c.in_ok-push_scan_line-in-Ok.ensures);
}
