-- The code and its head stay, and so does the size of the working memory, and the scans of the rows so far are listed.
use Rattle.std.proofs.Common.{◌≡◌, ◌+◌, map, length, drop, vec_items}
use Rattle.playback.specs.Listing.{row_pins}
use Rattle.playback.specs.Players.{standing}
use Rattle.playback.proofs.Turns.{Listed}
use Rattle.playback.proofs.listing.Player.list.Given as goal

abbrev pub invariant-loop-i : goal.invariant-loop-i
invariant-loop-i g l =
    let code = l.initial.self.live.code.now in
    let pins = map (λ row. row_pins code (vec_items row)) in
    record {
      same_code : l.self.live.code.now ≡ code;
      same_head : l.self.live.head ≡ l.initial.self.live.head;
      same_room : length (vec_items l.self.work) ≡ length (vec_items l.initial.self.work);
      listed : Listed g.K.Kind.ops code (length (vec_items l.initial.self.work)) (pins l.rows) (standing code l.initial.self) (vec_items l.out) (l.i + 1) (pins (drop l.i l.rows)) (standing code l.self);
    }
