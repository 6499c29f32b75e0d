-- The start is taken, and the run stands at its beginning.
use Rattle.std.proofs.Common.{length, ap, ◌+◌, ◌∙◌}
use lib.ListN.{length-replicate}
use Rattle.std.proofs.lemmas.List.{take_at}
use Rattle.flat.specs.declared.head.Head.{Head}
use Rattle.machine.specs.Scan.{World}
use Rattle.playback.proofs.Runs.{start_taken, started_cells}
use Rattle.playback.proofs.Turns.{holds_same}
use Rattle.playback.proofs.listing.Player.begin.Goals as goal

pub unreachable-requires : goal.unreachable-requires
unreachable-requires g c =
    start_taken g.K.Kind.ops c.args.mounted c.head-head.result (record { cells = c.deref_mut.result.now; board = c.new-board.result; scans = 0; host = c.new-tape.result }) c.requires.mounted c.head-head.ensures
    (c.deref_mut.ensures.value ∙ c.in_ok-cells.ensures) (record { rest = c.new-tape.ensures.rest; latch = c.new-tape.ensures.latch; used = c.new-tape.ensures.used; held = c.new-tape.ensures.held })
    (record { cells = c.start.new.cells; board = c.start.new.board; scans = 0; host = c.start.new.host }) c.in_default.field-0 c.requires.kind c.in_default.ensures

pub returns : goal.returns
returns g c =
    let started = c.in-Ok.ensures in
    let cells = started_cells g.K.Kind.ops c.args.mounted c.head-head.result (record { cells = c.deref_mut.result.now; board = c.new-board.result; scans = 0; host = c.new-tape.result }) c.requires.mounted c.head-head.ensures
    (c.deref_mut.ensures.value ∙ c.in_ok-cells.ensures) (record { rest = c.new-tape.ensures.rest; latch = c.new-tape.ensures.latch; used = c.new-tape.ensures.used; held = c.new-tape.ensures.held })
    c.in-Ok.live (record { cells = c.start.new.cells; board = c.start.new.board; scans = 0; host = c.start.new.host }) started in
    record {
      same_code = started.same_code;
      holds = holds_same _ _ _ _ started.same_code started.same_head c.requires.mounted;
      scans = started.none;
      cells = take_at _ _ _ (c.start.auto.cells ∙ c.deref_mut.ensures.len) ∙ cells;
      board = ap (λ (w : World g.row.K.Denot). w.board) started.begun;
      room = ap length c.in_ok-work.ensures ∙ length-replicate _ _ ∙ ap (λ (x : Head). x.cells + 16) (c.head-head.ensures ∙ c.requires.mounted.head_is);
    }
