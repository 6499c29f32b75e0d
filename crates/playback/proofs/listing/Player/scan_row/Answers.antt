-- The tape is made for the row, so its scan is one of the row.
use Rattle.std.proofs.Common.{List, length, refl, ap, ◌∙◌}
use Rattle.std.proofs.lemmas.List.{take_at}
use Rattle.machine.specs.Calls.{told}
use Rattle.playback.specs.Listing.{at_rest}
use Rattle.playback.proofs.Turns.{holds_same, made_scan}
use Rattle.playback.proofs.listing.Player.scan_row.Goals as goal

pub returns-clause-result : goal.returns-clause-result
returns-clause-result g c =
    let run = c.args.self.now in
    let scanned = made_scan g.K.Kind.ops run.live.code.now (length c.deref_mut-2.result.now) c.head.result (record { cells = c.deref_mut.result.now; board = run.board; scans = run.live.scans; host = c.new-tape.result }) (record { cells = c.scan.new.cells; board = c.scan.new.board; scans = c.scan.new.self.scans; host = c.scan.new.host }) c.args.row.now c.scan.result (holds_same _ _ _ _ refl c.head.ensures c.requires) (record { rest = c.new-tape.ensures.rest; latch = c.new-tape.ensures.latch; used = c.new-tape.ensures.used; held = c.new-tape.ensures.held }) c.scan.ensures.result in
    ap (λ (xs : List g.row.K.Denot). record { told = told c.scan.result; world = at_rest run.live.code.now xs c.scan.new.board c.scan.new.self.scans }) (take_at _ _ _ (c.scan.auto.cells ∙ c.deref_mut.ensures.len)) ∙ (rw (c.deref_mut.ensures.value, c.deref_mut-2.ensures.value) at scanned)
