-- A live run with what it is lent, at its beginning.
use Rattle.std.specs.Prelude.{◌≡◌, ◌+◌, List, length, replicate, ℤ, vec_items}
use Rattle.kinds.specs.Ops.{Ops}
use Rattle.flat.specs.Words.{word}
use Rattle.flat.specs.Layout.{Holds}
use Rattle.board.specs.Rows.{first_board}
use Rattle.machine.specs.Scan.{World}
use Rattle.playback.specs.Listing.{at_rest}
use Rattle.playback.specs.declared.listing.Player.{Player}

-- A run of the code with what it is lent, on a host at rest.
abbrev pub standing : {V : Type 0} → List ℤ → Player V → World V
standing code p = at_rest code (vec_items p.cells) p.board p.live.scans

-- The run holds the code with its head, had no scan, has just the code's cells, each zero, and the first board, and is lent the working
-- memory that a scan of the code needs.
pub record Begun {V : Type 0} (k : Ops V) (code : List ℤ) (p : Player V) : Type 0 where
  pub same_code : p.live.code.now ≡ code
  pub holds : Holds p.live.code.now p.live.head
  pub scans : p.live.scans ≡ 0
  pub cells : vec_items p.cells ≡ replicate (word code 2) k.zero
  pub board : p.board ≡ first_board
  pub room : length (vec_items p.work) ≡ word code 2 + 16
