-- What is listed from the beginning on is what is to be printed.
use Rattle.std.proofs.Common.{vec_items}
use Rattle.playback.proofs.Runs.{ends_as, listed_run}
use Rattle.playback.proofs.replay.play.Goals as goal

pub returns : goal.returns
returns g c = ends_as vec_items c.list.result _ _ c.list.ensures (listed_run g.K.Kind.ops c.args.mounted.code.now vec_items c.args.rows.now c.in_ok-player.player c.in_ok-player.ensures)
