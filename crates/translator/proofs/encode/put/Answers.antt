use Rattle.std.proofs.Common.{rules}
use Rattle.translator.specs.Writing.{put_at}
use Rattle.translator.proofs.encode.put.Goals as goal

pub returns : goal.returns
unfolding put_at
returns c = search rules
