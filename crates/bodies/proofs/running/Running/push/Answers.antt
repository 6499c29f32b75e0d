use Rattle.std.proofs.Common.{arith}
use Rattle.bodies.specs.Memory.{meaning}
use Rattle.bodies.proofs.Stacks.{pushed_on}
use Rattle.bodies.proofs.running.Running.push.Goals as goal

pub returns : goal.returns
returns g c =
    pushed_on g.K.Kind.ops.zero (meaning g.K.Kind.ops c.args.self.now) c.args.self.now.stack.now c.args.self.now.depth c.args.v c.args.self.now.room (omega arith)
