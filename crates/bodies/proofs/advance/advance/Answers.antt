use Rattle.std.proofs.Common.{◌≡◌, ap, ◌∙◌, rules}
use Rattle.flat.specs.Words.{word}
use Rattle.bodies.specs.Sweep.{sweep}
use Rattle.bodies.specs.Advance.{begun}
use Rattle.bodies.specs.Memory.{meaning}
use Rattle.bodies.proofs.advance.advance.Goals as goal

pub returns : goal.returns
returns g c =
    let code = c.args.code.now in
    let s : meaning g.K.Kind.ops c.begin-scan.result ≡ begun code c.args.cells.now c.args.board.now = search rules in
    let e = c.in_ok-steps.ensures.result ∙ ap (sweep g.K.Kind.ops c.args.seen.now code (word code 5) 0 0) s in
    search rules
