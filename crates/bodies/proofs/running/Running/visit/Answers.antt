use Rattle.std.proofs.Common.{◌≡◌, ◌<◌, arith, rules}
use Rattle.flat.specs.Words.{word, states, entry}
use Rattle.bodies.proofs.Sweeps.{body_sound}
use Rattle.bodies.proofs.running.Running.visit.Goals as goal

pub instructions_from-requires : goal.instructions_from-requires
instructions_from-requires g c =
    let l : c.state-s.result < states c.args.code.now c.args.q = search rules in
    let e : c.count_at-entry.result ≡ entry c.args.code.now c.args.q c.state-s.result = search rules in
    let few = c.requires.layout.entries c.args.q c.state-s.result c.requires.process l in
    let h : c.count_at-entry.result < word c.args.code.now 6 = rw e few in
    let most = c.requires.layout.few_instructions in
    let procs = c.requires.layout.few_processes in
    let size = c.requires.layout.size in
    record { few = (omega arith, omega arith); within = omega arith }

pub run-requires : goal.run-requires
run-requires g c =
    let l : c.state-s.result < states c.args.code.now c.args.q = search rules in
    let e : c.count_at-entry.result ≡ entry c.args.code.now c.args.q c.state-s.result = search rules in
    let both = body_sound c.args.code.now c.args.q c.state-s.result c.count_at-entry.result _ c.instructions_from.result.now c.requires.layout c.requires.process l e c.requires.cells c.instructions_from.ensures in
    record { size = both.1; sound = both.0 }
