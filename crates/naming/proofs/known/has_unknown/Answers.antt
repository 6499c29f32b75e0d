-- The states of a state's own process are the lines of its scope.
use Rattle.std.proofs.Common.{rules}
use Rattle.language.specs.OnSheet.{line_at}
use Rattle.naming.proofs.Spots.{own_lines}
use Rattle.naming.proofs.known.has_unknown.Goals as goal

pub returns-then-is_line : goal.returns-then-is_line
unfolding line_at
returns-then-is_line c =
    let s = c.args.spot in
    let e = own_lines s.before s.states s.behind s.at s.stands s.sheet s.next in
    search rules
