-- A process, and a line that is none.
use Rattle.std.proofs.Common.{sym, ◌∙◌, rules}
use Rattle.translator.proofs.Groups.{groups_on, groups_off}
use Rattle.translator.proofs.states.ProcessesIterator.next.Goals as goal

pub returns-then-is_line : goal.returns-then-is_line
returns-then-is_line c =
    let e = sym c.loop-at.invariant ∙ groups_on c.loop-at.self.left c.in-Some.behind c.in-Some.at c.count_states.result c.in-Some.ensures c.count_states.ensures.is c.if-is_line.ensures in
    search rules

pub loop-at-preserved : goal.loop-at-preserved
loop-at-preserved c = sym (groups_off c.loop-at.self.left c.in-Some.behind c.in-Some.at c.in-Some.ensures c.if-is_line.ensures) ∙ c.loop-at.invariant
