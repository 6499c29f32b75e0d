-- The raw numbers of the cells so far are written, each behind a space.
use Rattle.std.proofs.Common.{map, take}
use Rattle.std.specs.Fmt.{HasWritten, IsPlainFormatter}
use Rattle.numerals.specs.Print.{items}
use Rattle.lines.proofs.write_cells.Given as goal

abbrev pub invariant-loop-cell : goal.invariant-loop-cell
invariant-loop-cell g l =
    IsPlainFormatter l.initial.f → HasWritten g.W.Write.write_str_gives l.initial.f (items (take l.cell-index (map g.K.Kind.ops.writing l.rest))) l.f
