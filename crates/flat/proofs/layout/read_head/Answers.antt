use Rattle.std.proofs.Common.{sym, ◌∙◌}
use Rattle.std.proofs.lemmas.Bool.{false≢true}
use Rattle.flat.proofs.Layouts.{layout_of_fits, fits_of_layout}
use Rattle.flat.proofs.layout.read_head.Goals as goal

pub returns-then-is_flat_code : goal.returns-then-is_flat_code
returns-then-is_flat_code c = record { layout = layout_of_fits c.args.code.now (sym c.if-is_flat_code.ensures); head_is = c.of.ensures }

pub returns-else-is_flat_code : goal.returns-else-is_flat_code
returns-else-is_flat_code c = λ y. false≢true (c.if-is_flat_code.ensures ∙ fits_of_layout c.args.code.now y)
