use Rattle.flat.proofs.layout.body_fits.Goals as goal

pub returns : goal.returns
returns c = cc (c.of.ensures, c.instructions_from.ensures, c.instructions_fit.ensures)
