-- The place found is the first. A body that looks in a slice which is all of the input is right too, by `take_all`, so that what
-- refuses a planted one is what it finds, and not that it takes a slice.
use Rattle.std.proofs.Common.{◌∙◌, rules}
use Rattle.std.proofs.lemmas.List.{take_all}
use Rattle.benchrun.proofs.Splits.{first_place_in}
use Rattle.benchrun.proofs.split.tape_start.Goals as goal

pub returns : goal.returns
returns c = c.unwrap_or.ensures ∙ first_place_in _ c.args.input.now c.find.result c.find.ensures (search (rules, take_all))
