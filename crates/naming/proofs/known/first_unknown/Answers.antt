-- The first line with a word in its body that stands for nothing.
use Rattle.std.proofs.Common.{◌+◌, ◌∙◌, not, [], ap, arith, rules}
use borrow.Author.Tests.{tests}
use Rattle.std.proofs.lemmas.Iterator.Consumers.{YieldsList-from_first}
use Rattle.std.proofs.lemmas.Iterator.Search.{position_from_yields_List}
use Rattle.language.specs.Basics.{changed}
use Rattle.language.specs.Lines.{declared, body, own_states}
use Rattle.language.specs.Resolve.{known, all_names}
use Rattle.language.specs.declared.house.Opener.TheVariants.{State}
use Rattle.language.specs.OnSheet.{lines_of}
use Rattle.language.proofs.Changes.{mapped}
use Rattle.naming.specs.Splits.{splits, split_of, splits_left}
use Rattle.naming.proofs.Splits.{Test, at_split, first_split}
use Rattle.naming.proofs.known.first_unknown.Goals as goal

pub returns : goal.returns
returns c =
    let ls = lines_of c.args.lines in
    let test : Test = λ before l behind. not (known (all_names ls) (declared State (own_states before l behind)) (body l)) in
    mapped (λ i. 1 + i) (λ i n k. omega (arith, k)) c.position.result c.map.ensures.cases
    ∙ ap (changed (λ i. 1 + i)) (position_from_yields_List (at_split test) c.position.new.self _ c.position.result c.position.ensures.ran (YieldsList-from_first split_of splits_left (splits [] ls) c.of.ensures.lines) (λ x b q k. search (rules, tests)))
    ∙ first_split test 1 [] ls
