-- The first line that goes to the state behind its process's last.
use Rattle.std.proofs.Common.{◌+◌, ◌∙◌, ◌&&◌, eqb, length, [], ap, arith, rules}
use borrow.Author.Tests.{tests}
use Rattle.std.proofs.lemmas.Iterator.Consumers.{YieldsList-from_first}
use Rattle.std.proofs.lemmas.Iterator.Search.{position_from_yields_List}
use Rattle.language.specs.Basics.{changed}
use Rattle.language.specs.Lines.{body, states_behind}
use Rattle.language.specs.Resolve.{has_next}
use Rattle.language.specs.OnSheet.{lines_of}
use Rattle.language.proofs.Changes.{mapped}
use Rattle.naming.specs.Splits.{splits, split_of, splits_left}
use Rattle.naming.proofs.Splits.{Test, at_split, first_split}
use Rattle.naming.proofs.last.first_next_in_last.Goals as goal

pub returns : goal.returns
returns c =
    let ls = lines_of c.args.lines in
    let test : Test = λ before l behind. has_next (body l) && eqb (length (states_behind behind)) 0 in
    mapped (λ i. 1 + i) (λ i n k. omega (arith, k)) c.position.result c.map.ensures.cases
    ∙ ap (changed (λ i. 1 + i)) (position_from_yields_List (at_split test) c.position.new.self _ c.position.result c.position.ensures.ran (YieldsList-from_first split_of splits_left (splits [] ls) c.of.ensures.lines) (λ x b q k. search (rules, tests)))
    ∙ first_split test 1 [] ls
