-- What a name stands for is below the number of lines.
use Rattle.language.specs.declared.house.Opener.TheVariants.{Proc}
use Rattle.translator.proofs.Bounds.{named_below, found_or_below}
use Rattle.translator.proofs.meaning.process_at.Goals as goal

pub returns-clause-below : goal.returns-clause-below
returns-clause-below c =
    found_or_below c.find_name.result c.args.sheet.lines.count c.unwrap_or.result c.unwrap_or.ensures
    (λ n e. named_below c.args.sheet.lines.rows.now c.args.sheet.lines.first c.args.sheet.lines.count Proc c.word_at-w.result.now n (rw c.find_name.ensures at e))
