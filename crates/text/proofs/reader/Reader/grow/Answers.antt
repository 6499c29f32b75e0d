use Rattle.std.proofs.Common.{rules}
use Rattle.std.proofs.lemmas.List.Edits.{between_more}
use Rattle.text.proofs.reader.Reader.grow.Goals as goal

pub returns-then-fits : goal.returns-then-fits
returns-then-fits c =
    let s = c.args.self.now in
    let p = between_more s.text.now s.from s.at 0 s.back c.requires in
    search rules
