use Rattle.std.proofs.Common.{◌≡◌, sym, refl, ◌∙◌, arith}
use Rattle.text.proofs.Pieces.{take_set_in, in_front}
use Rattle.text.specs.declared.row.Row.TheVariants.{Items}
use Rattle.text.proofs.filler.Filler.close.Goals as goal

pub returns-in-Items : goal.returns-in-Items
returns-in-Items c = record {
  used = refl;
  puts =
      λ h c' t d few lt e.
      let same : Items c.in-Items.count c.in-Items.top ≡ Items c' t = sym c.in-Items.is ∙ in_front c.args.rows.now c.args.self.now.used c.args.self.now.top d _ lt h ∙ e in
      (take_set_in c.args.self.now.used c.args.rows.now c.args.self.now.top _, cc, (let n : c.in-Items.count ≡ c' = cc in omega arith));
}
