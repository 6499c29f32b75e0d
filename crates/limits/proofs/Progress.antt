-- The walk along lines to the first that passes a limit, with the counts over those that were passed.
use Rattle.std.proofs.Common.{◌≡◌, ℕ, ◌+◌, ◌-◌, ◌≤◌, true, false, [], ◌∷◌, Some, None, sym, refl, ap, ◌∙◌, arith}
use Rattle.text.specs.Items.{starts_of}
use Rattle.text.specs.declared.items.Items.{Items}
use Rattle.language.specs.Basics.{first_where}
use Rattle.language.specs.Causes.{past_limit}
use Rattle.language.specs.OnSheet.{line_at, lines_of}
use Rattle.language.proofs.Lines.{lines_split, no_lines}
use Rattle.limits.specs.declared.tally.Tally.{Tally}
use Rattle.limits.specs.Tallies.{tally_of, with_line, past_with}
use Rattle.limits.proofs.Tallies.{past_told, tally_told}
use Rattle.limits.proofs.Walks.{Walk, walk_further, walk_here, walk_ends}

-- Of some lines these are left, and over those that were passed there are these counts.
pub record Progress (lines left : Items) (tally : Tally) : Type 0 where
  pub same : left.rows.now ≡ lines.rows.now
  pub few : left.count ≤ lines.count
  pub walk : Walk past_limit (lines_of lines) (lines_of left) (lines.count - left.count)
  pub counts : tally ≡ tally_of walk.passed

-- No line is passed yet.
pub begins : (lines : Items) (tally : Tally) → tally ≡ tally_of [] → Progress lines lines tally
begins lines tally e =
    let n : 0 ≡ lines.count - lines.count = omega arith in
    record {
      same = refl;
      few = omega arith;
      walk = record { passed = []; goes = ap (λ k. first_where past_limit (k + 1) [] (lines_of lines)) (sym n) };
      counts = e;
    }

module _ {lines left : Items} {tally : Tally} (p : Progress lines left tally) where
  module _ (at : ℕ) (behind : Items) (e : starts_of left ≡ at ∷ starts_of behind) (s : behind.rows.now ≡ left.rows.now) (n : behind.count + 1 ≡ left.count) (with : Tally) (f : with ≡ with_line tally (line_at lines.rows.now at)) where
    split : lines_of left ≡ line_at lines.rows.now at ∷ lines_of behind
    split = lines_split lines.rows.now left behind at p.same s e

    -- The next line passes a limit.
    pub stops : true ≡ past_with tally with (line_at lines.rows.now at) (lines_of behind) → Some (lines.count - behind.count) ≡ first_where past_limit 1 [] (lines_of lines)
    stops told =
        let m : lines.count - behind.count ≡ lines.count - left.count + 1 = omega (arith, p.few) in
        ap Some m ∙ walk_here p.walk _ _ split (told ∙ past_told p.walk.passed (line_at lines.rows.now at) (lines_of behind) p.counts f)

    -- It passes none: on to those behind it.
    pub goes_on : false ≡ past_with tally with (line_at lines.rows.now at) (lines_of behind) → Progress lines behind with
    goes_on told =
        let m : lines.count - left.count + 1 ≡ lines.count - behind.count = omega (arith, p.few) in
        let w = walk_further p.walk _ _ split (told ∙ past_told p.walk.passed (line_at lines.rows.now at) (lines_of behind) p.counts f) in
        record {
          same = s ∙ p.same;
          few = omega (arith, p.few);
          walk = record { passed = w.passed; goes = ap (λ k. first_where past_limit (k + 1) w.passed (lines_of behind)) (sym m) ∙ w.goes };
          counts = tally_told p.walk.passed (line_at lines.rows.now at) p.counts f;
        }

  -- No line is left.
  pub ends : starts_of left ≡ [] → None ≡ first_where past_limit 1 [] (lines_of lines)
  ends e = walk_ends p.walk (no_lines left e)
