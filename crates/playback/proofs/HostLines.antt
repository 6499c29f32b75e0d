-- A listing depends on how many lines a host has, and not on the levels that it has latched and holds.
use Rattle.std.proofs.Common.{◌≡◌, ℕ, suc, ◌+◌, Bool, true, false, cond, not, ◌&&◌, ◌||◌, ltb, leb, List, [], ◌∷◌, ◌++◌, length, take, ℤ, Some, None, Option, sym, refl, ap, ◌∙◌}
use Rattle.std.proofs.lemmas.List.{length-take-le}
use Rattle.std.proofs.lemmas.Bool.{and_parts, cond_both, leb-true}
use Rattle.kinds.specs.Ops.{Ops}
use Rattle.hosts.specs.Levels.{settled}
use Rattle.hosts.specs.Meaning.{Pins, up, down}
use Rattle.hosts.specs.TapeRows.{next_row}
use Rattle.flat.specs.Words.{at, word, head}
use Rattle.machine.specs.Scan.{World, Told, Scanned, steps, refused, refused_by, refused_in, same_word, short, ended, swept_on, sampled, scan}
use Rattle.bodies.specs.Sweep.{Swept, swept, no_divisor, no_stack}
use Rattle.playback.specs.Listing.{continued, listing}
use Rattle.lines.specs.Lines.{scan_line}

-- The outputs that are held are as many as before.
length_settled : (puts : List (Option ℤ)) (held : List ℤ) → length (settled puts held) ≡ length held
length_settled [] held = refl
length_settled (p ∷ puts) [] = refl
length_settled (None ∷ puts) (x ∷ held) = ap suc (length_settled puts held)
length_settled (Some v ∷ puts) (x ∷ held) = ap suc (length_settled puts held)

-- The pins have so many levels, or the host is down.
abbrev pub Wide : {F : Type 0} → ℕ → Pins F → Type 0
Wide n (up levels) = length levels ≡ n
Wide n (down f) = Unit {0}

pub next_row_wide : (n : ℕ) (row : List ℤ) (used : ℕ) → Wide n (next_row n row used)
next_row_wide n row used =
    cond_both (ltb 0 n && leb n (length row)) (up (take n row)) (down (record { rows = used })) (Wide n)
    (λ fits. length-take-le n row (leb-true n (length row) (and_parts _ _ fits).1))
    (λ short. tt)

-- What was scanned left a host as many lines as it had.
pub record SameLines {V F : Type 0} (w : World V) (x : Scanned V F) : Type 0 where
  pub inputs : length x.world.latch ≡ length w.latch
  pub outputs : length x.world.held ≡ length w.held

-- A scan is what is sampled, behind its two tests.
abbrev other_kind : {V : Type 0} → Ops V → List ℤ → Bool
other_kind k code = not (same_word (at code 0) k.number)

abbrev too_little : {V : Type 0} → List ℤ → ℕ → World V → Bool
too_little code work w = ltb work (word code 2 + 16) || short (head code) w

abbrev tested : {V F : Type 0} → Bool → Bool → World V → Scanned V F → Scanned V F
tested a b w x = cond a (record { told = refused 10; world = w }) (cond b (record { told = refused 11; world = w }) x)

module _ {V F : Type 0} (k : Ops V) (code : List ℤ) (work : ℕ) where
  ended_lines : (levels : List ℤ) (w : World V) (x : Swept V) → length levels ≡ length w.latch → SameLines {F = F} w (ended code levels w x)
  ended_lines levels w (swept n m) e = record { inputs = e; outputs = length_settled m.puts w.held }
  ended_lines levels w (no_divisor q s) e = record { inputs = e; outputs = refl }
  ended_lines levels w (no_stack q s) e = record { inputs = e; outputs = refl }

  sampled_lines : (p : Pins F) (w : World V) → Wide (length w.latch) p → SameLines w (sampled k code p w)
  sampled_lines (up levels) w e = ended_lines levels w (swept_on k code levels w) e
  sampled_lines (down f) w e = record { inputs = refl; outputs = refl }

  tested_lines : (a b : Bool) (w : World V) (x : Scanned V F) → SameLines w x → SameLines w (tested a b w x)
  tested_lines true b w x same = record { inputs = refl; outputs = refl }
  tested_lines false true w x same = record { inputs = refl; outputs = refl }
  tested_lines false false w x same = same

  pub scan_lines : (p : Pins F) (w : World V) → Wide (length w.latch) p → SameLines w (scan k code work p w)
  scan_lines p w e = tested_lines (other_kind k code) (too_little code work w) w (sampled k code p w) (sampled_lines p w e)

-- The same world on a host with other levels.
abbrev pub on_lines : {V : Type 0} → World V → List ℤ → List ℤ → World V
on_lines w latch held = record { cells = w.cells; board = w.board; scans = w.scans; latch = latch; held = held }

module _ {V F : Type 0} (k : Ops V) (code : List ℤ) (work : ℕ) where
  -- What is printed of a scan and of the readings after it.
  abbrev pub printed : ℕ → List (Pins F) → Scanned V F → List ℕ
  printed n ps x = continued k code n x.told x.world (λ w. listing k code work (n + 1) ps w)

  -- Where two hosts have as many lines as each other, what is printed is the same.
  abbrev SamePrinted : ℕ → List (Pins F) → Type 0
  SamePrinted n ps = (w : World V) (l l₁ h h₁ : List ℤ) → length l ≡ length l₁ → length h ≡ length h₁ → listing k code work n ps (on_lines w l h) ≡ listing k code work n ps (on_lines w l₁ h₁)

  same_tested : (n : ℕ) (ps : List (Pins F)) (a b : Bool) (w w₁ : World V) (x x₁ : Scanned V F) → printed n ps x ≡ printed n ps x₁ → printed n ps (tested a b w x) ≡ printed n ps (tested a b w₁ x₁)
  same_tested n ps true b w w₁ x x₁ e = refl
  same_tested n ps false true w w₁ x x₁ e = refl
  same_tested n ps false false w w₁ x x₁ e = e

  same_ended : (n : ℕ) (ps : List (Pins F)) (levels : List ℤ) (w : World V) (l l₁ h h₁ : List ℤ) (x : Swept V) → length h ≡ length h₁ → SamePrinted (n + 1) ps → printed n ps (ended code levels (on_lines w l h) x) ≡ printed n ps (ended code levels (on_lines w l₁ h₁) x)
  same_ended n ps levels w l l₁ h h₁ (swept s m) e rest =
      let left = (ended {F = F} code levels w (swept s m)).world in
      ap (λ z. scan_line k (head code) n left.cells left.board s ++ z) (rest left levels levels (settled m.puts h) (settled m.puts h₁) refl (length_settled m.puts h ∙ e ∙ sym (length_settled m.puts h₁)))
  same_ended n ps levels w l l₁ h h₁ (no_divisor q s) e rest = refl
  same_ended n ps levels w l l₁ h h₁ (no_stack q s) e rest = refl

  same_sampled : (n : ℕ) (ps : List (Pins F)) (p : Pins F) (w : World V) (l l₁ h h₁ : List ℤ) → length h ≡ length h₁ → SamePrinted (n + 1) ps → printed n ps (sampled k code p (on_lines w l h)) ≡ printed n ps (sampled k code p (on_lines w l₁ h₁))
  same_sampled n ps (up levels) w l l₁ h h₁ e rest = same_ended n ps levels w l l₁ h h₁ (swept_on k code levels w) e rest
  same_sampled n ps (down f) w l l₁ h h₁ e rest = refl

  pub same_printed : (n : ℕ) (ps : List (Pins F)) → SamePrinted n ps
  same_printed n [] w l l₁ h h₁ e f = refl
  same_printed n (p ∷ ps) w l l₁ h h₁ e f =
      let one = on_lines w l h in
      let other = on_lines w l₁ h₁ in
      let fits : too_little code work one ≡ too_little code work other = rw (e, f) in
      ap (λ b. printed n ps (tested (other_kind k code) b one (sampled k code p one))) fits
      ∙ same_tested n ps (other_kind k code) (too_little code work other) one other (sampled k code p one) (sampled k code p other) (same_sampled n ps p w l l₁ h h₁ f (same_printed (n + 1) ps))

  -- What is printed from a scan on is the same on a host with as many lines.
  rest_told : (n : ℕ) (ps : List (Pins F)) (t : Told F) (w : World V) (l h : List ℤ) → length w.latch ≡ length l → length w.held ≡ length h → printed n ps (record { told = t; world = w }) ≡ printed n ps (record { told = t; world = on_lines w l h })
  rest_told n ps (steps s) w l h e f = ap (λ z. scan_line k (head code) n w.cells w.board s ++ z) (same_printed (n + 1) ps w w.latch l w.held h e f)
  rest_told n ps (refused m) w l h e f = refl
  rest_told n ps (refused_by m x) w l h e f = refl
  rest_told n ps (refused_in m q s) w l h e f = refl

  pub printed_rested : (n : ℕ) (ps : List (Pins F)) (w : World V) (x : Scanned V F) → SameLines w x → printed n ps x ≡ printed n ps (record { told = x.told; world = on_lines x.world w.latch w.held })
  printed_rested n ps w x same = rest_told n ps x.told x.world w.latch w.held same.inputs same.outputs
