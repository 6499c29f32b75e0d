-- One scan more of a listing, on a tape that was made for it.
use Rattle.std.proofs.Common.{◌≡◌, ℕ, ◌+◌, ◌<◌, ◌≤◌, leb, List, [], ◌∷◌, ◌++◌, map, length, get_or, drop, replicate, ℤ, pos, Ok, Err, Result, sym, refl, ap, ◌∙◌, subst, append_assoc}
use lib.ListN.{length-replicate}
use Rattle.std.proofs.lemmas.List.{append-nil, drop_more}
use Rattle.std.proofs.lemmas.Bool.{cond-true, le-leb}
use Rattle.kinds.specs.Ops.{Ops}
use Rattle.hosts.specs.Meaning.{Pins}
use Rattle.hosts.specs.TapeRows.{tape_lines, tape_means}
use Rattle.hosts.specs.declared.tape.Spent.{Spent}
use Rattle.hosts.specs.declared.tape.Tape.{Tape}
use Rattle.flat.specs.declared.head.Head.{Head}
use Rattle.flat.specs.Words.{word, head}
use Rattle.flat.specs.Layout.{Holds, Layout}
use Rattle.board.specs.declared.Board.{Board}
use Rattle.refusals.specs.declared.ScanRefusal.{ScanRefusal}
use Rattle.refusals.specs.declared.ScanRefusal.TheVariants.{OtherKind, Short, Down, Divisor, Stack}
use Rattle.machine.specs.Scan.{World, Told, Scanned, steps, scan}
use Rattle.refusals.specs.Numbers.{scan_number}
use Rattle.machine.specs.Calls.{State, Scans, told, world}
use Rattle.lines.specs.Lines.{scan_line, refusal_line}
use Rattle.playback.specs.Listing.{at_rest, listing, row_pins, row_scan}
use Rattle.playback.proofs.HostLines.{Wide, next_row_wide, printed, printed_rested, scan_lines}

-- A code of the layout has at most 32 inputs, and at most 32 outputs.
pub few_inputs : (code : List ℤ) → Layout code → word code 3 ≤ 32
few_inputs code layout = rw layout.inputs.1 layout.inputs.3

pub few_outputs : (code : List ℤ) → Layout code → word code 4 ≤ 32
few_outputs code layout = rw layout.outputs.1 layout.outputs.3

-- So a tape has as many lines as such a code has inputs.
pub inputs_lines : (code : List ℤ) (h : Head) → Holds code h → tape_lines h.inputs ≡ word code 3
inputs_lines code h holds = ap (λ (x : Head). tape_lines x.inputs) holds.head_is ∙ cond-true (leb (word code 3) 32) (word code 3) 0 (le-leb (word code 3) 32 (few_inputs code holds.layout))

-- The same code and head are held.
pub holds_same : (code code₁ : List ℤ) (h h₁ : Head) → code₁ ≡ code → h₁ ≡ h → Holds code h → Holds code₁ h₁
holds_same code code₁ h h₁ e f holds = rw (e, f) holds

-- What a tape made for a row and a code's inputs is.
pub record Made (t : Tape) (row : List ℤ) (width : ℕ) : Type 0 where
  pub rest : t.rest.now ≡ row
  pub latch : t.latch.now ≡ replicate (tape_lines width) (pos 0)
  pub used : t.used ≡ 0
  pub held : t.held ≡ replicate 32 (pos 0)

module _ {V : Type 0} (k : Ops V) (code : List ℤ) (work : ℕ) where
  -- A run on such a tape is at rest, the row stands at its pins, and so its scan is one of the row.
  pub made_scan : (h : Head) (s s₁ : State V Tape) (row : List ℤ) (r : Result ℕ (ScanRefusal Spent)) → Holds code h → Made s.host row h.inputs → Scans k tape_means code work s r s₁ → (record { told = told r; world = at_rest code s₁.cells s₁.board s₁.scans }) ≡ row_scan k code work row (at_rest code s.cells s.board s.scans)
  made_scan h s s₁ row r holds made e =
      let lines = inputs_lines code h holds in
      let pins : tape_means.pins s.host ≡ row_pins code row = rw (made.latch, made.rest, made.used, length-replicate, lines) in
      let rest : world tape_means s ≡ at_rest code s.cells s.board s.scans = rw (made.latch, made.held, lines) in
      ap (λ (x : Scanned V Spent). record { told = x.told; world = at_rest code x.world.cells x.world.board x.world.scans })
      (e ∙ ap (λ p. scan k code work p (world tape_means s)) pins ∙ ap (scan k code work (row_pins code row)) rest)

  -- What is printed from a scan of a row on does not depend on what the host has latched and holds.
  pub printed_row : (n : ℕ) (row : List ℤ) (ps : List (Pins Spent)) (cells : List V) (board : Board) (scans : ℕ) → listing k code work n (row_pins code row ∷ ps) (at_rest code cells board scans) ≡ printed k code work n ps (row_scan k code work row (at_rest code cells board scans))
  printed_row n row ps cells board scans =
      let w = at_rest code cells board scans in
      let wide : Wide (length w.latch) (row_pins code row) = rw length-replicate (next_row_wide (word code 3) row 0) in
      printed_rested k code work n ps w (scan k code work (row_pins code row) w) (scan_lines k code work (row_pins code row) w wide)

  refusal_printed : (n : ℕ) (ps : List (Pins Spent)) (f : ScanRefusal Spent) (w : World V) → printed k code work n ps (record { told = told (Err f); world = w }) ≡ refusal_line (scan_number f) n
  refusal_printed n ps OtherKind w = refl
  refusal_printed n ps Short w = refl
  refusal_printed n ps (Down f) w = refl
  refusal_printed n ps (Divisor p) w = refl
  refusal_printed n ps (Stack p) w = refl

-- So far this was listed; from scan n on, the readings that are left give the rest of the listing.
pub record Listed {V : Type 0} (k : Ops V) (code : List ℤ) (work : ℕ) (all : List (Pins Spent)) (start : World V) (done : List ℕ) (n : ℕ) (left : List (Pins Spent)) (w : World V) : Type 0 where
  pub goes_on : done ++ listing k code work n left w ≡ listing k code work 1 all start

-- Nothing is listed at the beginning, and all is where no reading is left.
module _ {V : Type 0} {k : Ops V} {code : List ℤ} {work : ℕ} {all : List (Pins Spent)} {start : World V} where
  pub listed_none : Listed k code work all start [] 1 all start
  listed_none = record { goes_on = refl }

  pub listed_all : {done : List ℕ} {n : ℕ} {left : List (Pins Spent)} {w : World V} → Listed k code work all start done n left w → left ≡ [] → done ≡ listing k code work 1 all start
  listed_all {done} {n} {left} {w} l none = sym (append-nil done) ∙ ap (λ ps. done ++ listing k code work n ps w) (sym none) ∙ l.goes_on

-- The row at the index i was scanned, where the code and the size of the working memory are as they were.
module _ {V X : Type 0} {k : Ops V} {code : List ℤ} {work : ℕ} {all : List (Pins Spent)} {start : World V} {done : List ℕ} {n : ℕ} {cells : List V} {board : Board} {scans : ℕ}
    (items : X → List ℤ) (rows : List X) (i : ℕ) (row : X)
    (l : Listed k code work all start done n (map (λ x. row_pins code (items x)) (drop i rows)) (at_rest code cells board scans))
    (less : i < length rows) (is : row ≡ get_or rows i row) (levels : List ℤ) (levels-are : levels ≡ items row)
    (code₁ : List ℤ) (work₁ : ℕ) (same_code : code₁ ≡ code) (same-work : work₁ ≡ work) (cells₁ : List V) (board₁ : Board) (scans₁ : ℕ)
  where
    -- What is printed from it on.
    goes_on : (t : Told Spent) → (record { told = t; world = at_rest code₁ cells₁ board₁ scans₁ }) ≡ row_scan k code₁ work₁ levels (at_rest code₁ cells board scans) → done ++ printed k code work n (map (λ x. row_pins code (items x)) (drop (i + 1) rows)) (record { told = t; world = at_rest code cells₁ board₁ scans₁ }) ≡ listing k code work 1 all start
    goes_on t e =
        let ps = map (λ x. row_pins code (items x)) (drop (i + 1) rows) in
        let first : drop i rows ≡ row ∷ drop (i + 1) rows = drop_more rows i row less ∙ ap (λ x. x ∷ drop (i + 1) rows) (sym is) in
        let E = λ (c : List ℤ) (m : ℕ) (row : List ℤ). (record { told = t; world = at_rest c cells₁ board₁ scans₁ }) ≡ row_scan k c m row (at_rest c cells board scans) in
        let scanned : E code work (items row) = subst (E code work) levels-are (subst (λ m. E code m levels) same-work (subst (λ c. E c work₁ levels) same_code e)) in
        ap (λ x. done ++ printed k code work n ps x) scanned
        ∙ ap (λ z. done ++ z) (sym (printed_row k code work n (items row) ps cells board scans))
        ∙ ap (λ xs. done ++ listing k code work n (map (λ x. row_pins code (items x)) xs) (at_rest code cells board scans)) (sym first)
        ∙ l.goes_on

    -- An accepted scan, and its line, are listed.
    pub listed_more : (m : ℕ) (h : Head) (more : List ℕ) → (record { told = told {F = Spent} (Ok m); world = at_rest code₁ cells₁ board₁ scans₁ }) ≡ row_scan k code₁ work₁ levels (at_rest code₁ cells board scans) → h ≡ head code → more ≡ done ++ scan_line k h n cells₁ board₁ m → Listed k code work all start more (n + 1) (map (λ x. row_pins code (items x)) (drop (i + 1) rows)) (at_rest code cells₁ board₁ scans₁)
    listed_more m h more e head_is line =
        let shown = scan_line k (head code) n cells₁ board₁ m in
        let rest = listing k code work (n + 1) (map (λ x. row_pins code (items x)) (drop (i + 1) rows)) (at_rest code cells₁ board₁ scans₁) in
        record { goes_on = ap (λ z. z ++ rest) (line ∙ ap (λ (x : Head). done ++ scan_line k x n cells₁ board₁ m) head_is) ∙ append_assoc done shown rest ∙ goes_on (steps m) e }

    -- A refused scan, and its line, end the listing.
    pub listed-refused : (f : ScanRefusal Spent) (number : ℕ) (more : List ℕ) → (record { told = told (Err f); world = at_rest code₁ cells₁ board₁ scans₁ }) ≡ row_scan k code₁ work₁ levels (at_rest code₁ cells board scans) → number ≡ scan_number f → more ≡ done ++ refusal_line number n → more ≡ listing k code work 1 all start
    listed-refused f number more e is line =
        let told-so = sym (refusal_printed k code work n _ f (at_rest code cells₁ board₁ scans₁)) in
        line ∙ ap (λ m. done ++ refusal_line m n) is ∙ ap (λ z. done ++ z) told-so ∙ goes_on (told (Err f)) e
