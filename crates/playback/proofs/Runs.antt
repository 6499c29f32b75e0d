-- What is printed of a run through rows, from its start on.
use Rattle.std.proofs.Common.{◌≡◌, ℕ, ◌-◌, ◌≤◌, true, false, ◌&&◌, ltb, leb, List, [], ◌∷◌, ◌++◌, map, length, take, drop, replicate, ℤ, pos, Some, None, IfSome, MatchOption, IfOk, IsErr, Ok, Err, vec_items, codes, Option, Result, sym, refl, ap, ◌∙◌, subst, arith, w32, SFits, of_z, to_z}
use mathlib.Core.List.{map-map}
use native.Mathlib.Nat.{sub-zero}
use lib.ListN.{length-replicate}
use Rattle.std.specs.List.{AllByRecursion}
use Rattle.std.proofs.lemmas.List.{append-nil, drop_all, take_all}
use Rattle.std.proofs.lemmas.Bool.{and_from, both_ways, cond-true, le-leb, le-ltb, lt-ltb, or_from}
use Rattle.kinds.specs.Ops.{Ops}
use Rattle.kinds.specs.Longs as Longs
use Rattle.kinds.specs.Millis as Millis
use Rattle.hosts.specs.Meaning.{up}
use Rattle.hosts.specs.TapeRows.{next_row, tape_lines, tape_means}
use Rattle.hosts.specs.declared.tape.Tape.{Tape}
use Rattle.flat.specs.Words.{at, word}
use Rattle.flat.specs.Layout.{Holds, Within}
use Rattle.std.proofs.lemmas.Int.{to_z-of_z}
use Rattle.flat.specs.CellKinds.{Names, number_of}
use Rattle.flat.specs.declared.kind.UnknownKind.{UnknownKind}
use Rattle.flat.specs.declared.kind.CellKind.{CellKind}
use Rattle.flat.specs.declared.kind.CellKind.TheVariants.{Long, Milli}
use Rattle.flat.specs.declared.head.Head.{Head}
use Rattle.machine.specs.declared.live.Live.{Live}
use Rattle.machine.specs.declared.mounted.Mounted.{Mounted}
use Rattle.refusals.specs.declared.MountRefusal.{MountRefusal}
use Rattle.refusals.specs.declared.MountRefusal.TheVariants.{NotFlatCode}
use Rattle.refusals.specs.declared.StartRefusal.{StartRefusal}
use Rattle.refusals.specs.declared.StartRefusal.TheVariants.{OtherKind, Short}
use Rattle.machine.specs.Calls.{Mounts, State, Starts, world}
use Rattle.machine.specs.Scan.{World, same_word, short}
use Rattle.lists.specs.declared.ListError.{ListError}
use Rattle.lists.specs.declared.ListError.TheVariants.{NotAList, NoMemory as ListMemory}
use Rattle.lists.specs.Read.{ListRead}
use Rattle.playback.specs.Listing.{listing, printed_rows, row_pins}
use Rattle.playback.specs.Players.{Begun, standing}
use Rattle.playback.specs.declared.listing.Player.{Player}
use Rattle.playback.specs.Replay.{Answered, CodeLine, Ran, long_run, milli_run, no_code, no_layout, no_rows, printed_for, run_lines, unplayed}
use Rattle.playback.specs.declared.replay.Unplayed.TheVariants.{NotMounted}
use Rattle.rows.specs.Rows.{RowOf, RowsFound, WholeRows}
use Rattle.rows.proofs.RowReads.{read_fit, read_whole}
use Rattle.playback.proofs.Turns.{Made, few_outputs, inputs_lines}

-- The first word of a code is the number of one of the kinds, and is read as that kind.
module _ (code : List ℤ) (h : Head) (holds : Holds code h) where
  number : Within 1 2 h.kind
  number = subst (λ (x : Head). Within 1 2 x.kind) (sym holds.head_is) holds.layout.kind

  word_is : to_z w32 (of_z w32 h.kind) ≡ h.kind
  word_is =
      let few : number.0 ≤ 2 = number.3 in
      let small : SFits w32 (pos number.0) = omega arith in
      to_z-of_z w32 h.kind (subst (SFits w32) (sym number.1) small)

  pub some_kind : (e : UnknownKind) → Names (to_z w32 (of_z w32 h.kind)) (Err e) → ⊥
  some_kind e unknown =
      let some : 1 ≤ number.0 = number.2 in
      let few : number.0 ≤ 2 = number.3 in
      let not-one : number.0 ≡ 1 → ⊥ = λ one. unknown.1 Long (word_is ∙ number.1 ∙ ap pos one) in
      let not-two : number.0 ≡ 2 → ⊥ = λ two. unknown.1 Milli (word_is ∙ number.1 ∙ ap pos two) in
      omega arith

  pub kind_is : (kind : CellKind) → Names (to_z w32 (of_z w32 h.kind)) (Ok kind) → h.kind ≡ number_of kind
  kind_is kind named = sym word_is ∙ named

-- The first word of a code is the number of its kind.
long_kind : (w : ℤ) → Within 1 2 w → of_z w32 w ≡ 1 → w ≡ pos 1
long_kind w k is = k.1 ∙ ap pos (sym (ap (of_z w32) k.1) ∙ is)

milli_kind : (w : ℤ) → Within 1 2 w → (of_z w32 w ≡ 1 → ⊥) → w ≡ pos 2
milli_kind w k other = let not-one : k.0 ≡ 1 → ⊥ = λ e. other (ap (of_z w32) k.1 ∙ e) in k.1 ∙ ap pos (omega arith)

-- A code that is not mounted is refused by 9.
pub not_mounted : (code : List ℤ) (text : List ℕ) (e : MountRefusal) → Mounts code (Err e) → IfSome (printed_for (Err (NotMounted e))) (Ran code text)
not_mounted code text NotFlatCode none = no_layout none

-- Rows that are not read.
pub rows_unplayed : (code : List ℤ) (text : List ℕ) (h : Head) (e : ListError) → Holds code h → RowsFound h.inputs text (Err e) → IfSome (printed_for (Err (unplayed e))) (Ran code text)
rows_unplayed code text h NotAList holds none = no_rows holds.layout (λ rows whole. none rows (subst (λ (x : Head). WholeRows x.inputs text rows) (sym holds.head_is) whole))
rows_unplayed code text h ListMemory holds none = tt

-- A code line that is not read.
pub code_unplayed : (input : List ℕ) (before after : List ℤ) (e : ListError) → ListRead (codes "code") input before (Err e) after → IfSome (printed_for (Err (unplayed e))) (Answered input)
code_unplayed input before after NotAList none = no_code none
code_unplayed input before after ListMemory none = tt

-- The line of a code was read to where nothing was before.
pub code_read : (input : List ℕ) (before code code₁ : List ℤ) (n : ℕ) → ListRead (codes "code") input before (Ok n) code → before ≡ [] → code₁ ≡ code → CodeLine input code₁ (take (length input - n) (drop n input))
code_read input before code code₁ n read empty e =
    subst (λ c. CodeLine input c (take (length input - n) (drop n input))) (sym e) (record { fit = read_fit (codes "code") input before code n read empty; print = read_whole (codes "code") input before code n read empty })

-- What holds of what was played holds of what is printed.
pub told_by : {X E : Type 0} (items : X → List ℕ) (P : List ℕ → Type 0) (o : Option (List ℕ)) (r : Result X E) → IfSome o P → MatchOption o (IsErr r) (λ bytes. IfOk r (λ x. items x ≡ bytes)) → IfOk r (λ x. P (items x))
told_by items P None (Ok x) holds printed = absurd (let no : false ≡ true = printed in cc)
told_by items P (Some bytes) (Ok x) holds printed = subst P (sym printed) holds
told_by items P o (Err e) holds printed = tt

-- What is told of a result's bytes is told of equal bytes.
pub ends_as : {X E : Type 0} (items : X → List ℕ) (r : Result X E) (a b : List ℕ) → IfOk r (λ x. items x ≡ a) → a ≡ b → IfOk r (λ x. items x ≡ b)
ends_as items (Ok x) a b e f = e ∙ f
ends_as items (Err e) a b h f = tt

-- What was appended to nothing is all there is.
pub to_nothing : (before new after : List ℕ) → after ≡ before ++ new → before ≡ [] → after ≡ new
to_nothing before new after e empty = e ∙ ap (λ xs. xs ++ new) empty

-- Zeros filled up from nothing.
pub filled : {V : Type 0} (n len : ℕ) (xs : List V) (z z₁ : V) → xs ≡ [] → len ≡ 0 → z ≡ z₁ → take n xs ++ replicate (n - len) z ≡ replicate n z₁
filled {V} n len xs z z₁ e f g = let none : take {A = V} n [] ≡ [] = take_all n [] (omega arith) in rw (e, f, g, none, sub-zero n)

-- A row with a number for each input stands at the pins as it is.
row_up : (width : ℕ) (row : List ℤ) → 1 ≤ width → length row ≡ width → next_row width row 0 ≡ up row
row_up width row some of_width =
    cond-true (ltb 0 width && leb width (length row)) (up (take width row)) _ (and_from _ _ (lt-ltb 0 width some) (le-leb width (length row) (omega arith)))
    ∙ ap up (take_all width row (omega arith))

rows_up : (width : ℕ) (rows : List (List ℤ)) → 1 ≤ width → AllByRecursion (RowOf width) rows → map (λ row. next_row width row 0) rows ≡ map up rows
rows_up width [] some each = refl
rows_up width (row ∷ rows) some each = rw (row_up width row some each.0.0, rows_up width rows some each.1)

-- So what is printed of whole rows is the lines of the run.
pub printed_run : {V : Type 0} (k : Ops V) (code code₁ : List ℤ) (text : List ℕ) (rows rows₁ : List (List ℤ)) → code₁ ≡ code → rows₁ ≡ rows → WholeRows (word code 3) text rows → printed_rows k code₁ rows₁ ≡ run_lines k code rows
printed_run k code code₁ text rows rows₁ e f whole = rw (e, f, rows_up (word code 3) rows whole.some whole.each)

-- The lines of a run by the code's kind.
module _ (code code₁ : List ℤ) (text out : List ℕ) (h : Head) (rows rows₁ : List (List ℤ)) (holds : Holds code h) (same_code : code₁ ≡ code) (same_rows : rows₁ ≡ rows) (whole : WholeRows h.inputs text rows) where
  whole_rows : WholeRows (word code 3) text rows
  whole_rows = subst (λ (x : Head). WholeRows x.inputs text rows) holds.head_is whole

  first_word : h.kind ≡ at code 0
  first_word = ap (λ (x : Head). x.kind) holds.head_is

  pub ran_long : h.kind ≡ pos 1 → out ≡ printed_rows Longs.ops code₁ rows₁ → Ran code text out
  ran_long is played = subst (Ran code text) (sym (played ∙ printed_run Longs.ops code code₁ text rows rows₁ same_code same_rows whole_rows)) (long_run holds.layout (sym first_word ∙ is) rows whole_rows)

  pub ran_milli : h.kind ≡ pos 2 → out ≡ printed_rows Millis.ops code₁ rows₁ → Ran code text out
  ran_milli is played = subst (Ran code text) (sym (played ∙ printed_run Millis.ops code code₁ text rows rows₁ same_code same_rows whole_rows)) (milli_run holds.layout (sym first_word ∙ is) rows whole_rows)

-- A start on just the cells that a code has, and on a tape made for its inputs.
module _ {V : Type 0} (k : Ops V) (m : Mounted) (h : Head) (s : State V Tape) (holds : Holds m.code.now m.head) (same : h ≡ m.head) (cells : s.cells ≡ replicate h.cells k.zero) (made : Made s.host [] h.inputs) where
  cells_are : s.cells ≡ replicate m.head.cells k.zero
  cells_are = cells ∙ ap (λ (x : Head). replicate x.cells k.zero) same

  size : length s.cells ≡ m.head.cells
  size = ap length cells_are ∙ length-replicate m.head.cells k.zero

  inputs : length s.host.latch.now ≡ m.head.inputs
  inputs =
      ap length made.latch ∙ length-replicate _ _ ∙ ap (λ (x : Head). tape_lines x.inputs) same
      ∙ inputs_lines _ m.head holds ∙ sym (ap (λ (x : Head). x.inputs) holds.head_is)

  outputs : m.head.outputs ≤ length s.host.held
  outputs = rw (made.held, holds.head_is) (few_outputs _ holds.layout)

  enough : short m.head (world tape_means s) ≡ false
  enough = or_from _ _ (le-ltb (length s.cells) m.head.cells (omega (arith, size))) (or_from _ _ (le-ltb (length s.host.latch.now) m.head.inputs (omega (arith, inputs))) (le-ltb _ _ outputs))

  -- It is not refused to a run of the code's kind.
  pub start_taken : (t : State V Tape) (e : StartRefusal) → same_word m.head.kind k.number ≡ true → Starts k tape_means m s (Err e) t → ⊥
  start_taken t OtherKind kind refused = both_ways _ refused.0 kind
  start_taken t Short kind refused = both_ways _ enough refused.1

  -- The run stands at its beginning.
  pub started_cells : (live : Live) (t : State V Tape) → Starts k tape_means m s (Ok live) t → t.cells ≡ replicate (word m.code.now 2) k.zero
  started_cells live t started =
      let none : drop m.head.cells s.cells ≡ [] = drop_all m.head.cells s.cells (omega (arith, size)) in
      ap (λ (w : World V). w.cells) started.begun ∙ ap (λ xs. replicate m.head.cells k.zero ++ xs) none ∙ append-nil _ ∙ ap (λ (x : Head). replicate x.cells k.zero) holds.head_is

-- What is listed from the beginning on is printed of the rows.
pub listed_run : {V X : Type 0} (k : Ops V) (code : List ℤ) (items : X → List ℤ) (rows : List X) (p : Player V) → Begun k code p → listing k p.live.code.now (length (vec_items p.work)) 1 (map (λ row. row_pins p.live.code.now (items row)) rows) (standing p.live.code.now p) ≡ printed_rows k code (map items rows)
listed_run k code items rows p b = rw (b.same_code, b.room, b.cells, b.board, b.scans, map-map (row_pins code) items rows)
