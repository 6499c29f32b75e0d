-- The state lines of each process, by the first line.
use Rattle.std.proofs.Common.{◌≡◌, ℕ, zero, suc, ◌+◌, ◌≤◌, Bool, true, false, cond, List, ◌∷◌, length, map, sym, refl, add-one, ap, ◌∙◌, arith}
use Rattle.std.proofs.lemmas.List.{length-map}
use Rattle.text.specs.Items.{IsSplit}
use Rattle.text.specs.Sheet.{next_row}
use Rattle.text.specs.declared.items.Items.{Items}
use Rattle.text.specs.declared.row.Row.{Row}
use Rattle.language.specs.Lines.{is, states_behind, processes}
use Rattle.language.specs.Named.{Line}
use Rattle.language.specs.OnSheet.{line_at, lines_at, lines_of}
use Rattle.language.specs.declared.house.Opener.TheVariants.{Proc}
use Rattle.translator.specs.States.{groups, groups_of}
use Rattle.translator.proofs.Sorted.{states_are}

one_more : (rows : List Row) (p k n : ℕ) → n ≡ k + 1
    → groups rows p n ≡ cond (is Proc (line_at rows p)) ((next_row rows p, length (states_behind (lines_at rows (next_row rows p) k))) ∷ groups rows (next_row rows p) k) (groups rows (next_row rows p) k)
one_more rows p k n e = ap (groups rows p) (e ∙ add-one k)

-- A process is the first of those of its line and the lines behind; any other line has none.
pub groups_on : (items behind : Items) (at s : ℕ) → IsSplit items at behind → s ≡ length (states_behind (lines_of behind)) → true ≡ is Proc (line_at behind.rows.now at) → groups_of items ≡ (behind.first, s) ∷ groups_of behind
groups_on items behind at s b f t =
    let process : true ≡ is Proc (line_at items.rows.now items.first) = rw (b.rows, b.first) at t in
    rw (f, b.next, b.first, b.rows) (rw (← process) at (one_more items.rows.now items.first behind.count items.count (sym b.count)))

pub groups_off : (items behind : Items) (at : ℕ) → IsSplit items at behind → false ≡ is Proc (line_at behind.rows.now at) → groups_of items ≡ groups_of behind
groups_off items behind at b t =
    let other : false ≡ is Proc (line_at items.rows.now items.first) = rw (b.rows, b.first) at t in
    rw (b.next, b.first, b.rows) (rw (← other) at (one_more items.rows.now items.first behind.count items.count (sym b.count)))

-- The lines of each group.
abbrev pub lines_in : List Row → List (ℕ × ℕ) → List (List Line)
lines_in rows gs = map (λ g. lines_at rows g.0 g.1) gs

-- Those of all groups are the state lines of each process.
processes_by : (rows : List Row) (p k : ℕ) (b : Bool) → lines_in rows (groups rows p k) ≡ processes (lines_at rows p k)
    → lines_in rows (cond b ((p, length (states_behind (lines_at rows p k))) ∷ groups rows p k) (groups rows p k))
    ≡ cond b (states_behind (lines_at rows p k) ∷ processes (lines_at rows p k)) (processes (lines_at rows p k))
processes_by rows p k true e = let s = states_are rows p k in (λ i. s i ∷ e i)
processes_by rows p k false e = e

pub processes_are : (rows : List Row) (p k : ℕ) → lines_in rows (groups rows p k) ≡ processes (lines_at rows p k)
processes_are rows p zero = refl
processes_are rows p (suc k) = processes_by rows (next_row rows p) k (is Proc (line_at rows p)) (processes_are rows (next_row rows p) k)

pub length-lines_in : (rows : List Row) (p k : ℕ) → length (lines_in rows (groups rows p k)) ≡ length (groups rows p k)
length-lines_in rows p k = length-map (groups rows p k) (λ g. lines_at rows g.0 g.1)

-- There are no more groups than lines.
few_by : (k : ℕ) (b : Bool) (g : ℕ × ℕ) (gs : List (ℕ × ℕ)) → length gs ≤ k → length (cond b (g ∷ gs) gs) ≤ suc k
few_by k true g gs h = omega arith
few_by k false g gs h = omega arith

pub groups_few : (rows : List Row) (p k : ℕ) → length (groups rows p k) ≤ k
groups_few rows p zero = omega arith
groups_few rows p (suc k) = few_by k (is Proc (line_at rows p)) _ (groups rows (next_row rows p) k) (groups_few rows (next_row rows p) k)
