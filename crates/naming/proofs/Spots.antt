-- Where lines stand on a sheet: the lines up to a spot, forwards and backwards, and the states right before it.
use Rattle.std.proofs.Common.{◌≡◌, ℕ, zero, suc, ◌+◌, ◌-◌, ◌<◌, Bool, true, false, cond, List, [], ◌∷◌, map, ◌++◌, reverse, length, sym, refl, ap, ◌∙◌, suc-add, zero-add, add-one, arith}
use mathlib.Core.List.{reverse-cons}
use Rattle.text.specs.Sheet.{next_row}
use Rattle.text.specs.declared.items.Items.{Items}
use Rattle.text.specs.declared.row.Row.{Row}
use Rattle.language.specs.Basics.{leading}
use Rattle.language.specs.Named.{Line}
use Rattle.language.specs.Lines.{is, own_states, states_behind}
use Rattle.language.specs.OnSheet.{line_at, lines_at, lines_of}
use Rattle.language.specs.declared.house.Opener.TheVariants.{State}
use Rattle.naming.specs.Spots.{row_behind, rows_back, back, back_of, Stands}

-- The row behind k lines from the next row on is the next row behind k lines.
row_behind_next : (rows : List Row) (p k : ℕ) → row_behind rows (next_row rows p) k ≡ next_row rows (row_behind rows p k)
row_behind_next rows p zero = refl
row_behind_next rows p (suc k) = ap (next_row rows) (row_behind_next rows p k)

-- Lines, and those behind them.
pub lines_join : (rows : List Row) (p j k : ℕ) → lines_at rows p (j + k) ≡ lines_at rows p j ++ lines_at rows (row_behind rows p j) k
lines_join rows p zero k = ap (lines_at rows p) (zero-add k)
lines_join rows p (suc j) k =
    ap (lines_at rows p) (suc-add j k)
    ∙ ap (λ ls. line_at rows p ∷ ls) (lines_join rows (next_row rows p) j k)
    ∙ ap (λ q. line_at rows p ∷ (lines_at rows (next_row rows p) j ++ lines_at rows q k)) (row_behind_next rows p j)

pub lines_last : (rows : List Row) (p k : ℕ) → lines_at rows p (suc k) ≡ lines_at rows p k ++ line_at rows (row_behind rows p k) ∷ []
lines_last rows p k = ap (lines_at rows p) (sym (add-one k)) ∙ lines_join rows p k 1

-- Backwards and turned round, they are the lines.
pub back_reversed : (rows : List Row) (p k : ℕ) → reverse (back rows p k) ≡ lines_at rows p k
back_reversed rows p zero = refl
back_reversed rows p (suc k) =
    reverse-cons (line_at rows (row_behind rows p k)) (back rows p k)
    ∙ ap (λ ls. ls ++ line_at rows (row_behind rows p k) ∷ []) (back_reversed rows p k)
    ∙ sym (lines_last rows p k)

-- The leading ones of lines are as many lines.
leading_lines : (t : Line → Bool) (rows : List Row) (p k : ℕ) → leading t (lines_at rows p k) ≡ lines_at rows p (length (leading t (lines_at rows p k)))
leading_lines t rows p zero = refl
leading_lines t rows p (suc k) =
    elim (t (line_at rows p))
    as (λ b. cond b (line_at rows p ∷ leading t (lines_at rows (next_row rows p) k)) [] ≡ lines_at rows p (length (cond b (line_at rows p ∷ leading t (lines_at rows (next_row rows p) k)) [])))
    [ true ↦ ap (λ ls. line_at rows p ∷ ls) (leading_lines t rows (next_row rows p) k) | false ↦ refl ]

-- Of m lines i are passed: how many of the others lead by a test.
pub leading_more : (t : Line → Bool) (rows : List Row) (at m i : ℕ) → i < m
    → length (leading t (lines_at rows at (m - i))) ≡ cond (t (line_at rows at)) (suc (length (leading t (lines_at rows (next_row rows at) (m - (i + 1)))))) 0
leading_more t rows at m i h =
    let e : m - i ≡ suc (m - (i + 1)) = omega arith in
    ap (λ k. length (leading t (lines_at rows at k))) e
    ∙ elim (t (line_at rows at))
    as (λ b. length (cond b (line_at rows at ∷ leading t (lines_at rows (next_row rows at) (m - (i + 1)))) []) ≡ cond b (suc (length (leading t (lines_at rows (next_row rows at) (m - (i + 1)))))) 0)
    [ true ↦ refl | false ↦ refl ]

-- The leading ones of what f reads.
leading_map : {A : Type 0} (t : A → Bool) (f : ℕ → A) (ats : List ℕ) → leading t (map f ats) ≡ map f (leading (λ at. t (f at)) ats)
leading_map t f [] = refl
leading_map t f (at ∷ ats) =
    elim (t (f at)) as (λ b. cond b (f at ∷ leading t (map f ats)) [] ≡ map f (cond b (at ∷ leading (λ q. t (f q)) ats) []))
    [ true ↦ ap (λ ls. f at ∷ ls) (leading_map t f ats) | false ↦ refl ]

-- The states that end the lines before a spot.
pub states_run : (before states : Items) (at : ℕ) → Stands before states at → leading (is State) (back_of before) ≡ back_of states
states_run before states at s =
    leading_map (is State) (line_at before.rows.now) (rows_back before.rows.now before.first before.count)
    ∙ ap (map (line_at before.rows.now)) s.run
    ∙ ap (λ q. back q states.first states.count) (sym s.one_sheet)

-- The rows of the states right before the line behind: one more behind a state, else none.
run_next : (rows : List Row) (p n f k at : ℕ) (b : Bool) → b ≡ is State (line_at rows at) → at ≡ row_behind rows p n
    → leading (λ q. is State (line_at rows q)) (rows_back rows p n) ≡ rows_back rows f k
    → leading (λ q. is State (line_at rows q)) (rows_back rows p (suc n)) ≡ cond b (at ∷ rows_back rows f k) []
run_next rows p n f k at b e there run =
    ap (λ q. leading (λ q. is State (line_at rows q)) (q ∷ rows_back rows p n)) (sym there)
    ∙ ap (λ ls. cond (is State (line_at rows at)) (at ∷ ls) []) run
    ∙ ap (λ t. cond t (at ∷ rows_back rows f k) []) (sym e)

module _ (before states : Items) (at : ℕ) (s : Stands before states at) where
  -- On past a state, and past another line.
  pub stands_state : (before' states' : Items) (q : ℕ) → true ≡ is State (line_at before.rows.now at) → q ≡ next_row before.rows.now at
      → before'.rows.now ≡ before.rows.now → before'.first ≡ before.first → before'.count ≡ before.count + 1
      → states'.rows.now ≡ states.rows.now → states'.first ≡ states.first → states'.count ≡ states.count + 1 → Stands before' states' q
  stands_state before' states' q e n r f c r' f' c' = record {
    one_sheet = r' ∙ s.one_sheet ∙ sym r;
    there = rw (r, f, c, add-one) (n ∙ ap (next_row before.rows.now) s.there);
    follows = rw (r, f', c', add-one) (n ∙ ap (next_row before.rows.now) s.follows);
    few = omega (arith, s.few);
    run =
        rw (r, f, c, f', c', add-one before.count, add-one states.count)
        (run_next before.rows.now before.first before.count states.first states.count at true e s.there s.run
        ∙ ap (λ p. p ∷ rows_back before.rows.now states.first states.count) s.follows);
  }

  pub stands_other : (before' states' : Items) (q : ℕ) → false ≡ is State (line_at before.rows.now at) → q ≡ next_row before.rows.now at
      → before'.rows.now ≡ before.rows.now → before'.first ≡ before.first → before'.count ≡ before.count + 1
      → states'.rows.now ≡ before.rows.now → states'.first ≡ q → states'.count ≡ 0 → Stands before' states' q
  stands_other before' states' q e n r f c r' f' c' = record {
    one_sheet = r' ∙ sym r;
    there = rw (r, f, c, add-one) (n ∙ ap (next_row before.rows.now) s.there);
    follows = rw (f', c');
    few = omega arith;
    run = rw (r, f, c, c', add-one before.count) (run_next before.rows.now before.first before.count states.first states.count at false e s.there s.run);
  }

-- The states of a line's process are those right before it, the line, and as many as lead behind it.
pub own_lines : (before states behind : Items) (at : ℕ) → Stands before states at → behind.rows.now ≡ before.rows.now → behind.first ≡ next_row before.rows.now at
    → own_states (back_of before) (line_at before.rows.now at) (lines_of behind)
    ≡ lines_at states.rows.now states.first (states.count + 1 + length (states_behind (lines_of behind)))
own_lines before states behind at s r n =
    let rows = before.rows.now in
    let k = length (states_behind (lines_of behind)) in
    let led : states_behind (lines_of behind) ≡ lines_at rows (next_row rows at) k =
    leading_lines (is State) behind.rows.now behind.first behind.count ∙ ap (λ q. lines_at q behind.first k) r ∙ ap (λ q. lines_at rows q k) n in
    let m : states.count + suc k ≡ states.count + 1 + k = omega arith in
    ap (λ ls. reverse ls ++ (line_at rows at ∷ states_behind (lines_of behind))) (states_run before states at s)
    ∙ ap (λ ls. ls ++ (line_at rows at ∷ states_behind (lines_of behind))) (back_reversed states.rows.now states.first states.count)
    ∙ ap (λ q. lines_at q states.first states.count ++ (line_at rows at ∷ states_behind (lines_of behind))) s.one_sheet
    ∙ ap (λ ls. lines_at rows states.first states.count ++ (line_at rows at ∷ ls)) led
    ∙ ap (λ q. lines_at rows states.first states.count ++ lines_at rows q (suc k)) s.follows
    ∙ sym (lines_join rows states.first states.count (suc k))
    ∙ ap (lines_at rows states.first) m
    ∙ ap (λ q. lines_at q states.first (states.count + 1 + k)) (sym s.one_sheet)
