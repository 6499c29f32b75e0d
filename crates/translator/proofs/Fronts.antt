-- Words written one behind another.
use Rattle.std.proofs.Common.{◌≡◌, ℕ, zero, suc, ◌+◌, ◌-◌, ◌*◌, ◌<◌, ◌≤◌, List, [], ◌∷◌, length, set, ℤ, pos, sym, refl, ap, ◌∙◌, add-zero, arith}
use Rattle.language.specs.Named.{Line}
use Rattle.language.specs.Lines.{body}
use Rattle.language.specs.Sizes.{act_size}
use Rattle.language.specs.Words.{padded, process_words}
use Rattle.translator.specs.Writing.{states_size, processes_size}
use Rattle.translator.specs.Front.{over, line_entries, process_entries}

-- Of the entries of the state lines `all`, whose bodies begin at place p, those behind the first i are left, from place q on.
pub record EntriesGoing (all left : List Line) (w i p q : ℕ) (old new : List ℤ) : Type 0 where
  pub ended : q + states_size left ≡ p + states_size all
  pub wrote : over (w + i) (padded (16 - i) (line_entries q left) []) new ≡ over w (padded 16 (line_entries p all) []) old

pub entries_from : (all : List Line) (w p : ℕ) (old : List ℤ) → EntriesGoing all all w 0 p p old old
entries_from all w p old = record { ended = refl; wrote = rw (add-zero w) }

pub entries_more : (all left behind : List Line) (l : Line) (w i p q e : ℕ) (old new last : List ℤ) → EntriesGoing all left w i p q old new → left ≡ l ∷ behind → i < 16
    → e ≡ q + (act_size (body l) + 1) → last ≡ set new (w + i) (pos q) → EntriesGoing all behind w (i + 1) p e old last
entries_more all left behind l w i p q e old new last g d h a b =
    let k : EntriesGoing all (l ∷ behind) w i p q old new = rw d at g in
    let x = k.ended in
    let n : 16 - i ≡ suc (16 - (i + 1)) = omega arith in
    let m : w + i + 1 ≡ w + (i + 1) = omega arith in
    record { ended = omega arith; wrote = rw (← m, a, b) (rw n at k.wrote) }

pub entries_pad : (all left : List Line) (w i p q : ℕ) (old new last : List ℤ) → EntriesGoing all left w i p q old new → left ≡ [] → i < 16
    → last ≡ set new (w + i) (pos 0) → EntriesGoing all [] w (i + 1) p q old last
entries_pad all left w i p q old new last g d h b =
    let k : EntriesGoing all [] w i p q old new = rw d at g in
    let n : 16 - i ≡ suc (16 - (i + 1)) = omega arith in
    let m : w + i + 1 ≡ w + (i + 1) = omega arith in
    record { ended = k.ended; wrote = rw (← m, b) (rw n at k.wrote) }

pub entries_all : (all left : List Line) (w i p q : ℕ) (old new : List ℤ) → EntriesGoing all left w i p q old new → 16 ≤ i → new ≡ over w (padded 16 (line_entries p all) []) old
entries_all all left w i p q old new g h = let n : 16 - i ≡ 0 = omega arith in rw n at g.wrote

-- Padded entries, and what stands behind them.
over_padded : (n k : ℕ) (es : List ℕ) (rest ws : List ℤ) → over k (padded n es rest) ws ≡ over (k + n) rest (over k (padded n es []) ws)
over_padded zero k es rest ws = rw (add-zero k)
over_padded (suc n) k [] rest ws = let m : k + suc n ≡ k + 1 + n = omega arith in rw m (over_padded n (k + 1) [] rest (set ws k (pos 0)))
over_padded (suc n) k (e ∷ es) rest ws = let m : k + suc n ≡ k + 1 + n = omega arith in rw m (over_padded n (k + 1) es rest (set ws k (pos e)))

-- Of the words of the processes `all`, those of the processes `left` are left, whose bodies begin at place p, from word w on.
pub record FrontsGoing (all left : List (List Line)) (p w : ℕ) (old new : List ℤ) : Type 0 where
  pub ended : p + processes_size left ≡ processes_size all
  pub placed : w + 17 * length left ≡ 7 + 17 * length all
  pub wrote : over w (process_words (process_entries p left) []) new ≡ over 7 (process_words (process_entries 0 all) []) old

pub fronts_from : (all : List (List Line)) (old : List ℤ) → FrontsGoing all all 0 7 old old
fronts_from all old = record { ended = omega arith; placed = refl; wrote = refl }

pub fronts_more : (all left behind : List (List Line)) (g : List Line) (p w q v : ℕ) (old new last : List ℤ) → FrontsGoing all left p w old new → left ≡ g ∷ behind
    → q ≡ p + states_size g → v ≡ w + 17 → last ≡ over w (process_words (line_entries p g ∷ []) []) new → FrontsGoing all behind q v old last
fronts_more all left behind g p w q v old new last f d a b e =
    let k : FrontsGoing all (g ∷ behind) p w old new = rw d at f in
    let x = k.ended in
    let y = k.placed in
    let m : w + 17 ≡ w + 1 + 16 = omega arith in
    let s = over_padded 16 (w + 1) (line_entries p g) (process_words (process_entries (p + states_size g) behind) []) (set new w (pos (length (line_entries p g)))) in
    record {
      ended = omega arith;
      placed = omega arith;
      wrote = rw (a, b, e, m) (sym s ∙ k.wrote);
    }

-- There is room for the words of the next process.
pub fronts_room : (all left behind : List (List Line)) (g : List Line) (p w : ℕ) (old new : List ℤ) → FrontsGoing all left p w old new → left ≡ g ∷ behind
    → processes_size all ≤ 4096 → 7 + 17 * length all ≤ length old → length new ≡ length old → (p + states_size g ≤ 4096) × (w + 17 ≤ length new)
fronts_room all left behind g p w old new f d a b e =
    let k : FrontsGoing all (g ∷ behind) p w old new = rw d at f in
    let x = k.ended in
    let y = k.placed in
    (omega arith, omega arith)

-- As many entries as state lines.
pub entries_length : (ls : List Line) (p : ℕ) → length (line_entries p ls) ≡ length ls
entries_length [] p = refl
entries_length (l ∷ ls) p = ap suc (entries_length ls (p + (act_size (body l) + 1)))
