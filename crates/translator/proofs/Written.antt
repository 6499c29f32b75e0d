-- The words of a code, once all are written.
use Rattle.std.proofs.Common.{◌≡◌, ℕ, suc, ◌+◌, ◌*◌, ◌≤◌, List, [], ◌∷◌, ◌++◌, length, take, drop, set, ℤ, pos, sym, refl, ap, ◌∙◌, append_assoc, arith}
use borrow.Rule.Slice.PartMut.{put_mid}
use Rattle.std.proofs.lemmas.List.{take_at, drop_at, drop-drop, drop_all, append-nil, length-take-le, length-drop}
use Rattle.flat.specs.declared.instr.Instr.{Instr}
use Rattle.language.specs.Named.{Line}
use Rattle.language.specs.Lines.{declared, processes}
use Rattle.language.specs.Program.{size_of_all, instructions_from, entries_from}
use Rattle.language.specs.Resolve.{all_names, program}
use Rattle.language.specs.Words.{instruction_words, process_words, kind_number, period, words}
use Rattle.language.specs.declared.house.Opener.TheVariants.{Cell, In, Out}
use Rattle.translator.specs.Writing.{put_at, states_size, processes_size, processes_put}
use Rattle.translator.specs.Front.{over, process_entries, head_words, front_words}
use Rattle.translator.proofs.Compiled.{puts, puts_processes, all_size, all_entries}
use Rattle.translator.proofs.Lengths.{instructions_length, words_length, processes_append, processes_length}

-- Words written from the first on are those words, and then what stood behind them.
over_cons : (k : ℕ) (vs ws : List ℤ) (w : ℤ) → over (suc k) vs (w ∷ ws) ≡ w ∷ over k vs ws
over_cons k [] ws w = refl
over_cons k (v ∷ vs) ws w = let e : suc k + 1 ≡ suc (k + 1) = omega arith in rw e (over_cons (k + 1) vs (set ws k v) w)

pub over_front : (vs ws : List ℤ) → length vs ≤ length ws → over 0 vs ws ≡ vs ++ drop (length vs) ws
over_front [] ws h = refl
over_front (v ∷ vs) [] h = absurd (omega arith)
over_front (v ∷ vs) (w ∷ ws) h = over_cons 0 vs ws v ∙ ap (λ xs. v ∷ xs) (over_front vs ws (omega arith))

-- Instructions that are put are their words, written.
pub puts_words : (is : List Instr) (p : ℕ) (ws : List ℤ) → puts p is ws ≡ over (2 * p) (instruction_words is) ws
unfolding put_at
puts_words [] p ws = refl
puts_words (i ∷ is) p ws =
    let e : 2 * p + 1 + 1 ≡ 2 * (p + 1) = omega arith in
    puts_words is (p + 1) (put_at p i ws) ∙ ap (λ k. over k (instruction_words is) (put_at p i ws)) (sym e)

-- The words of lines in three parts, and how many there are.
entries_count : (p : ℕ) (gs : List (List Line)) → length (process_entries p gs) ≡ length gs
entries_count p [] = refl
entries_count p (g ∷ gs) = ap suc (entries_count (p + states_size g) gs)

pub words_are : (ls : List Line) → words ls ≡ front_words ls ++ instruction_words (instructions_from 0 (program ls))
unfolding front_words words
words_are ls =
    let e = all_entries (all_names ls) 0 0 (processes ls) in
    let a = ap length e ∙ entries_count 0 (processes ls) in
    let b = instructions_length (program ls) 0 ∙ all_size (all_names ls) 0 (processes ls) in
    let I = instruction_words (instructions_from 0 (program ls)) in
    (λ i. kind_number ls ∷ period ls ∷ pos (length (declared Cell ls)) ∷ pos (length (declared In ls)) ∷ pos (length (declared Out ls)) ∷ pos (a i) ∷ pos (b i) ∷ process_words (e i) I)
    ∙ ap (λ ws. head_words ls (length (processes ls)) (processes_size (processes ls)) ++ ws) (processes_append (process_entries 0 (processes ls)) I)

pub words_count : (ls : List Line) → length (words ls) ≡ 7 + 17 * length (processes ls) + 2 * processes_size (processes ls)
unfolding words
words_count ls =
    let e = all_entries (all_names ls) 0 0 (processes ls) in
    let a = ap length e ∙ entries_count 0 (processes ls) in
    let b = instructions_length (program ls) 0 ∙ all_size (all_names ls) 0 (processes ls) in
    let w = words_length (instructions_from 0 (program ls)) in
    let k = processes_length (entries_from 0 (program ls)) (instruction_words (instructions_from 0 (program ls))) in
    omega arith

pub small_size : (ls : List Line) → size_of_all (program ls) ≤ 4096 → processes_size (processes ls) ≤ 4096
small_size ls h = let k = all_size (all_names ls) 0 (processes ls) in omega arith

front_count : (ls : List Line) → length (front_words ls) ≡ 7 + 17 * length (processes ls)
unfolding front_words
front_count ls = let e = entries_count 0 (processes ls) in let k = processes_length (process_entries 0 (processes ls)) [] in omega arith

pub front_written : (ls : List Line) (p i : ℕ) (old head last : List ℤ) → p ≡ length (processes ls) → i ≡ processes_size (processes ls)
    → head ≡ over 0 (head_words ls p i) old → last ≡ over 7 (process_words (process_entries 0 (processes ls)) []) head → last ≡ over 0 (front_words ls) old
unfolding front_words
front_written ls p i old head last a b e f = f ∙ ap (over 7 (process_words (process_entries 0 (processes ls)) [])) (e ∙ (λ j. over 0 (head_words ls (a j) (b j)) old))

-- Where there is room for the words of lines, there is room for the parts of them.
pub parts_fit : (ls : List Line) (p i n : ℕ) → p ≡ length (processes ls) → i ≡ processes_size (processes ls) → length (words ls) ≤ n → 7 + 17 * p + 2 * i ≤ n
parts_fit ls p i n a b h = let k = words_count ls in omega arith

pub part_length : (base k : ℕ) (ws : List ℤ) → base + k ≤ length ws → length (take k (drop base ws)) ≡ k
part_length base k ws h = length-take-le k (drop base ws) (omega (arith, length-drop base ws))

-- The words of all instructions, written where there is room for just them.
instructions_written : (ls : List Line) (k : ℕ) (ws : List ℤ) → k ≡ 2 * processes_size (processes ls) → length ws ≡ k
    → processes_put (all_names ls) 0 0 (processes ls) ws ≡ instruction_words (instructions_from 0 (program ls))
instructions_written ls k ws e f =
    let I = instruction_words (instructions_from 0 (program ls)) in
    let b = instructions_length (program ls) 0 ∙ all_size (all_names ls) 0 (processes ls) in
    let l = words_length (instructions_from 0 (program ls)) in
    let n : length I ≡ length ws = omega arith in
    sym (puts_processes (all_names ls) 0 0 (processes ls) ws) ∙ puts_words (instructions_from 0 (program ls)) 0 ws ∙ over_front I ws (omega arith)
    ∙ ap (λ xs. I ++ xs) (drop_all (length I) ws (omega arith)) ∙ append-nil I

-- The front, then the instructions, then what stood behind them.
pub all_written : (ls : List Line) (base k : ℕ) (old front part : List ℤ) → base ≡ 7 + 17 * length (processes ls) → k ≡ 2 * processes_size (processes ls)
    → length (words ls) ≤ length old → front ≡ over 0 (front_words ls) old → part ≡ processes_put (all_names ls) 0 0 (processes ls) (take k (drop base front))
    → put_mid base k front part ≡ words ls ++ drop (length (words ls)) old
all_written ls base k old front part a b h e f =
    let F = front_words ls in
    let I = instruction_words (instructions_from 0 (program ls)) in
    let n = words_count ls in
    let m : length F ≡ base = front_count ls ∙ sym a in
    let g : front ≡ F ++ drop base old = e ∙ over_front F old (omega arith) ∙ ap (λ j. F ++ drop j old) m in
    let d : drop base front ≡ drop base old = ap (drop base) g ∙ drop_at F (drop base old) base m in
    let t : take base front ≡ F = ap (take base) g ∙ take_at F (drop base old) base m in
    let r : length (take k (drop base old)) ≡ k = part_length base k old (omega arith) in
    let i : part ≡ I = f ∙ ap (λ xs. processes_put (all_names ls) 0 0 (processes ls) (take k xs)) d ∙ instructions_written ls k (take k (drop base old)) b r in
    let q : base + k ≡ length (words ls) = omega arith in
    (λ j. t j ++ (i j ++ drop k (d j))) ∙ ap (λ xs. F ++ (I ++ xs)) (drop-drop k base old ∙ ap (λ j. drop j old) q) ∙ sym (append_assoc F I (drop (length (words ls)) old))
    ∙ ap (λ xs. xs ++ drop (length (words ls)) old) (sym (words_are ls))
