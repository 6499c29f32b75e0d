-- What is printed for an input of a stored code and rows.
use Rattle.std.specs.Prelude.{◌≡◌, ℕ, ◌+◌, ◌<◌, ◌≤◌, List, ◌++◌, map, length, ℤ, pos, Some, None, Ok, Err, vec_items, codes, Option, Result, Vec, FitsSigned}
use Rattle.std.specs.Int.{w32}
use Rattle.std.specs.List.{AllByRecursion}
use Rattle.std.specs.declared.alloc.Global.{Global}
use Rattle.kinds.specs.Ops.{Ops}
use Rattle.kinds.specs.Longs as Longs
use Rattle.kinds.specs.Millis as Millis
use Rattle.hosts.specs.Meaning.{up}
use Rattle.hosts.specs.declared.tape.Spent.{Spent}
use Rattle.flat.specs.Words.{at, word}
use Rattle.flat.specs.Layout.{Layout}
use Rattle.refusals.specs.Numbers.{mount_number}
use Rattle.numerals.specs.Print.{shown_list}
use Rattle.lists.specs.Read.{NoList}
use Rattle.lists.specs.declared.ListError.{ListError}
use Rattle.lists.specs.declared.ListError.TheVariants.{NotAList, NoMemory as NoListMemory}
use Rattle.lines.specs.Lines.{refusal_line}
use Rattle.playback.specs.Listing.{beginning, listing}
use Rattle.playback.specs.declared.replay.Unplayed.{Unplayed}
use Rattle.playback.specs.declared.replay.Unplayed.TheVariants.{Unreadable, NotMounted, NoMemory}
use Rattle.rows.specs.Rows.{WholeRows}

-- The lines of a run of a code from its beginning, with a scan for each row: the row's levels stand at the pins. The working
-- memory is what a scan of the code needs.
abbrev pub run_lines : {V : Type 0} → Ops V → List ℤ → List (List ℤ) → List ℕ
run_lines k code rows = listing {F = Spent} k code (word code 2 + 16) 1 (map up rows) (beginning k code)

-- What is printed for a code and the text behind it: a code that is not of the layout is refused by (no 9 0); a text that is not whole
-- rows, with a number for each input of the code, of which there is at least one, by (no 0 0); else the lines of the run are
-- printed, by the code's kind.
pub data Ran (code : List ℤ) (text : List ℕ) : List ℕ → Type 0 where
  no_layout : (Layout code → ⊥) → Ran code text (refusal_line 9 0)
  no_rows : Layout code → ((rows : List (List ℤ)) → WholeRows (word code 3) text rows → ⊥) → Ran code text (refusal_line 0 0)
  long_run : Layout code → at code 0 ≡ pos 1 → (rows : List (List ℤ)) → WholeRows (word code 3) text rows → Ran code text (run_lines Longs.ops code rows)
  milli_run : Layout code → at code 0 ≡ pos 2 → (rows : List (List ℤ)) → WholeRows (word code 3) text rows → Ran code text (run_lines Millis.ops code rows)

-- The input is the line `(code w ...)` of a code of 32-bit words, and the text behind it.
pub record CodeLine (input : List ℕ) (code : List ℤ) (text : List ℕ) : Type 0 where
  pub fit : AllByRecursion (FitsSigned w32) code
  pub print : input ≡ shown_list (codes "code") code ++ text

-- What is printed for an input: one without a code line in front is refused by (no 0 0).
pub data Answered (input : List ℕ) : List ℕ → Type 0 where
  no_code : NoList (codes "code") input → Answered input (refusal_line 0 0)
  coded : (code : List ℤ) (text out : List ℕ) → CodeLine input code text → Ran code text out → Answered input out

-- An input of more bytes than the limit is refused by (no 0 0), whatever it has.
abbrev pub limit : ℕ
limit = 1048576

pub data Replayed (input : List ℕ) : List ℕ → Type 0 where
  too_long : limit < length input → Replayed input (refusal_line 0 0)
  in_limit : length input ≤ limit → (out : List ℕ) → Answered input out → Replayed input out

-- Why nothing is played where a list is not read.
abbrev pub unplayed : ListError → Unplayed
unplayed NotAList = Unreadable
unplayed NoListMemory = NoMemory

-- What is printed of what was played, or for why nothing was; nothing where there is no memory.
abbrev pub printed_for : Result (Vec ℕ Global) Unplayed → Option (List ℕ)
printed_for (Ok out) = Some (vec_items out)
printed_for (Err Unreadable) = Some (refusal_line 0 0)
printed_for (Err (NotMounted e)) = Some (refusal_line (mount_number e) 0)
printed_for (Err NoMemory) = None
