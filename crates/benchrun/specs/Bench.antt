-- What bench prints for an input.
use Rattle.std.specs.Prelude.{◌≡◌, ℕ, ◌<◌, ◌≤◌, List, length, ℤ}
use Rattle.language.specs.Translation.{translation, refused, translated}
use Rattle.lines.specs.Lines.{refusal_line}
use Rattle.playback.specs.Replay.{Ran}
use Rattle.benchrun.specs.Split.{text_in, tape_in}

-- The most bytes of an input, the rows of the sheet, and the most words that a code has.
abbrev pub limit : ℕ
limit = 61440

abbrev pub sheet_rows : ℕ
sheet_rows = 4096

abbrev pub code_room : ℕ
code_room = 8743

-- What is printed for a text and a tape, with so many rows and room for so many words: a text that is refused by its number and line, else
-- the lines of its code's run through the tape.
pub data Answered (rows room : ℕ) (text tape : List ℕ) : List ℕ → Type 0 where
  no_code : (n l : ℕ) → translation text rows room ≡ refused n l → Answered rows room text tape (refusal_line n l)
  ran : (ws : List ℤ) (most : ℕ) → translation text rows room ≡ translated ws most → (out : List ℕ) → Ran ws tape out → Answered rows room text tape out

-- What is printed for an input: one of more bytes than the limit is refused by (no 0 0), whatever it has.
pub data Benched (input : List ℕ) : List ℕ → Type 0 where
  too_long : limit < length input → Benched input (refusal_line 0 0)
  in_limit : length input ≤ limit → (out : List ℕ) → Answered sheet_rows code_room (text_in input) (tape_in input) out → Benched input out
