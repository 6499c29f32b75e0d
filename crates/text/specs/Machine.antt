-- The reader in place: what its parts stand for, and what a move does.
use Rattle.std.specs.Prelude.{◌≡◌, ℕ, ◌+◌, ◌-◌, ◌<◌, ◌≤◌, Bool, cond, List, [], ◌∷◌, ◌++◌, take, drop, Some, None, Ok, Err, Option, Result, slice_index}
use Rattle.text.specs.Tokens.{Mode, line, want, after, ended, in_word, in_number, Spot, spot, halt, Tok, left, right, name, numeral, Toks, tok, end, bad, toks, Out, goes, says, lex}
use Rattle.text.specs.declared.class.Class.{Class}
use Rattle.text.specs.declared.reader.State.{State}
use Rattle.text.specs.declared.reader.State.TheVariants.{Between, Word as InWord, Number as InNumber}
use Rattle.text.specs.declared.reader.Gap.{Gap}
use Rattle.text.specs.declared.reader.Gap.TheVariants.{Line, Want, After, Ended}
use Rattle.text.specs.declared.reader.Item.{Item}
use Rattle.text.specs.declared.reader.Item.TheVariants.{Open, Close, Word, Number}
use Rattle.text.specs.declared.reader.NoForm.{NoForm}
use Rattle.text.specs.declared.reader.Reader.{Reader}

-- the mode between items, by the gap
abbrev pub gap_mode : Gap → Mode
gap_mode Line = line
gap_mode Want = want
gap_mode After = after
gap_mode Ended = ended

-- the mode, by the state, the gap and the bytes of the word or number so far
abbrev pub mode_by : State → Gap → List ℕ → Mode
mode_by Between g w = gap_mode g
mode_by InWord g w = in_word w
mode_by InNumber g w = in_number w

-- the next byte
abbrev pub byte : Reader → ℕ
byte r = slice_index r.text.now r.at

-- the bytes of the word or number so far
abbrev pub part_of : Reader → List ℕ
part_of r = take (r.at - r.from) (drop r.from r.text.now)

-- where the reader is
abbrev pub spot_of : Reader → Spot
spot_of r = spot (mode_by r.state r.gap (part_of r)) r.depth r.line

-- the tokens from where the reader is
abbrev pub ahead : Reader → Toks
ahead r = toks (spot_of r) (drop r.at r.text.now)

-- an item as a token
abbrev pub tok_of : Item → Tok
tok_of Open = left
tok_of Close = right
tok_of (Word w p) = name w.now
tok_of (Number w p) = numeral w.now

-- what a move from s says, and the spot that it leads to
abbrev pub out_of : Result (Option Item) NoForm → Reader → Out
out_of (Ok None) t = goes (spot_of t)
out_of (Ok (Some i)) t = says (tok_of i) (goes (spot_of t))
out_of (Err e) t = goes (halt e.line)

-- an item is the part of the text from its place up to where the reader is
abbrev pub ItemAt : Item → Reader → Type 0
ItemAt Open t = Unit {0}
ItemAt Close t = Unit {0}
ItemAt (Word w p) t = w.now ≡ take (t.at - p) (drop p t.text.now)
ItemAt (Number w p) t = w.now ≡ take (t.at - p) (drop p t.text.now)

-- an item that was read is such a part
abbrev pub Placed : Result (Option Item) NoForm → Reader → Type 0
Placed (Ok None) t = Unit {0}
Placed (Ok (Some i)) t = ItemAt i t
Placed (Err e) t = Unit {0}

-- a move from s to t takes k bytes, and says what o says of s
pub record Moved (s t : Reader) (r : Result (Option Item) NoForm) (o : Reader → Out) (k : ℕ) : Type 0 where
  pub says : out_of r t ≡ o s
  pub text : t.text ≡ s.text
  pub placed : Placed r t
  pub on : t.at ≡ s.at + k

-- a byte of class c between items
abbrev pub between_items : Class → Reader → Out
between_items c s = lex (gap_mode s.gap) s.depth s.line (byte s) c

-- a byte more in a word or a number, if it may follow
abbrev pub item_grows : Bool → Reader → Out
item_grows fits s = goes (cond fits (spot (mode_by s.state s.gap (part_of s ++ byte s ∷ [])) s.depth s.line) (halt s.line))

-- a word or a number ends before the next byte
abbrev pub item_ends : Tok → Reader → Out
item_ends t s = says t (goes (spot after s.depth s.line))

-- the tokens from before a move on, by those behind it
abbrev pub told : Result (Option Item) NoForm → Toks → Toks
told (Ok None) ts = ts
told (Ok (Some i)) ts = tok (tok_of i) ts
told (Err e) ts = bad e.line

-- a move that goes on takes a byte
abbrev pub Further : Result (Option Item) NoForm → ℕ → ℕ → Type 0
Further (Ok None) i j = i < j
Further (Ok (Some x)) i j = i ≤ j
Further (Err e) i j = i ≤ j

-- a whole step from s to t
pub record Stepped (s t : Reader) (r : Result (Option Item) NoForm) : Type 0 where
  pub says : ahead s ≡ told r (ahead t)
  pub text : t.text ≡ s.text
  pub placed : Placed r t
  pub on : Further r s.at t.at

-- the tokens from before an answer on, by those behind it
abbrev pub answered : Result (Option Item) NoForm → Toks → Toks
answered (Ok None) ts = end
answered (Ok (Some i)) ts = tok (tok_of i) ts
answered (Err e) ts = bad e.line

-- an answer, from s to t
pub record Answered (s t : Reader) (r : Result (Option Item) NoForm) : Type 0 where
  pub says : ahead s ≡ answered r (ahead t)
  pub text : t.text ≡ s.text
  pub placed : Placed r t
