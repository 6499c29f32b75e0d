-- How a text is read byte by byte, into tokens.
use Rattle.std.specs.Prelude.{ℕ, ◌+◌, ◌-◌, cond, List, [], ◌∷◌, ◌++◌, length, nat_lt}
use Rattle.text.specs.Bytes.{class_of, grows, complete}
use Rattle.text.specs.declared.class.Class.{Class}
use Rattle.text.specs.declared.class.Class.TheVariants.{Open, Close, Space, Feed, Minus, Digit, Letter}

-- a left or right bracket, a word or a number
pub data Tok : Type 0 where
  left right : Tok
  name numeral : List ℕ → Tok

-- the tokens of a text, up to its end or to the first line that is no form
pub data Toks : Type 0 where
  end : Toks
  bad : ℕ → Toks
  tok : Tok → Toks → Toks

-- where a reader is: at a line's start, where an item is due, behind an item, behind a line's form, in a word or a number
pub data Mode : Type 0 where
  line want after ended : Mode
  in_word in_number : List ℕ → Mode

-- the mode, how many brackets are open, and the line; or the line that is no form
pub data Spot : Type 0 where
  spot : Mode → ℕ → ℕ → Spot
  halt : ℕ → Spot

-- what a byte gives: at most two tokens, and the next spot
pub record Out : Type 0 where
  pub said : List Tok
  pub next : Spot

-- no token
abbrev pub goes : Spot → Out
goes s = record { said = []; next = s }

-- a token more, in front
abbrev pub says : Tok → Out → Out
says t o = record { said = t ∷ o.said; next = o.next }

-- a bracket opens, in k brackets, of which there are at most twelve
abbrev pub opening : ℕ → ℕ → Out
opening k n = cond (nat_lt k 12) (says left (goes (spot want (k + 1) n))) (goes (halt n))

-- at a line's start: only an opening bracket
abbrev pub at_line : ℕ → ℕ → Class → Out
at_line k n Open = opening k n
at_line k n _ = goes (halt n)

-- where an item is due: a form, a number or a word begins
abbrev pub at_want : ℕ → ℕ → ℕ → Class → Out
at_want k n b Open = opening k n
at_want k n b Minus = goes (spot (in_number (b ∷ [])) k n)
at_want k n b Digit = goes (spot (in_number (b ∷ [])) k n)
at_want k n b Letter = goes (spot (in_word (b ∷ [])) k n)
at_want k n b _ = goes (halt n)

-- behind an item: one space before the next, or the form's end
abbrev pub at_after : ℕ → ℕ → Class → Out
at_after k n Close = says right (goes (cond (nat_lt 1 k) (spot after (k - 1) n) (spot ended 0 n)))
at_after k n Space = goes (spot want k n)
at_after k n _ = goes (halt n)

-- behind a line's form: only a line feed
abbrev pub at_ended : ℕ → ℕ → Class → Out
at_ended k n Feed = goes (spot line k (n + 1))
at_ended k n _ = goes (halt n)

-- a letter or a digit more in a word, of at most twelve
abbrev pub longer : ℕ → ℕ → List ℕ → ℕ → Out
longer k n w b = goes (cond (nat_lt (length w) 12) (spot (in_word (w ++ b ∷ [])) k n) (halt n))

-- in a word: it grows, or it ends before the byte
abbrev pub at_word : ℕ → ℕ → List ℕ → ℕ → Class → Out
at_word k n w b Digit = longer k n w b
at_word k n w b Letter = longer k n w b
at_word k n w b c = says (name w) (at_after k n c)

-- a digit more in a number, where it may follow
abbrev pub digits : ℕ → ℕ → List ℕ → ℕ → Out
digits k n w b = goes (cond (grows w b) (spot (in_number (w ++ b ∷ [])) k n) (halt n))

-- a number ends before a byte of class c
abbrev pub counted : ℕ → ℕ → List ℕ → Class → Out
counted k n w c = cond (complete w) (says (numeral w) (at_after k n c)) (goes (halt n))

-- in a number: it grows, or it ends before the byte
abbrev pub at_number : ℕ → ℕ → List ℕ → ℕ → Class → Out
at_number k n w b Digit = digits k n w b
at_number k n w b c = counted k n w c

-- what the byte b of class c gives, by the mode, with k brackets open, in line n
abbrev pub lex : Mode → ℕ → ℕ → ℕ → Class → Out
lex line k n b c = at_line k n c
lex want k n b c = at_want k n b c
lex after k n b c = at_after k n c
lex ended k n b c = at_ended k n c
lex (in_word w) k n b c = at_word k n w b c
lex (in_number w) k n b c = at_number k n w b c

-- at the text's end: it may end only at a line's start
abbrev pub last : Mode → ℕ → Toks
last line n = end
last _ n = bad n

-- tokens before others
abbrev pub prefix : List Tok → Toks → Toks
prefix [] ts = ts
prefix (x ∷ xs) ts = tok x (prefix xs ts)

-- the tokens from a spot on
abbrev pub toks : Spot → List ℕ → Toks
toks (halt n) bs = bad n
toks (spot m k n) [] = last m n
toks (spot m k n) (b ∷ bs) = prefix (lex m k n b (class_of b)).said (toks (lex m k n b (class_of b)).next bs)
