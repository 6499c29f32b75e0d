-- The number and the line of each refusal of a text.
use Rattle.std.specs.Prelude.{ℕ, Some, None, Ok, Err, Option, Result}
use Rattle.text.specs.declared.read.ReadRefusal.{ReadRefusal}
use Rattle.text.specs.declared.read.ReadRefusal.TheVariants.{Size as TextSize, Line, Short}
use Rattle.checks.specs.declared.refusal.Refusal.{Refusal}
use Rattle.checks.specs.declared.refusal.Refusal.TheVariants.{Size, NoForm, ShortSheet, Unfit, PastLimit, NoName, Unknown, NextInLast, ShortCode}

-- The number by which a refusal is known.
abbrev pub refusal_number : Refusal → ℕ
refusal_number Size = 1
refusal_number (NoForm n) = 2
refusal_number (Unfit n) = 3
refusal_number (PastLimit n) = 4
refusal_number (NoName n) = 5
refusal_number (Unknown n) = 6
refusal_number (NextInLast n) = 7
refusal_number ShortSheet = 8
refusal_number ShortCode = 8

-- The line at which it is told, counted from 1, or 0.
abbrev pub refusal_line : Refusal → ℕ
refusal_line Size = 0
refusal_line (NoForm n) = n
refusal_line (Unfit n) = n
refusal_line (PastLimit n) = n
refusal_line (NoName n) = n
refusal_line (Unknown n) = n
refusal_line (NextInLast n) = n
refusal_line ShortSheet = 0
refusal_line ShortCode = 0

-- The cause that a check found, with its line.
abbrev pub cause : {U : Type 0} → Result U Refusal → Option (ℕ × ℕ)
cause (Ok u) = None
cause (Err e) = Some (refusal_number e, refusal_line e)

-- The refusal of a text that could not be read.
abbrev pub refusal_of : ReadRefusal → Refusal
refusal_of TextSize = Size
refusal_of (Line n) = NoForm n
refusal_of Short = ShortSheet
