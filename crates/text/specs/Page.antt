-- What a text comes to on a sheet.
use Rattle.std.specs.Prelude.{◌≡◌, ℕ, cond, ◌||◌, List, length, Ok, Err, Result, ◌==◌, nat_le, nat_lt}
use Rattle.text.specs.Reading.{Read, forms, wrong, read_text}
use Rattle.text.specs.Sheet.{forms_at, rows_in}
use Rattle.text.specs.declared.read.Page.{Page}
use Rattle.text.specs.declared.read.ReadRefusal.{ReadRefusal}
use Rattle.text.specs.declared.read.ReadRefusal.TheVariants.{Size, Line, Short}
use Rattle.text.specs.declared.row.Row.{Row}

-- the answer for what was read, on a sheet of len rows: a short sheet is told only where every line is a form
abbrev pub laid_out : Read → ℕ → Result Page ReadRefusal
laid_out (wrong n) len = Err (Line n)
laid_out (forms fs) len = cond (nat_le (rows_in fs) len) (Ok (record { rows = rows_in fs; lines = length fs })) (Err Short)

-- the answer for a text, of 1 to 32,768 bytes
abbrev pub page_of : List ℕ → ℕ → Result Page ReadRefusal
page_of text len = cond (length text == 0 || nat_lt 32768 (length text)) (Err Size) (laid_out (read_text text) len)

-- where the answer is a page, the sheet holds the forms that were read
abbrev pub Holds : Read → Result Page ReadRefusal → List Row → Type 0
Holds x (Ok p) sheet = x ≡ forms (forms_at sheet 0 p.lines)
Holds x (Err e) sheet = Unit {0}
