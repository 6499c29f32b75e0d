-- What translate answers, by what reading and checking found.
use Rattle.std.proofs.Common.{◌≡◌, ℕ, ◌<◌, ◌≤◌, Bool, true, false, cond, ◌||◌, eqb, ltb, leb, List, [], ◌∷◌, length, ℤ, Some, None, Ok, Err, Option, Result, sym, refl, ap, ◌∙◌, arith, le-ltb, lt-ltb}
use Rattle.text.specs.Form.{Form}
use Rattle.text.specs.Page.{page_of, laid_out}
use Rattle.text.specs.Reading.{Read, forms, wrong, read_text}
use Rattle.text.specs.Sheet.{forms_at, rows_in}
use Rattle.text.specs.declared.row.Row.{Row}
use Rattle.text.specs.declared.read.Page.{Page}
use Rattle.text.specs.declared.read.ReadRefusal.{ReadRefusal}
use Rattle.text.specs.declared.read.ReadRefusal.TheVariants.{Size, Line, Short}
use Rattle.language.specs.Basics.{first_where, earliest}
use Rattle.language.specs.Causes.{lines, large, lacking, past_limit, first_unfit, first_past_limit}
use Rattle.language.specs.Named.{Line as TextLine}
use Rattle.language.specs.OnSheet.{lines_at}
use Rattle.language.specs.Program.{bound, size_of_all}
use Rattle.language.specs.Resolve.{program}
use Rattle.language.specs.Translation.{Answer, translation, judged, causes, name_causes, told_at, first_cause, unless_caused, fitted, answer_for}
use Rattle.language.specs.Words.{words}
use Rattle.translator.proofs.Limited.{small_program}
use Rattle.checks.specs.Refusals.{refusal_number, refusal_line, refusal_of}
use Rattle.translator.specs.Outcome.{Outcome, outcome, refused}

-- A refused outcome.
abbrev pub turned_away : ℕ → ℕ → List ℤ → Outcome
turned_away n l code = record { told = refused n l; code = code }

-- The sheet is too short for forms, or holds them.
too_short : (f : Bool) (page : Page) (a : Answer) (code : List ℤ) (e : ReadRefusal) → Err e ≡ cond f (Ok page) (Err Short)
    → turned_away (refusal_number (refusal_of e)) (refusal_line (refusal_of e)) code ≡ outcome (cond f a (Answer.refused 8 0)) code
too_short true page a code e h = let z : ◌≡◌ {A = ℕ} 0 1 = cc in absurd (omega arith)
too_short false page a code e h = let s : e ≡ Short = cc in rw s

long_enough : (f : Bool) (page p : Page) (a : Answer) → ◌≡◌ {A = Result Page ReadRefusal} (Ok p) (cond f (Ok page) (Err Short)) → cond f a (Answer.refused 8 0) ≡ a
long_enough true page p a h = refl
long_enough false page p a h = let z : ◌≡◌ {A = ℕ} 0 1 = cc in absurd (omega arith)

-- The text could not be read onto the sheet.
not_laid : (b : Bool) (x : Read) (len room : ℕ) (code : List ℤ) (e : ReadRefusal) → Err e ≡ cond b (Err Size) (laid_out x len)
    → turned_away (refusal_number (refusal_of e)) (refusal_line (refusal_of e)) code ≡ outcome (cond b (Answer.refused 1 0) (judged len room x)) code
not_laid true x len room code e h = let s : e ≡ Size = cc in rw s
not_laid false (wrong n) len room code e h = let s : e ≡ Line n = cc in rw s
not_laid false (forms fs) len room code e h = too_short (leb (rows_in fs) len) _ (answer_for room fs (lines fs)) code e h

pub unread_outcome : (text : List ℕ) (len room : ℕ) (code : List ℤ) (e : ReadRefusal) → Err e ≡ page_of text len
    → turned_away (refusal_number (refusal_of e)) (refusal_line (refusal_of e)) code ≡ outcome (translation text len room) code
unread_outcome text len room code e h = not_laid (eqb (length text) 0 || ltb 32768 (length text)) (read_text text) len room code e h

-- The text was read as forms, and the sheet holds them.
laid : (b : Bool) (x : Read) (len room : ℕ) (p : Page) (fs : List Form) → Ok p ≡ cond b (Err Size) (laid_out x len) → x ≡ forms fs
    → cond b (Answer.refused 1 0) (judged len room x) ≡ answer_for room fs (lines fs)
laid true x len room p fs h e = let z : ◌≡◌ {A = ℕ} 0 1 = cc in absurd (omega arith)
laid false (wrong n) len room p fs h e = let z : ◌≡◌ {A = ℕ} 0 1 = cc in absurd (omega arith)
laid false (forms gs) len room p fs h e =
    let s : gs ≡ fs = cc in
    long_enough (leb (rows_in gs) len) _ p (answer_for room gs (lines gs)) h ∙ ap (λ l. answer_for room l (lines l)) s

-- The same lines, whether taken from the forms or from the sheet, for every cause.
module _ (rows : List Row) (m : ℕ) (reads : (ls : List TextLine) → first_unfit (forms_at rows 0 m) ls ≡ None → lines (forms_at rows 0 m) ≡ lines_at rows 0 m) where
  unfit_answer : (n : ℕ) → first_unfit (forms_at rows 0 m) [] ≡ Some n → (room : ℕ) (ls : List TextLine) → answer_for room (forms_at rows 0 m) ls ≡ Answer.refused 3 n
  unfit_answer n e room ls =
      ap (λ o. unless_caused (told_at 3 o (first_cause ((4, first_past_limit) ∷ name_causes) (forms_at rows 0 m) ls)) (fitted room (bound (program ls)) (words ls))) e

  same_causes : (o : Option ℕ) → first_unfit (forms_at rows 0 m) [] ≡ o → (room : ℕ) → answer_for room (forms_at rows 0 m) (lines (forms_at rows 0 m)) ≡ answer_for room (forms_at rows 0 m) (lines_at rows 0 m)
  same_causes None e room = ap (λ ls. answer_for room (forms_at rows 0 m) ls) (reads [] e)
  same_causes (Some n) e room = unfit_answer n e room (lines (forms_at rows 0 m)) ∙ sym (unfit_answer n e room (lines_at rows 0 m))

  pub read_answer : (text : List ℕ) (len room : ℕ) (p : Page) → Ok p ≡ page_of text len → m ≡ p.lines → read_text text ≡ forms (forms_at rows 0 p.lines)
      → translation text len room ≡ answer_for room (forms_at rows 0 m) (lines_at rows 0 m)
  read_answer text len room p h e f =
      laid (eqb (length text) 0 || ltb 32768 (length text)) (read_text text) len room p (forms_at rows 0 m) h (f ∙ ap (λ n. forms (forms_at rows 0 n)) (sym e))
      ∙ same_causes (first_unfit (forms_at rows 0 m) []) refl room

-- No cause holds: no line passes a limit.
none_first : (n : ℕ) (o : Option ℕ) (others : Option (ℕ × ℕ)) → None ≡ told_at n o others → (o ≡ None) × (None ≡ others)
none_first n None others h = (refl, h)
none_first n (Some l) others h = let z : ◌≡◌ {A = ℕ} 0 1 = cc in absurd (omega arith)

none_earliest : (a b : Option ℕ) → earliest a b ≡ None → b ≡ None
none_earliest None b h = h
none_earliest (Some m) None h = refl
none_earliest (Some m) (Some n) h = let z : ◌≡◌ {A = ℕ} 0 1 = cc in absurd (omega arith)

none_lacking : (b : Bool) (o : Option ℕ) → cond b (Some 0) o ≡ None → o ≡ None
none_lacking true o h = let z : ◌≡◌ {A = ℕ} 0 1 = cc in absurd (omega arith)
none_lacking false o h = h

pub no_cause_small : (fs : List Form) (ls : List TextLine) → None ≡ first_cause causes fs ls → size_of_all (program ls) ≤ 4096
no_cause_small fs ls h =
    let fit = none_first 3 (first_unfit fs ls) (first_cause ((4, first_past_limit) ∷ name_causes) fs ls) h in
    let limit = none_first 4 (first_past_limit fs ls) (first_cause name_causes fs ls) fit.1 in
    small_program ls (none_earliest (first_where (λ before f behind. large f) 1 [] fs) (first_where past_limit 1 [] ls) (none_lacking (lacking ls) (earliest (first_where (λ before f behind. large f) 1 [] fs) (first_where past_limit 1 [] ls)) limit.0))

-- What is answered where a cause holds, where the code is short, and where it is written.
pub caused_answer : (room : ℕ) (fs : List Form) (ls : List TextLine) (n l : ℕ) → Some (n, l) ≡ first_cause causes fs ls → answer_for room fs ls ≡ Answer.refused n l
caused_answer room fs ls n l h = ap (λ c. unless_caused c (fitted room (bound (program ls)) (words ls))) (sym h)

pub short_answer : (room : ℕ) (fs : List Form) (ls : List TextLine) → None ≡ first_cause causes fs ls → room < length (words ls) → answer_for room fs ls ≡ Answer.refused 8 0
short_answer room fs ls h lt =
    ap (λ c. unless_caused c (fitted room (bound (program ls)) (words ls))) (sym h) ∙ ap (λ b. cond b (Answer.refused 8 0) (Answer.translated (words ls) (bound (program ls)))) (lt-ltb room (length (words ls)) lt)

pub fitting_answer : (room : ℕ) (fs : List Form) (ls : List TextLine) → None ≡ first_cause causes fs ls → length (words ls) ≤ room → answer_for room fs ls ≡ Answer.translated (words ls) (bound (program ls))
fitting_answer room fs ls h le =
    ap (λ c. unless_caused c (fitted room (bound (program ls)) (words ls))) (sym h) ∙ ap (λ b. cond b (Answer.refused 8 0) (Answer.translated (words ls) (bound (program ls)))) (le-ltb room (length (words ls)) le)

-- A measured number of words fits, or does not.
pub fits_measured : {measured words room : ℕ} → measured ≡ words → measured ≤ room → words ≤ room
fits_measured e h = omega arith

pub exceeds_measured : {measured words room : ℕ} → measured ≡ words → room < measured → room < words
exceeds_measured e h = omega arith
