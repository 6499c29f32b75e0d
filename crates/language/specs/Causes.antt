-- What is wrong with a text: each cause, with the first line where it holds.
-- In each, `before` has the lines before a line, the nearest first, and `behind` those that follow it.
use Rattle.std.specs.Prelude.{ℕ, Bool, true, false, cond, not, ◌&&◌, ◌||◌, ltb, List, [], ◌∷◌, map, length, pos, is_some, Some, None, Option, ◌==◌, nat_le, nat_lt}
use Rattle.text.specs.Form.{Form, Forms, none, more}
use Rattle.language.specs.Basics.{Word, any, count, collect, among, those, leading, total, first_where, earliest}
use Rattle.language.specs.Numbers.{value_of, within, short}
use Rattle.language.specs.Named.{Act, Line}
use Rattle.language.specs.House.{house}
use Rattle.language.specs.Grammar.{line}
use Rattle.language.specs.Lines.{sort, rank, is, name, names, declared, body, states_behind, own_states}
use Rattle.language.specs.Resolve.{known, has_next, all_names, stmt}
use Rattle.language.specs.Compile.{size_of}
use Rattle.language.specs.declared.house.Opener.{Opener}
use Rattle.language.specs.declared.house.Opener.TheVariants.{Kind, Tact, Const, Cell, In, Out, Proc, State}

-- The lines that a text's forms are.
abbrev pub lines : List Form → List Line
lines fs = collect line fs

-- A line stands after one of a later sort, is a second kind or tact, or is a state before any process.
-- (A process may stand behind states: those of the processes before it.)
abbrev pub out_of_place : List Line → Line → Bool
out_of_place before l =
    (not (is Proc l) && any (λ b. ltb (rank (sort l)) (rank (sort b))) before)
    || (((is Kind l || is Tact l) && any (is (sort l)) before)
    || (is State l && not (any (is Proc) before)))

-- The form is unknown, its items are not its row's, or it is out of place.
abbrev pub unfit : List (Option Line) → Option Line → List (Option Line) → Bool
unfit before None behind = true
unfit before (Some l) behind = out_of_place (collect (λ x. x) before) l

-- Cause 3: the first line that is unfit.
abbrev pub first_unfit : List Form → List Line → Option ℕ
first_unfit fs ls = first_where unfit 1 [] (map line fs)

abbrev mutual
  -- A number in a form is past 32 bits.
  pub large : Form → Bool
  large (Form.word w) = false
  large (Form.number ds) = not (short ds)
  large (Form.form fs) = any_large fs

  pub any_large : Forms → Bool
  any_large none = false
  any_large (more f fs) = large f || any_large fs

-- A statement is no timeout outside 0 to 65,535.
abbrev pub timely : Act → Bool
timely (Act.after n s) = within (pos 0) (pos 65535) (value_of n)
timely _ = true

-- None of a body's own statements is such a timeout.
abbrev pub all_timely : Act → Bool
all_timely (Act.then s t) = timely s && all_timely t
all_timely _ = true

-- A period outside 1 to 60,000, or a timeout outside 0 to 65,535.
abbrev pub past_range : Line → Bool
past_range (Line.tact n) = not (within (pos 1) (pos 60000) (value_of n))
past_range (Line.state w b) = not (all_timely b)
past_range _ = false

-- How many lines of a sort there may be, states in each process.
abbrev pub most : Opener → ℕ
most Kind = 1
most Tact = 1
most Const = 64
most Cell = 64
most In = 32
most Out = 32
most Proc = 32
most State = 16

-- The lines before it that count with it, or that its name must differ from: of a state those of its process, else all but states.
abbrev pub rivals : List Line → Line → List Line
rivals before l = cond (is State l) (leading (is State) before) (those (λ b. not (is State b)) before)

abbrev pub too_many : List Line → Line → Bool
too_many before l = nat_le (most (sort l)) (count (is (sort l)) (rivals before l))

-- How many instructions a line takes, whatever its names stand for: those of a state's body, and an end.
abbrev pub instructions : Line → ℕ
instructions l = cond (is State l) (Prim.Native.Nat.suc (size_of (stmt (all_names []) (record { own = 0; states = []; here = 0 }) (body l)))) 0

-- A process has no state.
abbrev pub stateless : Line → List Line → Bool
stateless l behind = is Proc l && length (states_behind behind) == 0

-- A line passes a limit: a range, the number of its sort, a state in each process, 4,096 instructions.
abbrev pub past_limit : List Line → Line → List Line → Bool
past_limit before l behind = past_range l || (too_many before l || (stateless l behind || nat_lt 4096 (total instructions (l ∷ before))))

-- Kind, tact or process is missing.
abbrev pub lacking : List Line → Bool
lacking ls = not (any (is Kind) ls && (any (is Tact) ls && any (is Proc) ls))

-- Cause 4: line 0 if something is missing, else the first line with a number past 32 bits or past a limit.
abbrev pub first_past_limit : List Form → List Line → Option ℕ
first_past_limit fs ls =
    cond (lacking ls) (Some 0) (earliest (first_where (λ before f behind. large f) 1 [] fs) (first_where past_limit 1 [] ls))

-- A name that was met before, or is a house word.
abbrev pub no_name : List Word → Option Word → Bool
no_name met None = false
no_name met (Some w) = is_some (house w) || among w met

-- Cause 5: the first line that declares no new name.
abbrev pub first_no_name : List Form → List Line → Option ℕ
first_no_name fs ls = first_where (λ before l behind. no_name (names (rivals before l)) (name l)) 1 [] ls

-- Cause 6: the first line with a word that is undeclared or of a sort not taken there.
abbrev pub first_unknown : List Form → List Line → Option ℕ
first_unknown fs ls = first_where (λ before l behind. not (known (all_names ls) (declared State (own_states before l behind)) (body l))) 1 [] ls

-- Cause 7: the first line with `next` in its process's last state.
abbrev pub first_next_in_last : List Form → List Line → Option ℕ
first_next_in_last fs ls = first_where (λ before l behind. has_next (body l) && length (states_behind behind) == 0) 1 [] ls
