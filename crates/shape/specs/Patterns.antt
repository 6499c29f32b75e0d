-- Which items each form takes, as a machine that takes one item after another.
use Rattle.std.specs.Prelude.{Bool, cond, List, [], ◌∷◌, Some, None, Option}
use Rattle.language.specs.Basics.{and_then}
use Rattle.language.specs.declared.house.House.TheVariants as house_word
use Rattle.language.specs.declared.house.Opener.{Opener}
use Rattle.language.specs.declared.house.Opener.TheVariants as opener
use Rattle.language.specs.declared.house.TermHead.{TermHead}
use Rattle.language.specs.declared.house.TermHead.TheVariants as term_head
use Rattle.language.specs.declared.house.ActHead.{ActHead}
use Rattle.language.specs.declared.house.ActHead.TheVariants as act_head
use Rattle.shape.specs.declared.sort.Sort.{Sort}
use Rattle.shape.specs.declared.sort.Sort.TheVariants as sorts
use Rattle.shape.specs.declared.pattern.Pattern.{Pattern}
use Rattle.shape.specs.declared.pattern.Expect.{Expect}
use Rattle.shape.specs.declared.pattern.Expect.TheVariants.{FormWord, LineWord, Nothing, Word, KindName, Number, Term, Act, MaybeWord, MaybeAct, Acts, Body}
use Rattle.shape.specs.Sorts.{is_word, is_kind, is_number, is_term, is_act, is_timeout}

abbrev pub taking : Expect → Expect → Expect → Sort → Pattern
taking a b c s = record { first = a; second = b; third = c; whole = Some s }

-- Any expression or statement, and any line.
abbrev pub form_start : Pattern
form_start = record { first = FormWord; second = Nothing; third = Nothing; whole = None }

abbrev pub line_start : Pattern
line_start = record { first = LineWord; second = Nothing; third = Nothing; whole = None }

-- The items of each expression.
abbrev pub term_pattern : TermHead → Pattern
term_pattern (term_head.Operate o) = taking Term Term Nothing sorts.Term
term_pattern term_head.Not = taking Term Nothing Nothing sorts.Term
term_pattern term_head.And = taking Term Term Nothing sorts.Term
term_pattern term_head.Or = taking Term Term Nothing sorts.Term
term_pattern (term_head.Ask q) = taking Word Nothing Nothing sorts.Term

-- The items of each statement.
abbrev pub act_pattern : ActHead → Pattern
act_pattern act_head.Put = taking Word Term Nothing sorts.Act
act_pattern act_head.If = taking Term Act MaybeAct sorts.Act
act_pattern act_head.Do = taking Act Acts Nothing sorts.Act
act_pattern act_head.Go = taking Word Nothing Nothing sorts.Act
act_pattern act_head.Next = taking Nothing Nothing Nothing sorts.Act
act_pattern act_head.Start = taking Word Nothing Nothing sorts.Act
act_pattern act_head.Restart = taking Nothing Nothing Nothing sorts.Act
act_pattern act_head.Stop = taking MaybeWord Nothing Nothing sorts.Act
act_pattern act_head.Fail = taking Nothing Nothing Nothing sorts.Act
act_pattern act_head.Reset = taking Nothing Nothing Nothing sorts.Act
act_pattern act_head.After = taking Number Act Nothing sorts.Timeout

-- The items of each line.
abbrev pub line_pattern : Opener → Pattern
line_pattern opener.Kind = taking KindName Nothing Nothing (sorts.Line opener.Kind)
line_pattern opener.Tact = taking Number Nothing Nothing (sorts.Line opener.Tact)
line_pattern opener.Const = taking Word Number Nothing (sorts.Line opener.Const)
line_pattern opener.Cell = taking Word Nothing Nothing (sorts.Line opener.Cell)
line_pattern opener.In = taking Word Nothing Nothing (sorts.Line opener.In)
line_pattern opener.Out = taking Word Nothing Nothing (sorts.Line opener.Out)
line_pattern opener.Proc = taking Word Nothing Nothing (sorts.Line opener.Proc)
line_pattern opener.State = taking Word Body Nothing (sorts.Line opener.State)

-- The items that follow a first one.
abbrev pub head_pattern : Sort → Option Pattern
head_pattern (sorts.Word (Some (house_word.Expression h))) = Some (term_pattern h)
head_pattern (sorts.Word (Some (house_word.Statement h))) = Some (act_pattern h)
head_pattern _ = None

abbrev pub opener_pattern : Sort → Option Pattern
opener_pattern (sorts.Word (Some (house_word.Opens o))) = Some (line_pattern o)
opener_pattern _ = None

-- What is left behind one item, if it was the one to come.
abbrev pub moved : Bool → Pattern → Option Pattern
moved fits p = cond fits (Some (record { first = p.second; second = p.third; third = Nothing; whole = p.whole })) None

-- The same again, if the item was one of those to come.
abbrev pub kept : Bool → Pattern → Option Pattern
kept fits p = cond fits (Some p) None

-- What may still come behind an item, by what was to come.
abbrev pub step : Expect → Pattern → Sort → Option Pattern
step FormWord p s = head_pattern s
step LineWord p s = opener_pattern s
step Nothing p s = None
step Word p s = moved (is_word s) p
step KindName p s = moved (is_kind s) p
step Number p s = moved (is_number s) p
step Term p s = moved (is_term s) p
step Act p s = moved (is_act s) p
step MaybeWord p s = moved (is_word s) p
step MaybeAct p s = moved (is_act s) p
step Acts p s = kept (is_act s) p
step Body p s = cond (is_act s) (Some p) (moved (is_timeout s) p)

abbrev pub after : Pattern → Sort → Option Pattern
after p s = step p.first p s

-- What a form is that has no item more, by what was to come.
abbrev pub closed : Expect → Option Sort → Option Sort
closed Nothing s = s
closed MaybeWord s = s
closed MaybeAct s = s
closed Acts s = s
closed Body s = s
closed _ s = None

abbrev pub ended : Pattern → Option Sort
ended p = closed p.first p.whole

-- What a form with these items is, each of a sort or nothing, by its pattern.
abbrev pub whole_of : List (Option Sort) → Pattern → Option Sort
whole_of [] p = ended p
whole_of (o ∷ os) p = and_then o (λ s. and_then (after p s) (whole_of os))
