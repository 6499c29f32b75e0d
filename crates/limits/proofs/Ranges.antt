-- The statements of a body, one by one: whether each is timely.
use Rattle.std.proofs.Common.{◌≡◌, ℕ, true, ◌&&◌, List, [], ◌∷◌, Some, None, Option, map, refl, ap}
use Rattle.std.specs.List.{list_all}
use Rattle.text.specs.Sheet.{starts}
use Rattle.text.specs.declared.row.Row.{Row}
use Rattle.language.specs.Named.{Term, Act}
use Rattle.language.specs.Causes.{timely, all_timely}
use Rattle.language.specs.OnSheet.{act_of, act_seen, change_of, sequence}
use Rattle.language.specs.declared.view.ActView.{ActView}
use Rattle.language.specs.declared.view.ActView.TheVariants.{Put, When, Choose, Do, After, Set}
use Rattle.language.specs.declared.view.Change.{Change}
use Rattle.language.specs.declared.view.Change.TheVariants.{Go, Next, Start, Restart, Stop, Halt, Fail, Reset}

-- A statement that is no timeout is timely.
timely_acts : (A : ℕ → Act) (ats : List ℕ) → true ≡ timely (sequence (map A ats))
timely_acts A [] = refl
timely_acts A (at ∷ ats) = refl

timely_change : (rows : List Row) (c : Change) → true ≡ timely (change_of rows c)
timely_change rows (Go s) = refl
timely_change rows Next = refl
timely_change rows (Start p) = refl
timely_change rows Restart = refl
timely_change rows (Stop p) = refl
timely_change rows Halt = refl
timely_change rows Fail = refl
timely_change rows Reset = refl

pub timely_other : (rows : List Row) (T : ℕ → Term) (A : ℕ → Act) (v : Option ActView) → ((n s : ℕ) → v ≡ Some (After n s) → ⊥) → true ≡ timely (act_seen rows T A v)
timely_other rows T A None h = refl
timely_other rows T A (Some (Put n e)) h = refl
timely_other rows T A (Some (When e s)) h = refl
timely_other rows T A (Some (Choose e s t)) h = refl
timely_other rows T A (Some (Do p k)) h = timely_acts A (starts rows p k)
timely_other rows T A (Some (After n s)) h = absurd (h n s refl)
timely_other rows T A (Some (Set c)) h = timely_change rows c

-- Statements one behind another are all timely exactly if each is.
pub all_timely_read : (A : ℕ → Act) (ats : List ℕ) → list_all (λ at. timely (A at)) ats ≡ all_timely (sequence (map A ats))
all_timely_read A [] = refl
all_timely_read A (at ∷ ats) = ap (λ b. timely (A at) && b) (all_timely_read A ats)

-- One view.
pub same_some : {v w : ActView} → Some v ≡ Some w → v ≡ w
same_some e = cc
