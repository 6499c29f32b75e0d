-- What the words of a code are after instructions were put into it: place p has the words 2 p and 2 p + 1.
use Rattle.std.specs.Prelude.{◌≡◌, ℕ, suc, ◌+◌, ◌*◌, ◌≤◌, List, [], ◌∷◌, ℤ, pos, slice_set}
use Rattle.flat.specs.declared.instr.Source.{Source}
use Rattle.flat.specs.declared.instr.Source.TheVariants.{Lit, Cell, In, Out, Yes, No, Late, Active, Stopped, Failed}
use Rattle.flat.specs.declared.instr.Unary.TheVariants.{Not, Test}
use Rattle.flat.specs.declared.instr.Control.{Control}
use Rattle.flat.specs.declared.instr.Control.TheVariants.{State, Start, Stop, Fail, Reset}
use Rattle.flat.specs.declared.instr.Instr.{Instr}
use Rattle.flat.specs.declared.instr.Instr.TheVariants.{End, Push, Convert, Combine, Jump, Unless, Keep, Drive, Set}
use Rattle.language.specs.Basics.{Word, found, otherwise}
use Rattle.language.specs.Numbers.{word_value, natural}
use Rattle.language.specs.Named.{Line}
use Rattle.language.specs.Named.{Term, number, named, two, isnt, both, either, ask}
use Rattle.language.specs.Named.{Act, put, choose, when, pass, then, go, start, stop, next, restart, halt, fail, reset, after}
use Rattle.language.specs.Lines.{declared, body}
use Rattle.language.specs.OnSheet.{lines_at, lines_of}
use Rattle.language.specs.Resolve.{Names, Spot, thing, target, process, expr, stmt, bodies, all_names}
use Rattle.language.specs.Pushes.{thing_source, target_instr}
use Rattle.language.specs.Compile.{longest, longest_of}
use Rattle.language.specs.Program.{longest_body}
use Rattle.language.specs.Sizes.{term_size, act_size}
use Rattle.language.specs.Words.{encoded}
use Rattle.language.specs.declared.names.Thing.TheVariants.{Constant}
use Rattle.language.specs.declared.names.Target.TheVariants.{Cell as CellTarget}
use Rattle.language.specs.declared.house.Enquiry.{Enquiry}
use Rattle.language.specs.declared.house.Enquiry.TheVariants as enquiry
use Rattle.language.specs.declared.house.Opener.TheVariants.{State as StateLine}
use Rattle.translator.specs.declared.sheet.Sheet.{Sheet}
use Rattle.translator.specs.declared.site.Site.{Site}
use Rattle.translator.specs.declared.group.StateLines.{StateLines}

-- The number that an instruction's operand is, 0 where it has none or a signed one.
abbrev pub source_operand : Source → ℕ
source_operand (Lit v) = 0
source_operand (Cell n) = n
source_operand (In n) = n
source_operand (Out n) = n
source_operand Yes = 0
source_operand No = 0
source_operand (Late n) = n
source_operand (Active p) = p
source_operand (Stopped p) = p
source_operand (Failed p) = p

abbrev pub control_operand : Control → ℕ
control_operand (State s) = s
control_operand (Start p) = p
control_operand (Stop p) = p
control_operand Fail = 0
control_operand Reset = 0

abbrev pub operand : Instr → ℕ
operand End = 0
operand (Push s) = source_operand s
operand (Convert o) = 0
operand (Combine o) = 0
operand (Jump t) = t
operand (Unless t) = t
operand (Keep n) = n
operand (Drive n) = n
operand (Set c) = control_operand c

-- An instruction put at a place.
unfoldable pub put_at : ℕ → Instr → List ℤ → List ℤ
put_at p i ws = slice_set (slice_set ws (2 * p) (encoded i).0) (2 * p + 1) (encoded i).1

-- A question about process q put from place p on.
abbrev pub enquiry_put : ℕ → Enquiry → ℕ → List ℤ → List ℤ
enquiry_put p enquiry.Active q ws = put_at p (Push (Active q)) ws
enquiry_put p enquiry.Stopped q ws = put_at p (Push (Stopped q)) ws
enquiry_put p enquiry.Failed q ws = put_at p (Push (Failed q)) ws
enquiry_put p enquiry.Passive q ws = put_at (p + 1) (Convert Not) (put_at p (Push (Active q)) ws)

-- The instructions of an expression put from place p on.
abbrev pub term_put : Names → ℕ → Term → List ℤ → List ℤ
term_put n p (number ds) ws = put_at p (Push (Lit (word_value ds))) ws
term_put n p (named w) ws = put_at p (Push (thing_source (otherwise (Constant (pos 0)) (thing n w)))) ws
term_put n p (two o a b) ws = put_at (p + term_size a + term_size b) (Combine o) (term_put n (p + term_size a) b (term_put n p a ws))
term_put n p (isnt a) ws = put_at (p + term_size a) (Convert Not) (term_put n p a ws)
term_put n p (both a b) ws =
    let T = p + term_size a + 1 + term_size b in
    let F = T + 2 in
    put_at (T + 1 + 1) (Push No) (put_at (T + 1) (Jump (F + 1)) (put_at T (Convert Test) (term_put n (p + term_size a + 1) b (put_at (p + term_size a) (Unless F) (term_put n p a ws)))))
term_put n p (either a b) ws =
    let U = p + term_size a in
    let F = U + 3 in
    put_at (U + 1 + 1 + 1 + term_size b) (Convert Test) (term_put n (U + 1 + 1 + 1) b (put_at (U + 1 + 1) (Jump (F + term_size b + 1)) (put_at (U + 1) (Push Yes) (put_at U (Unless F) (term_put n p a ws)))))
term_put n p (ask q w) ws = enquiry_put p q (process n w) ws

-- The instructions of a statement put from place p on.
abbrev pub act_put : Names → Spot → ℕ → Act → List ℤ → List ℤ
act_put n at p (put w e) ws = put_at (p + term_size e) (target_instr (otherwise (CellTarget 0) (target n w))) (term_put n p e ws)
act_put n at p (choose e s t) ws =
    let U = p + term_size e in
    let J = U + 1 + act_size s in
    let L = J + 1 in
    act_put n at L t (put_at J (Jump (L + act_size t)) (act_put n at (U + 1) s (put_at U (Unless L) (term_put n p e ws))))
act_put n at p (when e s) ws =
    let U = p + term_size e in
    act_put n at (U + 1) s (put_at U (Unless (U + 1 + act_size s)) (term_put n p e ws))
act_put n at p pass ws = ws
act_put n at p (then s t) ws = act_put n at (p + act_size s) t (act_put n at p s ws)
act_put n at p (go s) ws = put_at p (Set (State (otherwise 0 (found s at.states)))) ws
act_put n at p (start q) ws = put_at p (Set (Start (process n q))) ws
act_put n at p (stop q) ws = put_at p (Set (Stop (process n q))) ws
act_put n at p next ws = put_at p (Set (State (suc at.here))) ws
act_put n at p restart ws = put_at p (Set (Start at.own)) ws
act_put n at p halt ws = put_at p (Set (Stop at.own)) ws
act_put n at p fail ws = put_at p (Set Fail) ws
act_put n at p reset ws = put_at p (Set Reset) ws
act_put n at p (after ds s) ws =
    act_put n at (p + 1 + 1) s (put_at (p + 1) (Unless (p + 2 + act_size s)) (put_at p (Push (Late (natural (word_value ds)))) ws))

-- How many instructions the bodies of state lines take, an end behind each, and those of all processes.
abbrev pub states_size : List Line → ℕ
states_size [] = 0
states_size (l ∷ ls) = act_size (body l) + 1 + states_size ls

abbrev pub processes_size : List (List Line) → ℕ
processes_size [] = 0
processes_size (g ∷ gs) = states_size g + processes_size gs

-- The bodies of the state lines of process q put from place p on, the states having these names, from state s on.
abbrev pub states_put : Names → ℕ → List Word → ℕ → ℕ → List Line → List ℤ → List ℤ
states_put n q states s p [] ws = ws
states_put n q states s p (l ∷ ls) ws =
    let e = p + act_size (body l) in
    states_put n q states (suc s) (e + 1) ls (put_at e End (act_put n (record { own = q; states = states; here = s }) p (body l) ws))

-- The bodies of all processes from process q on put from place p on.
abbrev pub processes_put : Names → ℕ → ℕ → List (List Line) → List ℤ → List ℤ
processes_put n q p [] ws = ws
processes_put n q p (g ∷ gs) ws = processes_put n (suc q) (p + states_size g) gs (states_put n q (declared StateLine g) 0 p g ws)

-- What the lines of a text declare.
abbrev pub names_at : Sheet → Names
names_at sheet = all_names (lines_of sheet.lines)

-- The state lines of a process on a sheet.
abbrev pub states_on : Sheet → StateLines → List Line
states_on sheet states = lines_at sheet.lines.rows.now states.first states.count

-- Where a statement on a sheet stands.
abbrev pub spot_at : Site → Spot
spot_at site = record { own = site.own; states = declared StateLine (states_on site.sheet site.states); here = site.here }

-- An expression was put from place p on; r has the place behind it and the longest way through it.
pub record TermEmitted (n : Names) (t : Term) (p : ℕ) (old new : List ℤ) (r : ℕ × ℕ) : Type 0 where
  pub next : r.0 ≡ p + term_size t
  pub most : r.1 ≡ longest (expr n t)
  pub within : r.1 ≤ term_size t
  pub wrote : new ≡ term_put n p t old

-- The same of a statement.
pub record ActEmitted (n : Names) (at : Spot) (a : Act) (p : ℕ) (old new : List ℤ) (r : ℕ × ℕ) : Type 0 where
  pub next : r.0 ≡ p + act_size a
  pub most : r.1 ≡ longest_of (stmt n at a)
  pub within : r.1 ≤ act_size a
  pub wrote : new ≡ act_put n at p a old

-- The same of the bodies of a process's state lines.
pub record StatesEmitted (n : Names) (q : ℕ) (g : List Line) (p : ℕ) (old new : List ℤ) (r : ℕ × ℕ) : Type 0 where
  pub next : r.0 ≡ p + states_size g
  pub most : r.1 ≡ longest_body (bodies n q (declared StateLine g) 0 g)
  pub within : r.1 ≤ states_size g
  pub wrote : new ≡ states_put n q (declared StateLine g) 0 p g old
