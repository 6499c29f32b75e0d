-- A program's flat code: its instructions, where each body begins, and the bound of a scan's steps.
use Rattle.std.specs.Prelude.{ℕ, ◌+◌, max, List, [], ◌∷◌}
use Rattle.language.specs.Tree.{Stmt}
use Rattle.flat.specs.declared.instr.Instr.{Instr}
use Rattle.flat.specs.declared.instr.Instr.TheVariants.{End}
use Rattle.language.specs.Compile.{size_of, code_of, longest_of}

-- How many instructions bodies take: each its statements, and an end.
abbrev pub size_of_bodies : List Stmt → ℕ
size_of_bodies [] = 0
size_of_bodies (b ∷ bs) = size_of b + 1 + size_of_bodies bs

abbrev pub size_of_all : List (List Stmt) → ℕ
size_of_all [] = 0
size_of_all (bs ∷ ps) = size_of_bodies bs + size_of_all ps

-- The code of bodies from the place p on, and then the code `rest`.
abbrev pub code_of_bodies : ℕ → List Stmt → List Instr → List Instr
code_of_bodies p [] rest = rest
code_of_bodies p (b ∷ bs) rest = code_of p b (End ∷ code_of_bodies (p + (size_of b + 1)) bs rest)

-- Where each of them begins.
abbrev pub entries_of : ℕ → List Stmt → List ℕ
entries_of p [] = []
entries_of p (b ∷ bs) = p ∷ entries_of (p + (size_of b + 1)) bs

-- The same for all processes: bodies stand in text order.
abbrev pub instructions_from : ℕ → List (List Stmt) → List Instr
instructions_from p [] = []
instructions_from p (bs ∷ ps) = code_of_bodies p bs (instructions_from (p + size_of_bodies bs) ps)

abbrev pub entries_from : ℕ → List (List Stmt) → List (List ℕ)
entries_from p [] = []
entries_from p (bs ∷ ps) = entries_of p bs ∷ entries_from (p + size_of_bodies bs) ps

-- A process's longest body, its end counted.
abbrev pub longest_body : List Stmt → ℕ
longest_body [] = 0
longest_body (b ∷ bs) = max (longest_of b + 1) (longest_body bs)

-- The bound of a scan's steps: each process's longest body, summed.
abbrev pub bound : List (List Stmt) → ℕ
bound [] = 0
bound (bs ∷ ps) = longest_body bs + bound ps
