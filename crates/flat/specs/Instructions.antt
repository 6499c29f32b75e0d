-- The instructions by their numbers.
use Rattle.std.specs.Prelude.{ℕ, List, [], ◌∷◌, ℤ, slice_index_or}
use Rattle.flat.specs.declared.instr.Source.TheVariants.{Lit, Cell, In, Out, Yes, No, Late, Active, Stopped, Failed}
use Rattle.flat.specs.declared.instr.Unary.TheVariants.{Not, Test}
use Rattle.flat.specs.declared.instr.Binary.TheVariants.{Add, Sub, Mul, Div, Less, Same}
use Rattle.flat.specs.declared.instr.Control.TheVariants.{State, Start, Stop, Fail, Reset}
use Rattle.flat.specs.declared.instr.Instr.{Instr}
use Rattle.flat.specs.declared.instr.Instr.TheVariants.{End, Push, Convert, Combine, Jump, Unless, Keep, Drive, Set}
use Rattle.flat.specs.Words.{natural}

-- The 28 instructions in the order of their numbers, with the operand as it stands, x, and as a count or a place, n.
abbrev pub table : ℤ → ℕ → List Instr
table x n =
    End ∷ (Push (Lit x) ∷ (Push (Cell n) ∷ (Push (In n) ∷ (Push (Out n) ∷ (Push Yes ∷ (Push No
    ∷ (Combine Add ∷ (Combine Sub ∷ (Combine Mul ∷ (Combine Div ∷ (Combine Less ∷ (Combine Same
    ∷ (Convert Not ∷ (Convert Test
    ∷ (Jump n ∷ (Unless n ∷ (Keep n ∷ (Drive n
    ∷ (Set (State n) ∷ (Set (Start n) ∷ (Set (Stop n) ∷ (Set Fail ∷ (Set Reset
    ∷ (Push (Late n) ∷ (Push (Active n) ∷ (Push (Stopped n) ∷ (Push (Failed n) ∷ [])))))))))))))))))))))))))))

-- The instruction that a number and an operand stand for; a number that is none stands for end.
unfoldable pub decoded : ℤ → ℤ → Instr
decoded op x = slice_index_or (table x (natural x)) (natural op) End
