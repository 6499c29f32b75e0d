-- Names looked up in the lines of a sheet.
use Rattle.std.specs.Prelude.{Bool}
use Rattle.text.specs.declared.items.Items.{Items}
use Rattle.language.specs.Lines.{declared}
use Rattle.language.specs.Named.{Term, Act}
use Rattle.language.specs.OnSheet.{lines_of}
use Rattle.language.specs.Resolve.{all_names, known, known_term}
use Rattle.language.specs.declared.house.Opener.TheVariants.{State}
use Rattle.naming.specs.declared.known.Scope.{Scope}

-- Every name in an expression is declared by these lines.
abbrev pub term_known_in : Items → Term → Bool
term_known_in lines e = known_term (all_names (lines_of lines)) e

-- Every name in a statement is declared by a scope's lines.
abbrev pub known_in : Scope → Act → Bool
known_in s a = known (all_names (lines_of s.lines)) (declared State (lines_of s.states)) a
