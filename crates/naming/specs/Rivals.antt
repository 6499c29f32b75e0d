-- Names that were met before.
use Rattle.std.specs.Prelude.{Bool, false, not, ◌&&◌, ◌||◌, Some, None, Option}
use Rattle.language.specs.Basics.{Word, same}
use Rattle.language.specs.Named.{Line}
use Rattle.language.specs.Lines.{is, name}
use Rattle.language.specs.declared.house.Opener.TheVariants.{State}

-- A name is the word.
abbrev pub bears : Word → Option Word → Bool
bears w None = false
bears w (Some v) = same v w

-- A line declares the word, one that is no state unless states count too.
abbrev pub takes_up : Bool → Word → Line → Bool
takes_up states w l = (states || not (is State l)) && bears w (name l)
