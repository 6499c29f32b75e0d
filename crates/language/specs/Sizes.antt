-- How many instructions expressions and statements take, before their names are looked up: whatever a name stands for takes one (Sizes in proofs/ ties them to the compiler's sizes).
use Rattle.std.specs.Prelude.{ℕ, ◌+◌, min}
use Rattle.language.specs.Named.{Term, number, named, two, isnt, both, either, ask}
use Rattle.language.specs.Named.{Act, put, choose, when, pass, then, after}
use Rattle.language.specs.declared.house.Enquiry.{Enquiry}
use Rattle.language.specs.declared.house.Enquiry.TheVariants.{Passive}

abbrev pub enquiry_size : Enquiry → ℕ
enquiry_size Passive = 2
enquiry_size _ = 1

abbrev pub term_size : Term → ℕ
term_size (number ds) = 1
term_size (named w) = 1
term_size (two o a b) = term_size a + term_size b + 1
term_size (isnt a) = term_size a + 1
term_size (both a b) = term_size a + term_size b + 4
term_size (either a b) = term_size a + term_size b + 4
term_size (ask q p) = enquiry_size q

abbrev pub act_size : Act → ℕ
act_size (put w e) = term_size e + 1
act_size (choose e s t) = term_size e + act_size s + act_size t + 2
act_size (when e s) = term_size e + act_size s + 1
act_size pass = 0
act_size (then s t) = act_size s + act_size t
act_size (after ds s) = act_size s + 2
act_size _ = 1

-- A size, counted up to one more than a code can have.
abbrev pub capped : ℕ → ℕ
capped n = min n 4097
