-- Values written one after another.
use Rattle.std.proofs.Common.{ℕ, ◌+◌, ◌<◌, List, [], ◌∷◌, length, get_or, take, ℤ, pos}
use Rattle.std.proofs.Output.{has_written_append}
use Rattle.std.specs.Fmt.{HasWritten, signed_decimal}
use Rattle.std.specs.declared.fmt.Formatter.{Formatter}
use Rattle.numerals.specs.Print.{items}
use Rattle.std.proofs.lemmas.List.{flat_map_more, take_more}

-- A value more, behind a space.
pub item_more : {W : Type 0} (took : W → List ℕ → W → Type 0) (f g h : Formatter W) (vs : List ℤ) (i : ℕ) → i < length vs → HasWritten took f (items (take i vs)) g → HasWritten took g (32 ∷ signed_decimal (get_or vs i (pos 0))) h → HasWritten took f (items (take (i + 1) vs)) h
item_more took f g h vs i small before more = rw (take_more vs i (pos 0) small, ← flat_map_more (λ v. 32 ∷ signed_decimal v) []) (has_written_append _ _ _ _ _ _ before more)
