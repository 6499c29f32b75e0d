-- Cells written one after another.
use Rattle.std.proofs.Common.{◌≡◌, ℕ, ◌+◌, ◌<◌, List, ◌∷◌, length, get_or, map, take, ℤ, pos, sym, ap, ◌∙◌, arith}
use Rattle.std.proofs.lemmas.List.{get_or-map, length-map}
use Rattle.std.specs.Fmt.{HasWritten, signed_decimal}
use Rattle.std.specs.declared.fmt.Formatter.{Formatter}
use Rattle.numerals.specs.Print.{items}
use Rattle.numerals.proofs.Written.{item_more}

-- A cell's raw number more, behind a space.
pub cell_more : {W X : Type 0} (took : W → List ℕ → W → Type 0) (raw : X → ℤ) (f g h : Formatter W) (xs : List X) (i : ℕ) (x : X) → i < length xs → x ≡ get_or xs i x → HasWritten took f (items (take i (map raw xs))) g → HasWritten took g (32 ∷ signed_decimal (raw x)) h → HasWritten took f (items (take (i + 1) (map raw xs))) h
cell_more took raw f g h xs i x small is before more =
    let same : get_or (map raw xs) i (pos 0) ≡ raw x = get_or-map raw xs i x (pos 0) small ∙ ap raw (sym is) in
    item_more took f g h (map raw xs) i (omega (arith, small, length-map xs raw)) before (rw same more)
