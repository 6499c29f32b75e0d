-- A walk over the rows at which items begin.
use Rattle.std.proofs.Common.{◌≡◌, ℕ, zero, suc, length, refl, ap, List}
use Rattle.std.proofs.lemmas.Iterator.{YieldsList}
use Rattle.std.proofs.lemmas.Iterator.Consumers.{YieldsList-from_first}
use Rattle.std.specs.Iterator.{YieldsFirst}
use Rattle.text.specs.Items.{starts_of, starts_left}
use Rattle.text.specs.Sheet.{next_row, starts}
use Rattle.text.specs.declared.row.Row.{Row}
use Rattle.text.specs.declared.items.Items.{Items}
use Rattle.text.specs.declared.items.Starts.{Starts}

-- As many rows as items.
pub length-starts : (rows : List Row) (p k : ℕ) → length (starts rows p k) ≡ k
length-starts rows p zero = refl
length-starts rows p (suc k) = ap suc (length-starts rows (next_row rows p) k)

-- A walk yields the rows that it has not passed.
pub walked : {s : Starts} (items : Items) → starts_left s ≡ starts_of items → YieldsList (YieldsFirst starts_left) (λ at. at) s (starts_of items)
walked items e = YieldsList-from_first (λ at. at) starts_left (starts_of items) e
