-- One level of what is read at most so deep, and one item of so many.
use Rattle.std.proofs.Common.{◌≡◌, ℕ, suc, ◌+◌, ◌-◌, ◌<◌, ◌≤◌, ◌≢◌, List, ap, arith}
use Rattle.text.specs.Sheet.{next_row}
use Rattle.text.specs.declared.row.Row.{Row}
use Rattle.language.specs.Named.{Act}
use Rattle.language.specs.OnSheet.{term_at, term_seen, term_view, act_at, act_seen, act_view, acts_of}

-- A depth that is not 0 is one more than another: one level is read, and its parts one less deep.
abbrev less_one : {d : ℕ} → d ≢ 0 → d ≡ suc (d - 1)
less_one h = omega arith

pub term_at_more : (d : ℕ) (rows : List Row) (at : ℕ) → d ≢ 0 → term_at d rows at ≡ term_seen rows at (term_at (d - 1) rows) (term_view rows at)
term_at_more d rows at h = ap (λ n. term_at n rows at) (less_one h)

pub act_at_more : (d : ℕ) (rows : List Row) (at : ℕ) → d ≢ 0 → act_at d rows at ≡ act_seen rows (term_at (d - 1) rows) (act_at (d - 1) rows) (act_view rows at)
act_at_more d rows at h = ap (λ n. act_at n rows at) (less_one h)
