-- One level of what stands at a row, by its view.
use Rattle.std.proofs.Common.{◌≡◌, ℕ, ◌-◌, ◌≢◌, List, Some}
use Rattle.text.specs.declared.row.Row.{Row}
use Rattle.language.specs.OnSheet.{term_at, term_of, term_view, act_at, act_of, act_view}
use Rattle.language.specs.declared.view.TermView.{TermView}
use Rattle.language.specs.declared.view.ActView.{ActView}
use Rattle.language.proofs.Depth.{term_at_more, act_at_more}

pub term_step : (left : ℕ) (rows : List Row) (at : ℕ) (v : TermView) → left ≢ 0 → Some v ≡ term_view rows at → term_at left rows at ≡ term_of rows at (term_at (left - 1) rows) v
term_step left rows at v h e = rw (← e) at (term_at_more left rows at h)

pub act_step : (left : ℕ) (rows : List Row) (at : ℕ) (v : ActView) → left ≢ 0 → Some v ≡ act_view rows at → act_at left rows at ≡ act_of rows (term_at (left - 1) rows) (act_at (left - 1) rows) v
act_step left rows at v h e = rw (← e) at (act_at_more left rows at h)
