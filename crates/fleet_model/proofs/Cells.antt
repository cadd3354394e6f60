-- The cells that a row keeps have the values of those that came.
use Rattle.std.proofs.Common.{◌≡◌, ℕ, ◌+◌, ◌-◌, ◌*◌, ◌<◌, ◌≤◌, inl, inr, Bool, cond, List, [], ◌∷◌}
use Rattle.std.proofs.Common.{min, refl, sym, ap, ◌∙◌, arith}
use Rattle.std.proofs.lemmas.Bool.{cases_lt}
use Rattle.period_rate.proofs.Falling.{rate_ends}
use Rattle.period_rate.specs.Rate.{arrived, zero_moment}
use Rattle.period_rate.specs.Share.{rate}
use Rattle.agg_types.specs.Col.{same_col}
use Rattle.agg_types.specs.declared.column.Col.{Col}
use Rattle.agg_types.specs.declared.event.Cell.{Cell}
use Rattle.agg_types.specs.declared.event.Cell.TheVariants.{Count, Rate}
use Rattle.fleet_model.specs.Normalized.{normalized_cell, normalized_cells}
use Rattle.fleet_model.specs.Values.{cell_worth, column_worth}

rate_kept : (period cur prev elapsed since : ℕ)
    → rate period prev cur (min elapsed (2 * period + 1) + since) ≡ rate period prev cur
    (elapsed + since)
rate_kept period cur prev elapsed since = elim (cases_lt elapsed (2 * period + 1)) [
  | inl short ↦ ap (rate period prev cur) (omega arith)
  | inr long ↦ rate_ends period prev cur (min elapsed (2 * period + 1) + since) (omega arith)
      ∙ sym (rate_ends period prev cur (elapsed + since) (omega arith))
]

pub cell_normalized : (period since : ℕ) (cell : Cell) → cell_worth period since
    (normalized_cell period cell) ≡ cell_worth period since cell
unfolding cell_worth
cell_normalized period since (Count count) = refl
cell_normalized period since (Rate elapsed cur prev) = rate_kept period cur prev elapsed since

pub column_normalized : (cols : List (Col × ℕ)) (cells : List Cell) (col : Col) (since : ℕ)
    → column_worth col since cols (normalized_cells cols cells) ≡ column_worth col since cols cells
column_normalized [] cells col since = refl
column_normalized (stored ∷ cols) [] col since = refl
column_normalized (stored ∷ cols) (cell ∷ cells) col since =
    λ i. cond (same_col stored.0 col) (cell_normalized stored.1 since cell i)
    (column_normalized cols cells col since i)

cell_twice : (period : ℕ) (cell : Cell) → normalized_cell period (normalized_cell period cell)
    ≡ normalized_cell period cell
cell_twice period (Count count) = refl
cell_twice period (Rate elapsed cur prev) = ap (λ kept. Rate kept cur prev) (omega arith)

pub normalized_twice : (cols : List (Col × ℕ)) (cells : List Cell)
    → normalized_cells cols (normalized_cells cols cells) ≡ normalized_cells cols cells
normalized_twice [] cells = refl
normalized_twice (stored ∷ cols) [] = refl
normalized_twice (stored ∷ cols) (cell ∷ cells) =
    λ i. cell_twice stored.1 cell i ∷ normalized_twice cols cells i

pub normalized_from_zero : (period elapsed cur prev t : ℕ) → normalized_cell period
    (Rate elapsed cur prev)
    ≡ Rate (t + 2 * period + 1 - zero_moment (arrived period (min elapsed (2 * period + 1)) cur
    prev t)) cur prev
normalized_from_zero period elapsed cur prev t = ap (λ kept. Rate kept cur prev) (omega arith)
