-- What entries that are lent show.
use Rattle.std.specs.Prelude.{ℕ, List, Option, Some, filter}
use Rattle.std.specs.Borrow.{Bor}
use Rattle.agg_types.specs.declared.column.Col.{Col}
use Rattle.agg_types.specs.declared.config.Cond.{Cond}
use Rattle.fleet_model.specs.Answers.{listed}
use Rattle.fleet_model.specs.State.{State}
use Rattle.fleet_model.specs.Values.{cols_of, meets}
use Rattle.fleet_model.specs.declared.summed.Summed.{Summed}

-- a key with its value
abbrev pub key_and_value : Bor (List ℕ) × ℕ → List ℕ × ℕ
key_and_value entry = (entry.0.now, entry.1)

-- a key with its summed row
abbrev pub key_and_sums : Bor (List ℕ) × Summed → List ℕ × Summed
key_and_sums row = (row.0.now, row.1)

-- a key that has a summed row
abbrev pub shown_row : List ℕ × Summed → List ℕ × Option Summed
shown_row row = (row.0, Some row.1)

-- the keys of a table whose values meet all conditions, each with its summed row, in order
abbrev pub listed_where : State → ℕ → List Cond → List (List ℕ × Option Summed)
listed_where state table conds =
    let cols : List (Col × ℕ) = cols_of state.config.tables table in
    filter (λ row. meets cols state.rows table row.0 state.moment conds) (listed state table)
