-- One key of a state, whose values are asked for.
use Rattle.std.specs.Prelude.{ℕ, List}
use Rattle.agg_types.specs.declared.column.Col.{Col}
use Rattle.fleet_model.specs.Keys.{key_rows}
use Rattle.fleet_model.specs.State.{State}
use Rattle.fleet_model.specs.Values.{cols_of}
use Rattle.book_machine.specs.Foreseen.{flat_within, living_within, worth_within}

-- a key of a state's table
pub record KeyOf : Type 0 where
  pub state : State
  pub table : ℕ
  pub key : List ℕ

abbrev pub key_of : State → ℕ → List ℕ → KeyOf
key_of state table key = record { state = state; table = table; key = key }

-- what it sums up to, and how many of its rows live, as the clock goes on
abbrev pub sums_of : KeyOf → Col → ℕ → ℕ
sums_of of col t = worth_within (cols_of of.state.config.tables of.table)
    (key_rows of.state.rows of.table of.key) col t

abbrev pub living_of_key : KeyOf → ℕ → ℕ
living_of_key of t = living_within (key_rows of.state.rows of.table of.key) t

-- the moment from which they stay
abbrev pub flat_of : KeyOf → ℕ
flat_of of = flat_within (cols_of of.state.config.tables of.table)
    (key_rows of.state.rows of.table of.key)
