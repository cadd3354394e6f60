-- What holds of every state that a checked configuration comes to, whatever happens.
use Rattle.std.specs.Prelude.{◌≡◌, ℕ, ◌≤◌, true, []}
use Rattle.std.specs.List.{AllByRecursion}
use Rattle.agg_types.specs.Check.{config_faults}
use Rattle.agg_types.specs.Fits.{fits}
use Rattle.agg_types.specs.declared.config.Config.{Config}
use Rattle.agg_types.specs.declared.event.What.{What}
use Rattle.agg_types.specs.declared.event.What.TheVariants.{Put}
use Rattle.agg_types.specs.declared.limits.TheConstants.{LAST_MOMENT}
use Rattle.agg_types.specs.declared.row_key.RowKey.{RowKey}
use Rattle.fleet_model.specs.Normalized.{normalized_cells}
use Rattle.fleet_model.specs.Laws.{AreLive, IsOrdered, IsWithinBound, IsWithinSizes}
use Rattle.fleet_model.specs.State.{State}
use Rattle.fleet_model.specs.Values.{cols_of}
use Rattle.fleet_model.specs.declared.arrival.Arrival.{Arrival}

-- what a peer would say to put a row
abbrev pub put_of : RowKey × Arrival → What
put_of row = Put row.0.peer row.0.table row.0.key row.1.life row.1.cells

-- a row fits the configuration: its peer and table are there, its key is of the table's kind, its
-- life has 32 bits, and each column has its cell. The cells are as they are kept. It arrived at a
-- moment up to this.
pub record IsSoundRow (config : Config) (moment : ℕ) (row : RowKey × Arrival) : Type 0 where
  pub fits : fits config (put_of row) ≡ true
  pub kept : normalized_cells (cols_of config.tables row.0.table) row.1.cells ≡ row.1.cells
  pub arrived : row.1.arrived ≤ moment

-- the configuration, with the filters that stand, has no fault; moments are up to the last; rows,
-- sessions and seats are in order; rows live, are no more than the sizes
-- and the bound on all of them, and fit
pub record IsSound (state : State) : Type 0 where
  pub checked : config_faults state.config ≡ []
  pub in_range : state.moment ≤ LAST_MOMENT
  pub ordered : IsOrdered state
  pub live : AreLive state
  pub within_sizes : IsWithinSizes state
  pub within_bound : IsWithinBound state
  pub rows : AllByRecursion (IsSoundRow state.config state.moment) state.rows
