-- What stands on a table: filters, and ranked lists.
use Rattle.std.specs.Prelude.{◌≡◌, ◌==◌, ℕ, Bool, IfSome}
use Rattle.agg_types.specs.Form.{IsFormAt}
use Rattle.std.specs.List.{list_any}
use Rattle.agg_types.specs.declared.config.Config.{Config}
use Rattle.fleet_model.specs.Values.{cols_of}
use Rattle.screens.specs.Asked.{IsScreen}
use Rattle.book_machine.specs.declared.table_use.TableUse.{TableUse}

-- whether a filter is of a table
abbrev pub has_filter : Config → ℕ → Bool
has_filter config table = list_any (λ filter. filter.table == table) config.filters

-- whether a ranked list is of a table
abbrev pub has_list : Config → ℕ → Bool
has_list config table = list_any (λ rank. rank.table == table) config.ranks

-- so it is of the table that was looked up
pub record IsUseOf (config : Config) (used : TableUse) : Type 0 where
  pub judged : used.is_judged ≡ has_filter config used.table
  pub ranked : used.is_ranked ≡ has_list config used.table
  pub form : IfSome used.form (IsFormAt config.tables used.table)
  pub screens : IfSome used.screens
      (IsScreen (cols_of config.tables used.table) config.filters used.table)
