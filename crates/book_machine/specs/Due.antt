use Rattle.std.specs.Prelude.{ℕ, ◌<◌, ◌≤◌, List, Option, length}
use Rattle.agg_types.specs.declared.event.Cell.{Cell}
use Rattle.agg_types.specs.declared.event.What.{What}
use Rattle.agg_types.specs.declared.event.What.TheVariants.{Sit, Open, Put, Clear, AddFilter}
use Rattle.agg_types.specs.declared.event.What.TheVariants.{DropFilter, Moment, Leave}
use Rattle.agg_types.specs.declared.config.Config.{Config}
use Rattle.agg_types.specs.declared.limits.TheConstants.{LAST_MOMENT, MOST_CONDS}
use Rattle.book_rows.specs.Planned.{IsShort}
use Rattle.book_rows.specs.declared.at.At.{At}

-- a row of these peers and tables, whose life has 32 bits
pub record IsPlaced (config : Config) (peer table : ℕ) (life : Option ℕ) : Type 0 where
  pub peer_in : peer < length config.peers
  pub table_in : table < length config.tables
  pub short : IsShort life

-- a Put is of peers and tables that there are, a filter has few conditions, and a moment is small
abbrev pub FitsPlace : Config → What → Type 0
FitsPlace config Sit = Unit {0}
FitsPlace config (Open peer) = Unit {0}
FitsPlace config (Put peer table key life cells) = IsPlaced config peer table life
FitsPlace config (Clear table sel) = Unit {0}
FitsPlace config (AddFilter filter) = length filter.conds ≤ MOST_CONDS
FitsPlace config (DropFilter name) = Unit {0}
FitsPlace config (Moment moment) = moment ≤ LAST_MOMENT
FitsPlace config Leave = Unit {0}

-- an update that puts a row there
abbrev pub put_at : At → Option ℕ → List Cell → What
put_at at life cells = Put at.peer at.table at.key.now life cells
