-- Bounds on the values of keys, by which ranked lists are found.
use Rattle.std.specs.Prelude.{◌≡◌, ◌≢◌, ℕ, ◌<◌, ◌≤◌, ◌==◌, ◌&&◌, false, List, length}
use Rattle.std.specs.Prelude.{slice_index_or}
use Rattle.agg_types.specs.declared.config.Config.{Config}
use Rattle.agg_types.specs.declared.config.Rank.{Rank}
use Rattle.agg_types.specs.declared.config.Shape.{Shape}
use Rattle.agg_types.specs.declared.limits.TheConstants.{LAST_MOMENT}
use Rattle.fleet_model.specs.Keys.{Rows, key_rows, worth_of}
use Rattle.fleet_model.specs.Ranking.{no_rank}
use Rattle.fleet_model.specs.Values.{cols_of, same_key}
use Rattle.ranked.specs.Bounds.{AreAllBounded, bound_at}
use Rattle.ranked.specs.Leaders.{bounds_of}
use Rattle.book_machine.specs.Foreseen.{living_of}
use Rattle.book_rows.specs.Store.{InForce}

-- the bounds of each list: each key with how many leading zeros its bound has
abbrev pub Lists : Type 0
Lists = List (List (List ℕ × ℕ))

abbrev pub rank_at : List Rank → ℕ → Rank
rank_at ranks list = slice_index_or ranks list no_rank

-- each key of a ranked list's table with a row that lives at t has a bound of at least its value
abbrev pub IsLed : List Shape → Rows → ℕ → Rank → List (List ℕ × ℕ) → Type 0
IsLed tables rows t rank bounds =
    AreAllBounded bounds (λ key. living_of (key_rows rows rank.table key) t)
    (λ key. worth_of (cols_of tables rank.table) (key_rows rows rank.table key) rank.col t)

-- so has it in each ranked list
pub record AreLed (tables : List Shape) (ranks : List Rank) (rows : Rows) (t : ℕ)
    (lists : Lists) : Type 0 where
  pub count : length lists ≡ length ranks
  pub each : (list : ℕ) → list < length ranks
      → IsLed tables rows t (rank_at ranks list) (bounds_of lists list)

-- the bounds of a table's key may be gone, and all others are what they were
pub record IsKeyDropped (ranks : List Rank) (table : ℕ) (key : List ℕ) (old new : Lists) :
    Type 0 where
  pub count : length new ≡ length old
  pub others : (list : ℕ) (other : List ℕ)
      → ((rank_at ranks list).table == table) && same_key key other ≡ false
      → bound_at (bounds_of new list) other ≡ bound_at (bounds_of old list) other

-- the bounds of a table may be gone, and those of others are what they were
pub record IsTableDropped (ranks : List Rank) (table : ℕ) (old new : Lists) : Type 0 where
  pub count : length new ≡ length old
  pub others : (list : ℕ) → (rank_at ranks list).table ≢ table
      → bounds_of new list ≡ bounds_of old list

-- what is led at a moment is led by these bounds later
abbrev pub StaysLed : List Rank → Rows → ℕ → Lists → Rows → ℕ → Lists → Type 0
StaysLed ranks rows t lists others later new = (tables : List Shape)
    → AreLed tables ranks rows t lists → AreLed tables ranks others later new

-- rows of a configuration's peers and tables, at a moment that is small
pub record HasSizes (config : Config) (moment : ℕ) (rows : InForce) : Type 0 where
  pub peers : rows.peers ≡ length config.peers
  pub tables : rows.tables ≡ length config.tables
  pub in_range : moment ≤ LAST_MOMENT

-- rows of a configuration's peers and tables, with a bound for each ranked key
pub record IsWhole (config : Config) (moment : ℕ) (rows : InForce) (lists : Lists) : Type 0 where
  pub sizes : HasSizes config moment rows
  pub led : AreLed config.tables config.ranks rows.rows moment lists
