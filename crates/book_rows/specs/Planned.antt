-- Places and rows of a book's peers and tables.
use Rattle.std.specs.Prelude.{◌≡◌, ℕ, ◌^◌, ◌<◌, List, Option, None, Some}
use Rattle.std.specs.List.{AllByRecursion}
use Rattle.agg_types.specs.declared.row_key.RowKey.{RowKey}
use Rattle.peer_rows.specs.Rows.{AreInOrder, RowMap}
use Rattle.book_rows.specs.declared.at.At.{At}

-- a place of these numbers of peers and tables
abbrev pub IsInside : ℕ → ℕ → RowKey → Type 0
IsInside peers tables place = (place.peer < peers) × (place.table < tables)

-- rows in order, of these numbers of peers and tables
pub record AreRows (peers tables : ℕ) (rows : RowMap) : Type 0 where
  pub of_peers : rows.peers ≡ peers
  pub of_tables : rows.tables ≡ tables
  pub ordered : AreInOrder rows.entries
  pub inside : AllByRecursion (λ entry. IsInside peers tables entry.0) rows.entries

-- a life, if there is one, has 32 bits
abbrev pub IsShort : Option ℕ → Type 0
IsShort None = Unit {0}
IsShort (Some life) = life < 2 ^ 32

-- the place at which a row stands
abbrev pub place_at : At → RowKey
place_at at = record { table = at.table; key = at.key.now; peer = at.peer }
