use Rattle.std.specs.Prelude.{◌≡◌, ℕ, ◌+◌, Bool, ◌&&◌, not, List, [], ◌∷◌, ◌==◌, Option, map}
use Rattle.std.specs.Prelude.{filter, length}
use Rattle.std.specs.Map.{keys_of, lookup, remove_entry}
use Rattle.std.specs.BTreeMap.{insert_entry, is_at}
use Rattle.std.specs.List.{AllByRecursion, dedup}
use Rattle.std.specs.List.Sorted.{IsStrictlySortedBy}
use Rattle.agg_types.specs.RowKey.{row_key_cmp}
use Rattle.agg_types.specs.declared.row_key.RowKey.{RowKey}
use Rattle.peer_rows.specs.Ends.{lives_at}
use Rattle.peer_rows.specs.Spread.{spread}
use Rattle.peer_rows.specs.Table.{Spot, TableRows, same_key}
use Rattle.peer_rows.specs.declared.row.Row.{Row}

-- how many peers and tables there are, and the rows by table, key and peer, each place once
pub record RowMap : Type 0 where
  pub peers : ℕ
  pub tables : ℕ
  pub entries : List (RowKey × Row)

-- the place of a peer's row of a table and key
abbrev pub place_of : ℕ → List ℕ → ℕ → RowKey
place_of table key peer = record { table = table; key = key; peer = peer }

-- whether a place is in a table
abbrev pub in_table : ℕ → RowKey → Bool
in_table table p = table == p.table

-- whether a place is one of a key of a table
abbrev pub of_table_key : ℕ → List ℕ → RowKey → Bool
of_table_key table key p = (table == p.table) && same_key key p.key

-- whether a place is one of a peer in a table
abbrev pub of_table_peer : ℕ → ℕ → RowKey → Bool
of_table_peer table peer p = (table == p.table) && (peer == p.peer)

-- the row of a peer, table and key
abbrev pub row_at : RowMap → ℕ → ℕ → List ℕ → Option Row
row_at rows peer table key = lookup (is_at (row_key_cmp (place_of table key peer))) rows.entries

-- the rows with a row in the place of the one that stood there
abbrev pub with_row : RowMap → ℕ → ℕ → List ℕ → Row → RowMap
with_row rows peer table key row =
    record rows { entries = insert_entry row_key_cmp rows.entries (place_of table key peer) row }

-- the rows without that of a peer, table and key
abbrev pub without_row : RowMap → ℕ → ℕ → List ℕ → RowMap
without_row rows peer table key =
    record rows {
      entries = remove_entry (is_at (row_key_cmp (place_of table key peer))) rows.entries;
    }

-- the rows without those of a table and key
abbrev pub without_key : RowMap → ℕ → List ℕ → RowMap
without_key rows table key =
    record rows { entries = filter (λ e. not (of_table_key table key e.0)) rows.entries }

-- the rows without those of a table
abbrev pub without_table : RowMap → ℕ → RowMap
without_table rows table =
    record rows { entries = filter (λ e. not (in_table table e.0)) rows.entries }

-- the rows of a table, each with its key and its peer
abbrev pub rows_of : RowMap → ℕ → List (Spot × Row)
rows_of rows table =
    map (λ e. ((e.0.key, e.0.peer), e.1)) (filter (λ e. in_table table e.0) rows.entries)

-- the rows of a table and key, each with its peer
abbrev pub peers_of : RowMap → ℕ → List ℕ → List (ℕ × Row)
peers_of rows table key =
    map (λ e. (e.0.peer, e.1)) (filter (λ e. of_table_key table key e.0) rows.entries)

-- how many keys of a table have a row
abbrev pub used_in : RowMap → ℕ → ℕ
used_in rows table =
    length (dedup same_key (map (λ e. e.0.key) (filter (λ e. in_table table e.0) rows.entries)))

-- the rows stand in order, each place once
abbrev pub AreInOrder : List (RowKey × Row) → Type 0
AreInOrder entries = IsStrictlySortedBy row_key_cmp (keys_of entries)

abbrev pub place : ℕ → Spot → RowKey
place table s = place_of table s.0 s.1

-- tables with their positions, from n on
abbrev pub numbered : ℕ → List TableRows → List (ℕ × List (Spot × Row))
numbered n [] = []
numbered n (t ∷ ts) = (n, t.entries) ∷ numbered (n + 1) ts

-- the rows of all tables
abbrev pub placed : List TableRows → List (RowKey × Row)
placed tables = spread place (numbered 0 tables)

-- each table counts the same peers, and the rows stand in order
pub record AreTables (peers : ℕ) (tables : List TableRows) : Type 0 where
  pub agree : AllByRecursion (λ t. t.peers ≡ peers) tables
  pub ordered : AreInOrder (placed tables)

-- the rows that live at a moment
abbrev pub living : RowMap → ℕ → RowMap
living rows t = record rows { entries = filter (λ e. lives_at t e.1) rows.entries }
