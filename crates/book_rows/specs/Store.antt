-- What the rows of a book stand for.
use Rattle.std.specs.Prelude.{◌≡◌, ℕ, ◌==◌, List, [], Option, None, Some, Bool, filter}
use Rattle.std.specs.Prelude.{MatchBool, MatchOption}
use Rattle.std.specs.Prelude.{map}
use Rattle.std.specs.Borrow.{Bor}
use Rattle.std.specs.BTreeMap.{insert_entry, is_at}
use Rattle.std.specs.Cmp.Lexicographic.{slice_cmp}
use Rattle.std.specs.List.{IsDistinct, dedup}
use Rattle.std.specs.Map as maps
use Rattle.std.specs.Ordering.{eq_by_cmp, nat_cmp}
use Rattle.std.specs.Option.{option_map}
use Rattle.fleet_model.specs.Keys.{key_rows}
use Rattle.fleet_model.specs.Values.{same_key}
use Rattle.peer_rows.specs.Places.{Keys}
use Rattle.peer_rows.specs.Rows.{RowMap}
use Rattle.peer_rows.specs.Table.{Spot}
use Rattle.peer_rows.specs.Walk.{if_any}
use Rattle.peer_rows.specs.declared.arrival.Arrival.{Arrival as Packed}
use Rattle.peer_rows.specs.declared.row.Row.{Row}
use Rattle.book_rows.specs.Planned.{place_at}
use Rattle.book_rows.specs.Shown.{arrivals, of_peer, of_spot}
use Rattle.book_rows.specs.declared.at.At.{At}
use Rattle.agg_types.specs.declared.column.Col.{Col}
use Rattle.agg_types.specs.declared.event.Cell.{Cell}
use Rattle.agg_types.specs.declared.lent_what.LentCells.{LentCells}
use Rattle.agg_types.specs.RowKey.{row_key_cmp}
use Rattle.agg_types.specs.Whats.{lent_cells}
use Rattle.agg_types.specs.declared.row_key.RowKey.{RowKey}
use Rattle.fleet_model.specs.Normalized.{normalized_cells}
use Rattle.fleet_model.specs.declared.arrival.Arrival.{Arrival}

-- the rows in force, by place, of so many peers and tables
pub record InForce : Type 0 where
  pub peers : ℕ
  pub tables : ℕ
  pub rows : List (RowKey × Arrival)

-- a row as it arrives
abbrev pub put_arrival : ℕ → Option ℕ → List (Col × ℕ) → List Cell → Arrival
put_arrival t life cols cells =
    record { arrived = t; life = life; cells = normalized_cells cols cells }

-- what is in force after a row has arrived at t, in the place of the one that stood there
abbrev pub with_arrived : InForce → ℕ → At → Option ℕ → List (Col × ℕ) → LentCells
    → InForce
with_arrived old t at life cols cells =
    record old {
      rows = insert_entry row_key_cmp old.rows (place_at at)
          (put_arrival t life cols (lent_cells cells));
    }

-- the row that packed cells make which arrive
abbrev pub arrival_put : Packed → Arrival
arrival_put packed = put_arrival packed.t packed.life packed.cols.now packed.cells.now

-- it stands at a place now, or, where it wasn't put, nothing has changed
abbrev pub HasArrived : Bool → RowMap → RowMap → RowKey → Packed → Type 0
HasArrived done old new place packed = MatchBool done
    (arrivals new.entries
    ≡ insert_entry row_key_cmp (arrivals old.entries) place (arrival_put packed)) (new ≡ old)

-- these are the rows of a key, each with its peer; there is none where none were found
abbrev pub AreRowsOf : List (RowKey × Arrival) → ℕ → List ℕ
    → Option (List (ℕ × Row)) → Type 0
AreRowsOf rows table key found = MatchOption found (key_rows rows table key ≡ [])
    (λ rows_found. map (of_peer table key) rows_found ≡ key_rows rows table key)

-- the same of rows that are lent
abbrev pub AreFound : List (RowKey × Arrival) → ℕ → List ℕ
    → Option (Bor (List (ℕ × Row))) → Type 0
AreFound rows table key found = AreRowsOf rows table key (option_map (λ lent. lent.now) found)

-- whichever key's rows were found, this holds of them
abbrev pub IfFound : Option (Bor (List (ℕ × Row))) → (List (RowKey × Arrival) → Type 0)
    → Type 0
IfFound found holds = (rows : List (RowKey × Arrival)) (table : ℕ) (key : List ℕ)
    → AreFound rows table key found → holds (key_rows rows table key)

-- a walk of a table's rows gives them all, by key, then by peer; there is none where there are no
-- rows
abbrev pub IsWalk : List (RowKey × Arrival) → ℕ → Option (List (Spot × Row)) → Type 0
IsWalk rows table None = filter (λ row. row.0.table == table) rows ≡ []
IsWalk rows table (Some walk) =
    map (of_spot table) walk ≡ filter (λ row. row.0.table == table) rows

-- each key of a table that has rows, once with its rows, in whatever order
pub record IsEachKeyOf (rows : List (RowKey × Arrival)) (table : ℕ) (walk : Keys) : Type 0 where
  pub once : IsDistinct (eq_by_cmp (slice_cmp nat_cmp)) (maps.keys_of walk)
  pub exact : (key : List ℕ)
      → option_map (map (of_peer table key)) (maps.lookup (is_at (slice_cmp nat_cmp key)) walk)
      ≡ if_any (key_rows rows table key)

-- the keys of a table's rows, each once
abbrev pub row_keys : List (RowKey × Arrival) → ℕ → List (List ℕ)
row_keys rows table =
    dedup same_key (map (λ row. row.0.key) (filter (λ row. row.0.table == table) rows))
