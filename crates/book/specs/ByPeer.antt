-- The rows of one key, each as the peer that holds it tells it.
use Rattle.std.specs.Prelude.{ℕ, ◌-◌, List, [], Option, map, unwrap_or}
use Rattle.agg_types.specs.Col.{all_cols}
use Rattle.agg_types.specs.declared.column.Col.{Col}
use Rattle.agg_types.specs.declared.row_key.RowKey.{RowKey}
use Rattle.fleet_model.specs.Answers.{left_of, rows_of}
use Rattle.fleet_model.specs.Keys.{row_worth}
use Rattle.fleet_model.specs.State.{State}
use Rattle.fleet_model.specs.Values.{cols_of}
use Rattle.fleet_model.specs.declared.arrival.Arrival.{Arrival}
use Rattle.fleet_model.specs.declared.summed.Summed.{Summed}
use Rattle.peer_rows.specs.declared.row.Row.{Row}
use Rattle.book_rows.specs.Shown.{of_peer}
use Rattle.book.specs.declared.by_peer.PeerRow.{PeerRow}

-- what a row says at t: what is left of its life, and its own value of each column
abbrev pub sums_alone : List (Col × ℕ) → ℕ → Arrival → Summed
sums_alone cols t row =
    record {
      peers = 1;
      left = left_of t row;
      values = map (λ col. row_worth cols col t row) all_cols;
    }

-- a peer's row at t: its age is the time since it arrived
abbrev pub peer_row : List (Col × ℕ) → ℕ → RowKey × Arrival → PeerRow
peer_row cols t row =
    record { peer = row.0.peer; age = t - row.1.arrived; sums = sums_alone cols t row.1 }

-- the rows of a key at the state's moment, by peer
abbrev pub peer_rows : State → ℕ → List ℕ → List PeerRow
peer_rows state table key =
    map (peer_row (cols_of state.config.tables table) state.moment) (rows_of state table key)

-- ---- rows as they are kept

-- a row with its peer
abbrev pub kept_row : List (Col × ℕ) → ℕ → ℕ × Row → PeerRow
kept_row cols t row = peer_row cols t (of_peer 0 [] row)

-- rows of one key, each with its peer, where some were found
abbrev pub kept_rows : List (Col × ℕ) → ℕ → Option (List (ℕ × Row)) → List PeerRow
kept_rows cols t rows = map (kept_row cols t) (unwrap_or rows [])
