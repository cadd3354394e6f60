-- The row that packed cells make which arrive is the row that is to be put.
use Rattle.std.proofs.Common.{◌≡◌, ℕ, ◌+◌, ◌-◌, ◌*◌, ◌≤◌, List, [], ◌∷◌, Some, None, refl, sym, ap}
use Rattle.std.proofs.Common.{◌∙◌, subst, Bool, true, false, arith}
use Rattle.std.specs.Prelude.{Option, MatchBool, map, min}
use Rattle.std.specs.BTreeMap.{insert_entry}
use Rattle.agg_types.specs.RowKey.{row_key_cmp}
use Rattle.agg_types.specs.declared.row_key.RowKey.{RowKey}
use Rattle.peer_rows.specs.Rows.{AreInOrder, RowMap, with_row}
use Rattle.book_rows.specs.Planned.{AreRows, IsInside}
use Rattle.book_rows.proofs.Inside.{rows_put}
use Rattle.book_rows.proofs.Lists.{map-insert_entry}
use Rattle.std.specs.List.{zip}
use Rattle.std.specs.Option.{option_map}
use Rattle.std.proofs.Math.Nat.{min-le_right}
use Rattle.agg_types.specs.declared.column.Col.{Col}
use Rattle.agg_types.specs.declared.event.Cell.{Cell}
use Rattle.agg_types.specs.declared.event.Cell.TheVariants.{Count, Rate}
use Rattle.fleet_model.specs.Normalized.{normalized_cell}
use Rattle.peer_rows.specs.Arriving.{arrived_row, arriving_cell}
use Rattle.peer_rows.specs.declared.arrival.Arrival.{Arrival as Packed}
use Rattle.book_rows.specs.Shown.{arrivals, as_arrival, cell_of}
use Rattle.book_rows.specs.Store.{HasArrived, InForce, arrival_put}
use Rattle.fleet_model.specs.declared.arrival.Arrival.{Arrival}

-- a life is what lies between the arrival and the end
pub life_left : (t : ℕ) (life : Option ℕ)
    → option_map (λ ends. ends - t) (option_map (λ life. t + life) life) ≡ life
life_left t None = refl
life_left t (Some life) = ap Some (omega arith)

kept_left : (t period kept : ℕ) → kept ≤ 2 * period + 1
    → 2 * period + 1 - (t + 2 * period + 1 - kept - t) ≡ kept
kept_left t period kept most = omega (arith, most)

cell_kept : (t period : ℕ) (cell : Cell)
    → cell_of t (arriving_cell t period cell) ≡ normalized_cell period cell
cell_kept t period (Count n) = refl
cell_kept t period (Rate elapsed cur prev) =
    ap (λ n. Rate n cur prev)
    (kept_left t period (min elapsed (2 * period + 1)) (min-le_right elapsed (2 * period + 1)))

cells_kept : (t : ℕ) (pairs : List ((Col × ℕ) × Cell))
    → map (cell_of t) (map (λ c. arriving_cell t c.0.1 c.1) pairs)
    ≡ map (λ stored. normalized_cell stored.0.1 stored.1) pairs
cells_kept t [] = refl
cells_kept t (pair ∷ pairs) = rw (cell_kept t pair.0.1 pair.1, cells_kept t pairs) refl

arrives : (packed : Packed) → as_arrival (arrived_row packed) ≡ arrival_put packed
arrives packed = rw (
  life_left packed.t packed.life,
  cells_kept packed.t (zip packed.cols.now packed.cells.now),
) refl

-- ---- at its place
arrived-shown : (old new : RowMap) (place : RowKey) (packed : Packed)
    → new ≡ with_row old place.peer place.table place.key (arrived_row packed)
    → arrivals new.entries
    ≡ insert_entry row_key_cmp (arrivals old.entries) place (arrival_put packed)
arrived-shown old new place packed is =
    ap (λ (rows : RowMap). arrivals rows.entries) is
    ∙ map-insert_entry row_key_cmp as_arrival old.entries place (arrived_row packed)
    ∙ ap (insert_entry row_key_cmp (arrivals old.entries) place) (arrives packed)

pub has-arrived : (done : Bool) (old new : RowMap) (place : RowKey) (packed : Packed)
    → MatchBool done (new ≡ with_row old place.peer place.table place.key (arrived_row packed))
    (new ≡ old) → HasArrived done old new place packed
has-arrived true old new place packed is = arrived-shown old new place packed is
has-arrived false old new place packed same = same

pub rows-arrived : (peers tables : ℕ) (done : Bool) (old new : RowMap) (place : RowKey)
    (packed : Packed) → AreRows peers tables old → AreInOrder new.entries
    → IsInside peers tables place
    → MatchBool done (new ≡ with_row old place.peer place.table place.key (arrived_row packed))
    (new ≡ old) → AreRows peers tables new
rows-arrived peers tables true old new place packed are ordered inside is =
    rows_put peers tables old new are ordered place (arrived_row packed) inside is
rows-arrived peers tables false old new place packed are ordered inside same =
    subst (λ (rows : RowMap). AreRows peers tables rows) (sym same) are

-- the rows in force with one put
pub in-force : (peers tables : ℕ) (old new : List (RowKey × Arrival)) (place : RowKey)
    (row : Arrival) (store : InForce)
    → record { peers = peers; tables = tables; rows = old } ≡ store
    → new ≡ insert_entry row_key_cmp old place row
    → record { peers = peers; tables = tables; rows = new }
    ≡ record store { rows = insert_entry row_key_cmp store.rows place row }
in-force peers tables old new place row store view is =
    ap (λ (rows : List (RowKey × Arrival)).
    record { peers = peers; tables = tables; rows = rows }) is
    ∙ ap (λ (s : InForce). record s { rows = insert_entry row_key_cmp s.rows place row }) view
