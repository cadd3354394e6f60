-- Rows of a book's peers and tables, as some come or go.
use Rattle.std.proofs.Common.{◌≡◌, ℕ, ◌+◌, ◌-◌, nat_lt, Bool, true, false, cond, List, [], ◌∷◌}
use Rattle.std.proofs.Common.{Option, None, Some, refl, ap, ◌∙◌, arith}
use Rattle.std.specs.Prelude.{filter, max}
use Rattle.std.specs.BTreeMap.{insert_entry, is_at}
use Rattle.std.specs.List.{AllByRecursion}
use Rattle.std.specs.Map.{remove_entry}
use Rattle.std.specs.Option.{option_map}
use Rattle.agg_types.specs.RowKey.{row_key_cmp}
use Rattle.agg_types.specs.declared.row_key.RowKey.{RowKey}
use Rattle.fleet_model.specs.Machine.{with_row}
use Rattle.fleet_model.specs.Moments.{is_live, lives}
use Rattle.fleet_model.specs.declared.arrival.Arrival.{Arrival}
use Rattle.fleet_model.proofs.InForce.{row_key_cmp_exact}
use Rattle.peer_rows.specs.Ends.{is_behind, lives_at}
use Rattle.peer_rows.specs.Rows.{AreInOrder, RowMap}
use Rattle.peer_rows.specs.declared.row.Row.{Row}
use Rattle.book_frame.proofs.Listings.{map-filter}
use Rattle.book_rows.specs.Planned.{AreRows, IsInside}
use Rattle.book_rows.specs.Shown.{arrivals, as_arrival, view_of_row}
use Rattle.book_rows.proofs.Lists.{all-filter, all-insert_entry, same_filters}

abbrev Entry : Type 0
Entry = RowKey × Row

all-remove : (P : Entry → Type 0) (test : RowKey → Bool) (es : List Entry) → AllByRecursion P es
    → AllByRecursion P (remove_entry test es)
all-remove P test [] all = tt
all-remove P test (e ∷ es) all = by (test e.0) (all-remove P test es all.1)
  where
    by : (b : Bool) → AllByRecursion P (remove_entry test es)
        → AllByRecursion P (cond b es (e ∷ remove_entry test es))
    by true more = all.1
    by false more = (all.0, more)

module _ (peers tables : ℕ) (rows new : RowMap) (are : AreRows peers tables rows)
    (ordered : AreInOrder new.entries) where
  -- a row is put
  pub rows_put : (place : RowKey) (row : Row) → IsInside peers tables place
      → new ≡ record rows { entries = insert_entry row_key_cmp rows.entries place row }
      → AreRows peers tables new
  rows_put place row inside is = record {
    of_peers = ap (λ (m : RowMap). m.peers) is ∙ are.of_peers;
    of_tables = ap (λ (m : RowMap). m.tables) is ∙ are.of_tables;
    ordered = ordered;
    inside = rw is (all-insert_entry row_key_cmp (λ e. IsInside peers tables e.0) rows.entries
        place row are.inside (λ q same. rw (← row_key_cmp_exact place q same) inside) inside);
  }

  -- a row is taken away
  pub rows_taken : (place : RowKey)
      → new ≡ record rows { entries = remove_entry (is_at (row_key_cmp place)) rows.entries }
      → AreRows peers tables new
  rows_taken place is = record {
    of_peers = ap (λ (m : RowMap). m.peers) is ∙ are.of_peers;
    of_tables = ap (λ (m : RowMap). m.tables) is ∙ are.of_tables;
    ordered = ordered;
    inside = rw is (all-remove (λ e. IsInside peers tables e.0) (is_at (row_key_cmp place))
        rows.entries are.inside);
  }

  -- those that pass are left
  pub rows_left : (p : Entry → Bool) → new ≡ record rows { entries = filter p rows.entries }
      → AreRows peers tables new
  rows_left p is = record {
    of_peers = ap (λ (m : RowMap). m.peers) is ∙ are.of_peers;
    of_tables = ap (λ (m : RowMap). m.tables) is ∙ are.of_tables;
    ordered = ordered;
    inside = rw is (all-filter (λ e. IsInside peers tables e.0) (λ e. IsInside peers tables e.0) p
        (λ e ok inside. inside) rows.entries are.inside);
  }

-- ---- rows that live
alike : (t arrived : ℕ) (ends : Option ℕ)
    → is_behind t (option_map (λ end. max end arrived) ends)
    ≡ lives (option_map (λ end. end - arrived) ends) arrived t
alike t arrived None = refl
alike t arrived (Some end) =
    let same : max end arrived ≡ arrived + (end - arrived) = omega arith in
    ap (nat_lt t) same

pub live_alike : (t : ℕ) (row : Row) → lives_at t row ≡ is_live t (as_arrival row)
live_alike t row = alike t row.arrived row.ends

alike_all : (t : ℕ) (es : List Entry)
    → AllByRecursion (λ e. lives_at t e.1 ≡ is_live t (view_of_row e).1) es
alike_all t [] = tt
alike_all t (e ∷ es) = (live_alike t e.1, alike_all t es)

-- what they stand for, once those that have ended are gone
pub living_shown : (t : ℕ) (es : List Entry)
    → arrivals (filter (λ e. lives_at t e.1) es) ≡ filter (λ row. is_live t row.1) (arrivals es)
living_shown t es =
    ap (λ (fs : List Entry). arrivals fs)
    (same_filters (λ e. lives_at t e.1) (λ e. is_live t (view_of_row e).1) es (alike_all t es))
    ∙ map-filter view_of_row (λ (row : RowKey × Arrival). is_live t row.1) es

-- ---- with_row by what it asks
pub with_living : (t : ℕ) (rows : List (RowKey × Arrival)) (place : RowKey) (row : Arrival)
    → is_live t row ≡ true → with_row t rows place row ≡ insert_entry row_key_cmp rows place row
unfolding with_row
with_living t rows place row live = rw live refl

pub with_ended : (t : ℕ) (rows : List (RowKey × Arrival)) (place : RowKey) (row : Arrival)
    → is_live t row ≡ false → with_row t rows place row
    ≡ remove_entry (is_at (row_key_cmp place)) rows
unfolding with_row
with_ended t rows place row over = rw over refl
