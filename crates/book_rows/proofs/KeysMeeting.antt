-- The listed rows of a table: a walk in no order, filtered and sorted.
use Rattle.std.proofs.Common.{◌≡◌, ℕ, zero, suc, Bool, true, false, cond, ◌&&◌, ◌==◌, not, List, []}
use Rattle.std.proofs.Common.{◌∷◌, Option, None, Some, is_some, length}
use Rattle.std.proofs.Common.{refl, sym, ap, ◌∙◌, ◌≤◌, arith}
use Rattle.std.specs.Prelude.{filter, map, slice_get, unwrap_or, ◌≢◌}
use Rattle.std.specs.BTreeMap.{is_at}
use Rattle.std.specs.Cmp.{eq_by_cmp_equiv}
use Rattle.std.specs.Cmp.Lexicographic.{slice_cmp, nat_list_cmp_total}
use Rattle.std.specs.List.{AllByRecursion, IsDistinct, list_all}
use Rattle.std.specs.List.Sorted.{IsPermutation, IsStrictlySortedBy}
use Rattle.std.specs.Map as maps
use Rattle.std.specs.Option.{option_map}
use Rattle.std.specs.Ordering.{eq_by_cmp, nat_cmp}
use Rattle.std.proofs.lemmas.Bool.Decides.{nat_tests}
use Rattle.std.proofs.lemmas.List.Sorted.{IsPermutation-map}
use Rattle.std.proofs.lemmas.Map.Entries.{lookup-filter-values, lookup_from_place, option_filter}
use Rattle.std.proofs.lemmas.Map.Keys.{IsDistinct-IsPermutation}
use Rattle.std.proofs.lemmas.Map.Made.{IsDistinct-keys_filter, is_some-lookup}
use Rattle.agg_types.specs.Col.{all_cols}
use Rattle.agg_types.specs.Op.{op_holds}
use Rattle.agg_types.specs.declared.column.Col.{Col}
use Rattle.agg_types.specs.declared.config.Cond.{Cond}
use Rattle.agg_types.specs.declared.config.Filter.{Filter}
use Rattle.agg_types.specs.declared.row_key.RowKey.{RowKey}
use Rattle.fleet_model.specs.Answers.{keys_of, listed, set_at, summed, tally}
use Rattle.fleet_model.specs.Keys.{AreKeysOf, AreLiveAt, Rows, has_live, holds, is_at_key, key_rows}
use Rattle.fleet_model.specs.Keys.{meet_at, sum_of, worth_of}
use Rattle.fleet_model.specs.Laws.{AreLive}
use Rattle.fleet_model.specs.Moments.{is_live}
use Rattle.fleet_model.specs.State.{State}
use Rattle.fleet_model.specs.Values.{cols_of, live_keys, meets, same_key}
use Rattle.fleet_model.specs.declared.arrival.Arrival.{Arrival}
use Rattle.fleet_model.specs.declared.summed.Summed.{Summed}
use Rattle.peer_rows.specs.Places.{Keys}
use Rattle.peer_rows.specs.Rows.{RowMap, peers_of}
use Rattle.peer_rows.specs.Walk.{IsEachKey, if_any}
use Rattle.peer_rows.specs.declared.row.Row.{Row}
use Rattle.peer_rows.proofs.Listed.{alike}
use Rattle.book_frame.specs.Lent.{listed_where, shown_row}
use Rattle.book_frame.proofs.Listings.{map-filter}
use Rattle.book_rows.specs.Listing.{AreMeeting, ListsMeeting, if_met, rows_meet, summed_up, sums_of}
use Rattle.book_rows.specs.Planned.{IsInside}
use Rattle.book_rows.specs.Shown.{arrivals, of_peer, rows_worth}
use Rattle.book_rows.specs.Store.{IsEachKeyOf}
use Rattle.book_rows.proofs.Lists.{all-filter}
use Rattle.book_rows.proofs.Reading.{no_rows, peers_shown, summed_from}
use Rattle.book_rows.proofs.Reading.{tally_same, worth_shown, worths_shown}

abbrev Shown : Type 0
Shown = RowKey × Arrival

abbrev PeerRows : Type 0
PeerRows = List (ℕ × Row)

-- whether keys are the same
abbrev same : List ℕ → List ℕ → Bool
same = eq_by_cmp (slice_cmp nat_cmp)

pub same_map : {X : Type 0} (xs : List X) → map (λ x. x) xs ≡ xs
same_map [] = refl
same_map (x ∷ xs) = ap (λ l. x ∷ l) (same_map xs)

-- ---- what there is
pub if_any-map : {X Y : Type 0} (f : X → Y) (xs : List X)
    → option_map (map f) (if_any xs) ≡ if_any (map f xs)
if_any-map f [] = refl
if_any-map f (x ∷ xs) = refl

pub any_of : {X : Type 0} (xs ys : List X) → Some ys ≡ if_any xs → xs ≡ ys
any_of [] ys is = cc
any_of (x ∷ xs) ys is = cc

-- ---- keys that meet conditions are chosen from a walk
module _ (rows : Rows) (table : ℕ) (cols : List (Col × ℕ)) (conds : List Cond) (t : ℕ) where
  meets_shown : (key : List ℕ) (found : PeerRows)
      → rows_meet cols conds t found ≡ meet_at cols (map (of_peer table key) found) conds t
  meets_shown key found = λ i. list_all
      (λ cond. op_holds cond.op (worth_shown table key cols cond.col t found i) cond.bound) conds

  one_met : (key : List ℕ) (own : Rows) (o : Option PeerRows)
      → option_map (map (of_peer table key)) o ≡ if_any own
      → option_map (map (of_peer table key)) (option_filter (rows_meet cols conds t) o)
      ≡ if_met cols conds t own
  one_met key own None is = by (meet_at cols own conds t)
    where
      by : (b : Bool) → None ≡ cond b (if_any own) None
      by true = is
      by false = refl
  one_met key own (Some found) is =
      ap (λ (b : Bool). option_map (map (of_peer table key)) (cond b (Some found) None))
      (meets_shown key found
      ∙ ap (λ (l : Rows). meet_at cols l conds t)
      (sym (any_of own (map (of_peer table key) found) is)))
      ∙ by (meet_at cols own conds t)
    where
      by : (b : Bool) → option_map (map (of_peer table key)) (cond b (Some found) None)
          ≡ cond b (if_any own) None
      by true = is
      by false = refl

  pub met_of_walk : (walk : Keys) → IsEachKeyOf rows table walk
      → AreMeeting rows table cols conds t (filter (λ e. rows_meet cols conds t e.1) walk)
  met_of_walk walk each = record {
    once = IsDistinct-keys_filter same (λ e. rows_meet cols conds t e.1) walk each.once;
    exact = λ key. ap (option_map (map (of_peer table key)))
        (lookup-filter-values (eq_by_cmp_equiv nat_list_cmp_total) (rows_meet cols conds t) key walk
        each.once)
        ∙ one_met key (key_rows rows table key) (maps.lookup (is_at (slice_cmp nat_cmp key)) walk)
        (each.exact key);
  }

  pub met_moved : (keys others : Keys) → AreMeeting rows table cols conds t keys
      → IsPermutation keys others → AreMeeting rows table cols conds t others
  met_moved keys others met moved =
      let apart : IsDistinct same (maps.keys_of others) =
      IsDistinct-IsPermutation same (eq_by_cmp_equiv nat_list_cmp_total).symm
      (maps.keys_of keys) (maps.keys_of others)
      (IsPermutation-map (λ (e : List ℕ × PeerRows). e.0) keys others moved) met.once in
      record {
        once = apart;
        exact = λ key. ap (option_map (map (of_peer table key)))
            (sym (alike keys others key moved met.once apart)) ∙ met.exact key;
      }

-- ---- what the rows of a chosen key sum up to
tally_some : (t : ℕ) (own : Rows) (found : Option (ℕ × Option ℕ)) → found ≡ tally t own → own ≢ []
    → found ≡ Some (unwrap_or found (0, None))
tally_some t [] found is some = absurd (some refl)
tally_some t (row ∷ own) None is some = cc
tally_some t (row ∷ own) (Some pair) is some = refl

sums_shown : (table : ℕ) (key : List ℕ) (cols : List (Col × ℕ)) (t : ℕ) (found : PeerRows)
    (own : Rows) → own ≡ map (of_peer table key) found → own ≢ []
    → Some (sums_of cols t found) ≡ sum_of cols own t
sums_shown table key cols t found own is some =
    let tallied : tally t (map (of_peer 0 []) found) ≡ tally t own =
    tally_same t 0 table [] key found ∙ ap (tally t) (sym is) in
    let pair : ℕ × Option ℕ = unwrap_or (tally t (map (of_peer 0 []) found)) (0, None) in
    summed_from pair.0 pair.1 (map (λ col. rows_worth cols col t found) all_cols)
    (map (λ col. worth_of cols own col t) all_cols) t own (tally t (map (of_peer 0 []) found))
    tallied (tally_some t own (tally t (map (of_peer 0 []) found)) tallied some)
    (worths_shown table key cols t found own (sym is))

met_own : (b : Bool) (own found : Rows) → Some found ≡ cond b (if_any own) None
    → (own ≡ found) × (own ≢ [])
met_own true [] found is = cc
met_own true (row ∷ own) found is = (cc, λ none. cc)
met_own false own found is = cc

-- what holds at each place holds of all
pub each_place : (P : List ℕ × PeerRows → Type 0) (keys : Keys)
    → ((i : ℕ) (e : List ℕ × PeerRows) → slice_get keys i ≡ Some e → P e) → AllByRecursion P keys
each_place P [] each = tt
each_place P (e ∷ keys) each = (each zero e refl, each_place P keys (λ i. each (suc i)))

paired : (cols : List (Col × ℕ)) (t : ℕ) (sum : List ℕ → Option Summed) (keys : Keys)
    → AllByRecursion (λ e. Some (sums_of cols t e.1) ≡ sum e.0) keys
    → map shown_row (summed_up cols t keys) ≡ map (λ key. (key, sum key)) (maps.keys_of keys)
paired cols t sum [] each = refl
paired cols t sum (e ∷ keys) each = λ i. (e.0, each.0 i) ∷ paired cols t sum keys each.1 i

-- ---- the keys that are chosen are those that hold
pub is_some-mapped : {X Y : Type 0} (f : X → Y) (o : Option X)
    → is_some o ≡ is_some (option_map f o)
is_some-mapped f None = refl
is_some-mapped f (Some x) = refl

met_holds : (own : Rows) (t : ℕ) (b : Bool) → has_live own t ≡ not (length own == 0)
    → is_some (cond b (if_any own) None) ≡ (has_live own t && b)
met_holds [] t true live = refl
met_holds [] t false live = refl
met_holds (row ∷ own) t b live = by b (live ∙ some)
  where
    some : not (length (row ∷ own) == 0) ≡ true
    some = grind (arith, nat_tests)

    by : (b : Bool) → has_live (row ∷ own) t ≡ true
        → is_some (cond b (if_any (row ∷ own)) None) ≡ (has_live (row ∷ own) t && b)
    by true is = sym (ap (λ c. c && true) is)
    by false is = sym (ap (λ c. c && false) is)

module _ (state : State) (table : ℕ) (conds : List Cond) where
  abbrev pub filtering : Filter
  filtering = record { name = []; table = table; conds = conds }

  abbrev own_cols : List (Col × ℕ)
  own_cols = cols_of state.config.tables table

  module _ (keys : Keys)
      (met : AreMeeting state.rows table own_cols conds state.moment keys) where
    pub met_keys : IsStrictlySortedBy (slice_cmp nat_cmp) (maps.keys_of keys)
        → ((key : List ℕ) → has_live (key_rows state.rows table key) state.moment
        ≡ not (length (key_rows state.rows table key) == 0))
        → AreKeysOf (λ key. holds state filtering key state.moment) (maps.keys_of keys)
    met_keys up live = record {
      in_order = up;
      exact = λ key. sym (is_some-lookup (same_key key) keys)
          ∙ is_some-mapped (map (of_peer table key)) (maps.lookup (same_key key) keys)
          ∙ ap is_some (met.exact key)
          ∙ met_holds (key_rows state.rows table key) state.moment
          (meet_at own_cols (key_rows state.rows table key) conds state.moment) (live key);
    }

    pub met_sums : ((key : List ℕ) → summed state table key
        ≡ sum_of own_cols (key_rows state.rows table key) state.moment)
        → map shown_row (summed_up own_cols state.moment keys)
        ≡ map (λ key. (key, summed state table key)) (maps.keys_of keys)
    met_sums sums = paired own_cols state.moment (λ key. summed state table key) keys
        (each_place (λ e. Some (sums_of own_cols state.moment e.1) ≡ summed state table e.0) keys
        (λ i e is.
        let found : maps.lookup (same_key e.0) keys ≡ Some e.1 =
        lookup_from_place (eq_by_cmp_equiv nat_list_cmp_total) keys i e.0 e.1 met.once is in
        let own : Rows = key_rows state.rows table e.0 in
        let parts : (own ≡ map (of_peer table e.0) e.1) × (own ≢ []) =
        met_own (meet_at own_cols own conds state.moment) own (map (of_peer table e.0) e.1)
        (ap (option_map (map (of_peer table e.0))) (sym found) ∙ met.exact e.0) in
        sums_shown table e.0 own_cols state.moment e.1 own parts.0 parts.1 ∙ sym (sums e.0)))

  -- what is listed of the keys that hold
  pub where_held : map (λ key. (key, summed state table key)) (set_at state filtering state.moment)
      ≡ listed_where state table conds
  unfolding listed keys_of set_at
  where_held = map-filter (λ (key : List ℕ). (key, summed state table key))
      (λ row. meets own_cols state.rows table row.0 state.moment conds)
      (live_keys state.rows table state.moment)

  pub live_rows : (key : List ℕ) → AreLive state
      → AreLiveAt state.moment (key_rows state.rows table key)
  live_rows key live = all-filter (λ (row : Shown). is_live state.moment row.1 ≡ true)
      (λ row. is_live state.moment row.1 ≡ true) (λ row. is_at_key table key row.0)
      (λ row is alive. alive) state.rows live

  pub lists_where : (shown : List (List ℕ × Summed))
      → ListsMeeting state.rows table own_cols conds state.moment shown
      → ((key : List ℕ) → has_live (key_rows state.rows table key) state.moment
      ≡ not (length (key_rows state.rows table key) == 0))
      → ((key : List ℕ) → summed state table key
      ≡ sum_of own_cols (key_rows state.rows table key) state.moment)
      → (AreKeysOf (λ key. holds state filtering key state.moment)
      (set_at state filtering state.moment))
      → ((keys others : List (List ℕ))
      → AreKeysOf (λ key. holds state filtering key state.moment) keys
      → AreKeysOf (λ key. holds state filtering key state.moment) others → keys ≡ others)
      → map shown_row shown ≡ listed_where state table conds
  lists_where shown lists live sums is_one only =
      ap (map shown_row) lists.sums
      ∙ met_sums lists.keys lists.meeting sums
      ∙ ap (map (λ (key : List ℕ). (key, summed state table key)))
      (only (maps.keys_of lists.keys) (set_at state filtering state.moment)
      (met_keys lists.keys lists.meeting lists.in_order live) is_one)
      ∙ where_held

-- no condition keeps every row
pub all_where : (state : State) (table : ℕ) → listed_where state table [] ≡ listed state table
unfolding meets
all_where state table = all (listed state table)
  where
    all : (rows : List (List ℕ × Option Summed)) → filter (λ row. true) rows ≡ rows
    all [] = refl
    all (row ∷ rows) = ap (λ more. row ∷ more) (all rows)

-- ---- what a store lends
pub each_shown : (table : ℕ) (rows : RowMap) (walk : Keys) → IsEachKey (peers_of rows table) walk
    → IsEachKeyOf (arrivals rows.entries) table walk
each_shown table rows walk each = record {
  once = each.once;
  exact = λ key. ap (option_map (map (of_peer table key))) (each.exact key)
      ∙ if_any-map (of_peer table key) (peers_of rows table key)
      ∙ ap if_any (peers_shown table key rows.entries);
}

pub no_keys : (peers tables table : ℕ) (es : List (RowKey × Row)) → tables ≤ table
    → AllByRecursion (λ e. IsInside peers tables e.0) es → IsEachKeyOf (arrivals es) table []
unfolding IsDistinct
no_keys peers tables table es outside inside = record {
  once = tt;
  exact = λ key. sym (ap if_any (no_rows peers tables table key es outside inside));
}
