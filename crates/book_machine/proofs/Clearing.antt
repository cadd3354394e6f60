-- What clears leave: of a whole table, and of keys that are found in a walk of the rows.
use Rattle.std.proofs.Common.{◌≡◌, ◌≢◌, ℕ, ◌<◌, Bool, true, false, cond, ◌&&◌, ◌==◌, not, List, []}
use Rattle.std.proofs.Common.{◌∷◌, None, is_some, length, refl, sym, ap, ◌∙◌, ◌||◌, eq-eqb}
use Rattle.std.specs.Prelude.{filter, map}
use Rattle.std.specs.BTreeMap.{is_at}
use Rattle.std.specs.Cmp.{eq_by_cmp_equiv}
use Rattle.std.specs.Cmp.Lexicographic.{nat_list_cmp_total, slice_cmp}
use Rattle.std.specs.List.{AllByRecursion, list_any}
use Rattle.std.specs.List.Sorted.{IsPermutation}
use Rattle.std.specs.Map as maps
use Rattle.std.specs.Ordering.{nat_cmp}
use Rattle.std.proofs.lemmas.Bool.{false≢true}
use Rattle.std.proofs.lemmas.List.Sorted.{list_any-IsPermutation}
use Rattle.std.proofs.lemmas.Map.Made.{is_some-lookup}
use Rattle.agg_types.specs.declared.column.Col.{Col}
use Rattle.agg_types.specs.declared.config.Cond.{Cond}
use Rattle.agg_types.specs.declared.config.Rank.{Rank}
use Rattle.agg_types.specs.declared.config.Shape.{Shape}
use Rattle.agg_types.specs.declared.row_key.RowKey.{RowKey}
use Rattle.fleet_model.specs.Keys.{Rows, is_at_key, key_rows, meet_at, worth_of}
use Rattle.fleet_model.specs.Values.{cols_of, meets, same_key}
use Rattle.fleet_model.specs.declared.arrival.Arrival.{Arrival}
use Rattle.fleet_model.proofs.KeyRows.{clear-each}
use Rattle.ranked.specs.Bounds.{IsBounded, bound_at}
use Rattle.ranked.specs.Leaders.{bounds_of}
use Rattle.peer_rows.specs.Places.{Keys}
use Rattle.peer_rows.specs.Walk.{if_any}
use Rattle.book_frame.proofs.Chosen.{same_key-decides}
use Rattle.standing_filters.specs.Watched.{is_among}
use Rattle.book_machine.specs.Foreseen.{living_of}
use Rattle.book_machine.specs.Gone.{without_keys}
use Rattle.book_machine.specs.Leading.{AreLed, IsTableDropped, Lists, rank_at}
use Rattle.book_rows.specs.Listing.{AreMeeting, AreThoseMeeting, DoAllMeet, rows_meet}
use Rattle.book_rows.specs.Store.{IsEachKeyOf}
use Rattle.book_rows.specs.Shown.{of_peer}
use Rattle.book_machine.proofs.Leading.{none_alive, other_list, stays}
use Rattle.book_rows.proofs.KeysMeeting.{is_some-mapped, met_of_walk}
use Rattle.book_rows.proofs.Lists.{all-map, same_filters}
use Rattle.book_rows.proofs.Reading.{and_yes, each_filter}

-- ---- a table's bounds dropped
pub none_dropped : (ranks : List Rank) (table : ℕ) (lists : Lists)
    → IsTableDropped ranks table lists lists
none_dropped ranks table lists = record { count = refl; others = λ list apart. refl }

pub table_more : (ranks : List Rank) (table list : ℕ) (old mid new : Lists)
    → IsTableDropped ranks table old mid → length new ≡ length mid
    → ((other : ℕ) → other ≢ list → bounds_of new other ≡ bounds_of mid other)
    → (rank_at ranks list).table ≡ table → IsTableDropped ranks table old new
table_more ranks table list old mid new so_far count rest here = record {
  count = count ∙ so_far.count;
  others = other_list (λ (other : ℕ). (rank_at ranks other).table ≢ table
      → bounds_of new other ≡ bounds_of old other) list (λ apart. absurd (apart here))
      (λ other differs apart. rest other differs ∙ so_far.others other apart);
}

-- a whole table is gone where each of its keys is
pub table_gone : (table : ℕ) (rows : Rows) → filter (λ row. not (row.0.table == table)) rows
    ≡ filter (λ row. not ((row.0.table == table) && true)) rows
table_gone table rows = each_filter (λ (row : RowKey × Arrival). not (row.0.table == table))
    (λ row. not ((row.0.table == table) && true)) (λ row. ap not (and_yes (row.0.table == table)))
    rows

-- with its rows
pub table_cleared : (tables : List Shape) (ranks : List Rank) (rows later : Rows) (t table : ℕ)
    (old new : Lists) → AreLed tables ranks rows t old → IsTableDropped ranks table old new
    → later ≡ filter (λ row. not (row.0.table == table)) rows → AreLed tables ranks later t new
table_cleared tables ranks rows later t table old new led dropped cleared = record {
  count = dropped.count ∙ led.count;
  each = λ list inside other alive. by list inside other ((rank_at ranks list).table == table)
      refl alive;
}
  where
    own : (n : ℕ) (other : List ℕ)
        → key_rows later n other ≡ cond ((n == table) && true) [] (key_rows rows n other)
    own n other = ap (λ (rs : Rows). key_rows rs n other) (cleared ∙ table_gone table rows)
        ∙ clear-each (λ key. true) rows table n other

    by : (list : ℕ) → list < length ranks → (other : List ℕ) (here : Bool)
        → ((rank_at ranks list).table == table) ≡ here
        → 0 < living_of (key_rows later (rank_at ranks list).table other) t
        → IsBounded (bounds_of new list) other (worth_of (cols_of tables (rank_at ranks list).table)
        (key_rows later (rank_at ranks list).table other) (rank_at ranks list).col t)
    by list inside other true e alive =
        none_alive (living_of (key_rows later (rank_at ranks list).table other) t)
        (ap (λ (rs : Rows). living_of rs t) (own (rank_at ranks list).table other
        ∙ ap (λ b. cond (b && true) [] (key_rows rows (rank_at ranks list).table other)) e)) alive
    by list inside other false e alive =
        stays tables rows later t (rank_at ranks list) (bounds_of old list) (bounds_of new list)
        other (led.each list inside)
        (own (rank_at ranks list).table other
        ∙ ap (λ b. cond (b && true) [] (key_rows rows (rank_at ranks list).table other)) e)
        (ap (λ (bounds : List (List ℕ × ℕ)). bound_at bounds other) (dropped.others list
        (λ is. false≢true (sym e ∙ eq-eqb (rank_at ranks list).table table is)))) alive

-- ---- keys that were found in a walk
any_met : (b : Bool) (own : Rows) → own ≢ [] → is_some (cond b (if_any own) None) ≡ b
any_met b [] some = absurd (some refl)
any_met true (row ∷ own) some = refl
any_met false (row ∷ own) some = refl

any_turned : (key : List ℕ) (keys : List (List ℕ))
    → list_any (λ other. same_key other key) keys ≡ list_any (is_at (slice_cmp nat_cmp key)) keys
any_turned key [] = refl
any_turned key (other ∷ keys) = λ i.
    (eq_by_cmp_equiv nat_list_cmp_total).symm other key i || any_turned key keys i

pub those_of_met : (rows : Rows) (table : ℕ) (cols : List (Col × ℕ)) (conds : List Cond) (t : ℕ)
    (met : Keys) → ((key : List ℕ) → meets cols rows table key t conds
    ≡ meet_at cols (key_rows rows table key) conds t)
    → AreMeeting rows table cols conds t met
    → AreThoseMeeting rows table cols conds t (maps.keys_of met)
those_of_met rows table cols conds t met own are = λ key some.
    any_turned key (maps.keys_of met)
    ∙ sym (is_some-lookup (is_at (slice_cmp nat_cmp key)) met)
    ∙ is_some-mapped (map (of_peer table key)) (maps.lookup (is_at (slice_cmp nat_cmp key)) met)
    ∙ ap is_some (are.exact key)
    ∙ any_met (meet_at cols (key_rows rows table key) conds t) (key_rows rows table key) some
    ∙ sym (own key)

-- the order of the keys doesn't matter
pub those_moved : (rows : Rows) (table : ℕ) (cols : List (Col × ℕ)) (conds : List Cond) (t : ℕ)
    (keys others : List (List ℕ)) → AreThoseMeeting rows table cols conds t keys
    → IsPermutation keys others → AreThoseMeeting rows table cols conds t others
those_moved rows table cols conds t keys others those moved = λ key some.
    sym (list_any-IsPermutation (λ other. same_key other key) keys others moved) ∙ those key some

-- each row of a table is one of its key's
own_rows : (table : ℕ) (rows : Rows) → AllByRecursion (λ row. (row.0.table == table) ≡ true
    → key_rows rows table row.0.key ≢ []) rows
own_rows table [] = tt
own_rows table (row ∷ rows) = (
  λ here. first (is_at_key table row.0.key row.0) (key_rows rows table row.0.key)
      (λ i. here i && (same_key-decides row.0.key row.0.key).1 refl i),
  all-map (λ (other : RowKey × Arrival). (other.0.table == table) ≡ true
      → key_rows rows table other.0.key ≢ [])
      (λ other. (other.0.table == table) ≡ true → key_rows (row ∷ rows) table other.0.key ≢ [])
      (λ other some here none. some here (rest (is_at_key table other.0.key row.0)
      (key_rows rows table other.0.key) none)) rows (own_rows table rows),
)
  where
    first : (b : Bool) (own : Rows) → b ≡ true → cond b (row ∷ own) own ≢ []
    first true own is = λ none. cc
    first false own is = cc

    rest : (b : Bool) (own : Rows) → cond b (row ∷ own) own ≡ [] → own ≡ []
    rest true own none = cc
    rest false own none = none

-- rows that are taken away by their keys are those whose key meets the conditions
pub cleared_where : (rows : Rows) (table : ℕ) (cols : List (Col × ℕ)) (conds : List Cond) (t : ℕ)
    (keys : List (List ℕ)) → AreThoseMeeting rows table cols conds t keys
    → filter (λ row. not ((row.0.table == table) && list_any (λ key. same_key key row.0.key) keys))
    rows
    ≡ filter (λ row. not ((row.0.table == table) && meets cols rows table row.0.key t conds)) rows
cleared_where rows table cols conds t keys those = same_filters
    (λ row. not ((row.0.table == table) && list_any (λ key. same_key key row.0.key) keys))
    (λ row. not ((row.0.table == table) && meets cols rows table row.0.key t conds)) rows
    (all-map (λ (row : RowKey × Arrival). (row.0.table == table) ≡ true
    → key_rows rows table row.0.key ≢ [])
    (λ row. not ((row.0.table == table) && list_any (λ key. same_key key row.0.key) keys)
    ≡ not ((row.0.table == table) && meets cols rows table row.0.key t conds))
    (λ row some. by row (row.0.table == table) refl some) rows (own_rows table rows))
  where
    by : (row : RowKey × Arrival) (b : Bool) → (row.0.table == table) ≡ b
        → ((row.0.table == table) ≡ true → key_rows rows table row.0.key ≢ [])
        → not ((row.0.table == table) && list_any (λ key. same_key key row.0.key) keys)
        ≡ not ((row.0.table == table) && meets cols rows table row.0.key t conds)
    by row true here some = ap (λ b. not ((row.0.table == table) && b))
        (those row.0.key (some here))
    by row false here some = ap (λ b. not (b && list_any (λ key. same_key key row.0.key) keys)) here
        ∙ sym (ap (λ b. not (b && meets cols rows table row.0.key t conds)) here)

-- ---- a table all of whose keys meet the conditions
every : (walk : Keys) → filter (λ e. true) walk ≡ walk
every [] = refl
every (e ∷ walk) = ap (λ more. e ∷ more) (every walk)

-- a walk that conditions take nothing from is of keys that all meet them
pub all_of_walk : (rows : Rows) (table : ℕ) (cols : List (Col × ℕ)) (conds : List Cond) (t : ℕ)
    (walk : Keys) → ((some : List Cond) (key : List ℕ) → meets cols rows table key t some
    ≡ meet_at cols (key_rows rows table key) some t)
    → IsEachKeyOf rows table walk → filter (λ e. rows_meet cols conds t e.1) walk ≡ walk
    → DoAllMeet rows table cols conds t
all_of_walk rows table cols conds t walk own each all = λ key some.
    sym (those_of_met rows table cols conds t (filter (λ e. rows_meet cols conds t e.1) walk)
    (own conds) (met_of_walk rows table cols conds t walk each) key some)
    ∙ ap (λ (keys : Keys). list_any (λ other. same_key other key) (maps.keys_of keys))
    (all ∙ sym (every walk))
    ∙ those_of_met rows table cols [] t (filter (λ e. true) walk) (own [])
    (met_of_walk rows table cols [] t walk each) key some
    ∙ own [] key

-- so all rows of the table go
pub cleared_all : (rows : Rows) (table : ℕ) (cols : List (Col × ℕ)) (conds : List Cond) (t : ℕ)
    → DoAllMeet rows table cols conds t
    → filter (λ row. not (row.0.table == table)) rows
    ≡ filter (λ row. not ((row.0.table == table) && meets cols rows table row.0.key t conds)) rows
cleared_all rows table cols conds t all = same_filters
    (λ row. not (row.0.table == table))
    (λ row. not ((row.0.table == table) && meets cols rows table row.0.key t conds)) rows
    (all-map (λ (row : RowKey × Arrival). (row.0.table == table) ≡ true
    → key_rows rows table row.0.key ≢ [])
    (λ row. not (row.0.table == table)
    ≡ not ((row.0.table == table) && meets cols rows table row.0.key t conds))
    (λ row some. by row (row.0.table == table) refl some) rows (own_rows table rows))
  where
    by : (row : RowKey × Arrival) (b : Bool) → (row.0.table == table) ≡ b
        → ((row.0.table == table) ≡ true → key_rows rows table row.0.key ≢ [])
        → not (row.0.table == table)
        ≡ not ((row.0.table == table) && meets cols rows table row.0.key t conds)
    by row true here some = ap not (and_yes (row.0.table == table))
        ∙ ap (λ b. not ((row.0.table == table) && b)) (sym (all row.0.key (some here)))
    by row false here some = ap not here
        ∙ sym (ap (λ b. not (b && meets cols rows table row.0.key t conds)) here)

-- the same keys, asked the other way round
pub among_gone : (table : ℕ) (keys : List (List ℕ)) (rows : Rows)
    → filter (λ row. not ((row.0.table == table) && list_any (λ key. same_key key row.0.key) keys))
    rows
    ≡ without_keys table (is_among keys) rows
among_gone table keys rows = each_filter
    (λ (row : RowKey × Arrival). not ((row.0.table == table)
    && list_any (λ key. same_key key row.0.key) keys))
    (λ row. not ((row.0.table == table) && is_among keys row.0.key))
    (λ row. ap (λ b. not ((row.0.table == table) && b)) (any_turned row.0.key keys)) rows

-- one key alone
or_none : (b : Bool) → b ≡ (b || false)
or_none true = refl
or_none false = refl

pub one_gone : (table : ℕ) (key : List ℕ) (rows : Rows)
    → filter (λ row. not ((row.0.table == table) && same_key key row.0.key)) rows
    ≡ without_keys table (is_among (key ∷ [])) rows
one_gone table key rows = each_filter
    (λ (row : RowKey × Arrival). not ((row.0.table == table) && same_key key row.0.key))
    (λ row. not ((row.0.table == table) && is_among (key ∷ []) row.0.key))
    (λ row. ap (λ b. not ((row.0.table == table) && b))
    (or_none (same_key key row.0.key) ∙ any_turned row.0.key (key ∷ []))) rows
