-- What rows that are read stand for.
use Rattle.std.proofs.Common.{◌≡◌, ℕ, suc, ◌||◌, not, is_some}
use Rattle.std.proofs.Common.{◌+◌, ◌<◌, ◌≤◌, ◌==◌, Bool, true, false, cond, ◌&&◌, List, []}
use Rattle.std.proofs.Common.{◌∷◌, Option, None, Some, length, refl, sym, ap, ◌∙◌, arith}
use Rattle.std.specs.Prelude.{filter, map, sum_by}
use Rattle.std.specs.Cmp.Lexicographic.{slice_cmp}
use Rattle.std.specs.BTreeMap.{is_at}
use Rattle.std.specs.Borrow.{Bor}
use Rattle.std.specs.List.{AllByRecursion, dedup, fold, list_any}
use Rattle.std.specs.Option.{option_copied, option_map}
use Rattle.fleet_model.specs.Answers.{left_of, longer, sum_up, tally}
use Rattle.fleet_model.specs.declared.summed.Summed.{Summed}
use Rattle.agg_types.specs.declared.column.Col.{Col}
use Rattle.fleet_model.specs.Moments.{is_live}
use Rattle.peer_rows.specs.Table.{Spot}
use Rattle.book_frame.proofs.Listings.{map-filter}
use Rattle.fleet_model.proofs.Entries.{equal_from}
use Rattle.book_rows.specs.Store.{InForce, IsWalk, row_keys}
use Rattle.std.specs.List.Sorted.{IsStrictlySortedBy}
use Rattle.std.specs.Map.{keys_of, lookup}
use Rattle.std.specs.Ordering.{nat_cmp, ordering_then}
use Rattle.std.specs.declared.cmp.Ordering.{Ordering}
use Rattle.std.specs.declared.cmp.Ordering.TheVariants.{Less, Equal}
use Rattle.std.proofs.lemmas.Bool.{and_parts, eqb-true}
use Rattle.std.proofs.lemmas.Bool.Decides.{nat_tests}
use Rattle.std.proofs.lemmas.List.Folds.{fold-map}
use Rattle.std.proofs.lemmas.Map.Lookups.{exact_bytes}
use Rattle.std.proofs.lemmas.Cmp.{nat_list_cmp_total, tied_itself}
use Rattle.agg_types.specs.RowKey.{row_key_cmp}
use Rattle.agg_types.specs.declared.row_key.RowKey.{RowKey}
use Rattle.agg_types.specs.Col.{all_cols}
use Rattle.fleet_model.specs.Keys.{key_rows, row_worth, worth_of}
use Rattle.fleet_model.specs.Values.{live_keys, same_key, same_place}
use Rattle.fleet_model.specs.declared.arrival.Arrival.{Arrival}
use Rattle.peer_rows.specs.Rows.{RowMap, in_table, of_table_key, peers_of}
use Rattle.peer_rows.specs.declared.row.Row.{Row}
use Rattle.book_rows.specs.Planned.{AreRows, IsInside}
use Rattle.book_rows.specs.Shown.{arrivals, as_arrival, of_peer, of_spot, rows_worth}
use Rattle.book_rows.specs.Shown.{view_of_row}
use Rattle.book_rows.proofs.Lists.{all-filter, all-map, same_filters, sorted-filter}

abbrev Entry : Type 0
Entry = RowKey × Row

-- ---- the rows of a key
pub eq_turned : (a b : ℕ) → (a == b) ≡ (b == a)
eq_turned a b = grind (arith, nat_tests)

at_key : (table : ℕ) (key : List ℕ) (place : RowKey) → of_table_key table key place ≡ true
    → record place { table = table; key = key } ≡ place
at_key table key place is =
    let parts = and_parts (table == place.table) (same_key key place.key) is in
    let tables : table ≡ place.table = eqb-true table place.table parts.0 in
    let keys : key ≡ place.key = exact_bytes key place.key
    (equal_from (slice_cmp nat_cmp key place.key) parts.1) in
    λ i. record place { table = tables i; key = keys i }

pub peers_shown : (table : ℕ) (key : List ℕ) (es : List Entry)
    → map (of_peer table key) (map (λ e. (e.0.peer, e.1))
    (filter (λ e. of_table_key table key e.0) es)) ≡ key_rows (arrivals es) table key
peers_shown table key [] = refl
peers_shown table key (e ∷ es) =
    by (of_table_key table key e.0) refl (peers_shown table key es)
    ∙ ap (λ b. cond b (view_of_row e ∷ key_rows (arrivals es) table key)
    (key_rows (arrivals es) table key))
    (ap (λ b. b && same_key key e.0.key) (eq_turned table e.0.table))
  where
    by : (b : Bool) → of_table_key table key e.0 ≡ b
        → map (of_peer table key) (map (λ e. (e.0.peer, e.1))
        (filter (λ e. of_table_key table key e.0) es)) ≡ key_rows (arrivals es) table key
        → map (of_peer table key) (map (λ e. (e.0.peer, e.1))
        (cond b (e ∷ filter (λ e. of_table_key table key e.0) es)
        (filter (λ e. of_table_key table key e.0) es)))
        ≡ cond b (view_of_row e ∷ key_rows (arrivals es) table key)
        (key_rows (arrivals es) table key)
    by true is more = λ i. (at_key table key e.0 is i, as_arrival e.1) ∷ more i
    by false is more = more

-- a table that isn't there has no rows
pub no_rows : (peers tables table : ℕ) (key : List ℕ) (es : List Entry) → tables ≤ table
    → AllByRecursion (λ e. IsInside peers tables e.0) es → key_rows (arrivals es) table key ≡ []
no_rows peers tables table key [] outside inside = refl
no_rows peers tables table key (e ∷ es) outside inside =
    let in_range : e.0.table < tables = inside.0.1 in
    let other : (e.0.table == table) ≡ false = grind (arith, nat_tests) in
    rw other (no_rows peers tables table key es outside inside.1)

-- ---- a key has at most one row of each peer
peers_rise : (table : ℕ) (key : List ℕ) (p q : RowKey) → of_table_key table key p ≡ true
    → of_table_key table key q ≡ true → row_key_cmp p q ≡ Less → p.peer < q.peer
peers_rise table key p q one two less =
    let ones = and_parts (table == p.table) (same_key key p.key) one in
    let twos = and_parts (table == q.table) (same_key key q.key) two in
    let tables : p.table ≡ q.table = sym (eqb-true table p.table ones.0)
    ∙ eqb-true table q.table twos.0 in
    let keys : p.key ≡ q.key = sym
    (exact_bytes key p.key (equal_from (slice_cmp nat_cmp key p.key) ones.1))
    ∙ exact_bytes key q.key (equal_from (slice_cmp nat_cmp key q.key) twos.1) in
    let first : nat_cmp p.table q.table ≡ Equal = grind (arith, nat_tests) in
    let second : slice_cmp nat_cmp p.key q.key ≡ Equal =
    rw keys (tied_itself nat_list_cmp_total q.key) in
    rising p.peer q.peer (sym (parts_less (nat_cmp p.table q.table) (slice_cmp nat_cmp p.key q.key)
    (nat_cmp p.peer q.peer) first second) ∙ less)
  where
    parts_less : (a b c : Ordering) → a ≡ Equal → b ≡ Equal
        → ordering_then a (ordering_then b c) ≡ c
    parts_less a b c one two = rw (one, two) refl

    rising : (a b : ℕ) → nat_cmp a b ≡ Less → a < b
    rising a b less = grind (arith, nat_tests)

few_behind : (n table : ℕ) (key : List ℕ) (e : Entry) (es : List Entry)
    → IsStrictlySortedBy row_key_cmp (keys_of (e ∷ es))
    → AllByRecursion (λ e. of_table_key table key e.0 ≡ true) (e ∷ es)
    → AllByRecursion (λ e. e.0.peer < n) (e ∷ es) → e.0.peer + length (e ∷ es) ≤ n
unfolding IsStrictlySortedBy
few_behind n table key e [] s at inside = let here : e.0.peer < n = inside.0 in omega arith
few_behind n table key e (f ∷ fs) s at inside =
    let rest : f.0.peer + length (f ∷ fs) ≤ n = few_behind n table key f fs s.1 at.1 inside.1 in
    let up : e.0.peer < f.0.peer = peers_rise table key e.0 f.0 at.0 at.1.0 s.0.0 in
    omega arith

few : (n table : ℕ) (key : List ℕ) (es : List Entry) → IsStrictlySortedBy row_key_cmp (keys_of es)
    → AllByRecursion (λ e. of_table_key table key e.0 ≡ true) es
    → AllByRecursion (λ e. e.0.peer < n) es → length es ≤ n
few n table key [] s at inside = omega arith
few n table key (e ∷ es) s at inside = let all : e.0.peer + length (e ∷ es) ≤ n =
    few_behind n table key e es s at inside in omega arith

all_of : (table : ℕ) (key : List ℕ) (es : List Entry) → AllByRecursion (λ (e : Entry). Unit {0}) es
all_of table key [] = tt
all_of table key (e ∷ es) = (tt, all_of table key es)

map_length : {X Y : Type 0} (f : X → Y) (xs : List X) → length (map f xs) ≡ length xs
map_length f [] = refl
map_length f (x ∷ xs) = ap suc (map_length f xs)

pub few_peers : (peers tables : ℕ) (rows : RowMap) (table : ℕ) (key : List ℕ)
    → AreRows peers tables rows → length (peers_of rows table key) ≤ peers
few_peers peers tables rows table key are =
    let own : List Entry = filter (λ e. of_table_key table key e.0) rows.entries in
    rw map_length (few peers table key own
    (sorted-filter row_key_cmp (λ e. of_table_key table key e.0) rows.entries are.ordered)
    (all-filter (λ e. Unit {0}) (λ e. of_table_key table key e.0 ≡ true)
    (λ e. of_table_key table key e.0) (λ e is any. is) rows.entries
    (all_of table key rows.entries))
    (all-filter (λ e. IsInside peers tables e.0) (λ e. e.0.peer < peers)
    (λ e. of_table_key table key e.0) (λ e is inside. inside.0) rows.entries are.inside))

-- ---- the rows of a table
at_table : (table : ℕ) (place : RowKey) → in_table table place ≡ true
    → record place { table = table } ≡ place
at_table table place is = λ i. record place { table = eqb-true table place.table is i }

pub spots_shown : (table : ℕ) (es : List Entry)
    → map (of_spot table) (map (λ e. ((e.0.key, e.0.peer), e.1))
    (filter (λ e. in_table table e.0) es)) ≡ filter (λ row. row.0.table == table) (arrivals es)
spots_shown table [] = refl
spots_shown table (e ∷ es) =
    by (in_table table e.0) refl (spots_shown table es)
    ∙ ap (λ b. cond b (view_of_row e ∷ filter (λ row. row.0.table == table) (arrivals es))
    (filter (λ row. row.0.table == table) (arrivals es))) (eq_turned table e.0.table)
  where
    by : (b : Bool) → in_table table e.0 ≡ b
        → map (of_spot table) (map (λ e. ((e.0.key, e.0.peer), e.1))
        (filter (λ e. in_table table e.0) es)) ≡ filter (λ row. row.0.table == table) (arrivals es)
        → map (of_spot table) (map (λ e. ((e.0.key, e.0.peer), e.1))
        (cond b (e ∷ filter (λ e. in_table table e.0) es)
        (filter (λ e. in_table table e.0) es)))
        ≡ cond b (view_of_row e ∷ filter (λ row. row.0.table == table) (arrivals es))
        (filter (λ row. row.0.table == table) (arrivals es))
    by true is more = λ i. (at_table table e.0 is i, as_arrival e.1) ∷ more i
    by false is more = more

pub no_spots : (peers tables table : ℕ) (es : List Entry) → tables ≤ table
    → AllByRecursion (λ e. IsInside peers tables e.0) es
    → filter (λ row. row.0.table == table) (arrivals es) ≡ []
no_spots peers tables table [] outside inside = refl
no_spots peers tables table (e ∷ es) outside inside =
    let in_range : e.0.table < tables = inside.0.1 in
    let other : (e.0.table == table) ≡ false = grind (arith, nat_tests) in
    rw other (no_spots peers tables table es outside inside.1)

-- ---- clears
pub each_filter : {X : Type 0} (p q : X → Bool) → ((x : X) → p x ≡ q x) → (xs : List X)
    → filter p xs ≡ filter q xs
each_filter p q same [] = refl
each_filter p q same (x ∷ xs) =
    rw (same x) (ap (λ ys. cond (q x) (x ∷ ys) ys) (each_filter p q same xs))

abbrev Shown : Type 0
Shown = RowKey × Arrival

pub cleared_shown : (table : ℕ) (key : List ℕ) (es : List Entry)
    → arrivals (filter (λ e. not (of_table_key table key e.0)) es)
    ≡ filter (λ row. not ((row.0.table == table) && same_key key row.0.key)) (arrivals es)
cleared_shown table key es =
    ap arrivals (each_filter (λ (e : Entry). not (of_table_key table key e.0))
    (λ e. not ((e.0.table == table) && same_key key e.0.key))
    (λ e. ap (λ b. not (b && same_key key e.0.key)) (eq_turned table e.0.table)) es)
    ∙ map-filter view_of_row (λ (row : Shown). not ((row.0.table == table) && same_key key
    row.0.key)) es

pub untouched : (peers tables table : ℕ) (key : List ℕ) (es : List Entry) → tables ≤ table
    → AllByRecursion (λ e. IsInside peers tables e.0) es
    → arrivals es ≡ filter (λ row. not ((row.0.table == table) && same_key key row.0.key))
    (arrivals es)
untouched peers tables table key [] outside inside = refl
untouched peers tables table key (e ∷ es) outside inside =
    let in_range : e.0.table < tables = inside.0.1 in
    let other : (e.0.table == table) ≡ false = grind (arith, nat_tests) in
    rw other (ap (λ rows. view_of_row e ∷ rows) (untouched peers tables table key es outside
    inside.1))

and_false : (b : Bool) → not (b && false) ≡ true
and_false true = refl
and_false false = refl

pub all_left : (table : ℕ) (rows : List Shown)
    → rows ≡ filter (λ row. not ((row.0.table == table)
    && list_any (λ key. same_key key row.0.key) [])) rows
all_left table [] = refl
all_left table (row ∷ rows) = rw (and_false (row.0.table == table))
    (ap (λ more. row ∷ more) (all_left table rows))

two_filters : {X : Type 0} (p q r : X → Bool) → ((x : X) → r x ≡ (q x && p x)) → (xs : List X)
    → filter p (filter q xs) ≡ filter r xs
two_filters p q r both [] = refl
two_filters p q r both (x ∷ xs) = by (q x) refl (two_filters p q r both xs)
  where
    by : (b : Bool) → q x ≡ b → filter p (filter q xs) ≡ filter r xs
        → filter p (cond b (x ∷ filter q xs) (filter q xs))
        ≡ cond (r x) (x ∷ filter r xs) (filter r xs)
    by true is more = rw (both x, is, more) refl
    by false is more = rw (both x, is) more

first_more : (t any same : Bool) → not (t && (same || any)) ≡ (not (t && same) && not (t && any))
first_more true any true = refl
first_more true any false = refl
first_more false any same = refl

-- a table's rows whose key is none of these
abbrev pub rest_left : ℕ → List (List ℕ) → InForce → InForce
rest_left table keys store = record store {
  rows =
      filter (λ row. not ((row.0.table == table) && list_any (λ key. same_key key row.0.key) keys))
      store.rows;
}

-- once a key's rows are gone, those of the keys behind it are left to go
pub cleared_more : (table : ℕ) (key : List ℕ) (keys left : List (List ℕ)) (first now new : InForce)
    → left ≡ key ∷ keys
    → rest_left table left now ≡ first
    → new ≡ record now {
      rows = filter
          (λ row. not ((row.0.table == table) && same_key key row.0.key)) now.rows;
    }
    → rest_left table keys new ≡ first
cleared_more table key keys left first now new split before after =
    ap (rest_left table keys) after
    ∙ ap (λ (rows : List Shown). record now { rows = rows })
    (two_filters (λ row. not ((row.0.table == table) && list_any (λ k. same_key k row.0.key) keys))
    (λ row. not ((row.0.table == table) && same_key key row.0.key))
    (λ row. not ((row.0.table == table) && list_any (λ k. same_key k row.0.key) (key ∷ keys)))
    (λ row. first_more (row.0.table == table) (list_any (λ k. same_key k row.0.key) keys)
    (same_key key row.0.key)) now.rows)
    ∙ sym (ap (λ ks. rest_left table ks now) split)
    ∙ before

pub none_more : (table : ℕ) (left : List (List ℕ)) (first now : InForce) → left ≡ []
    → rest_left table left now ≡ first → now ≡ first
none_more table left first now none before =
    ap (λ (rows : List Shown). record now { rows = rows }) (all_left table now.rows)
    ∙ sym (ap (λ ks. rest_left table ks now) none)
    ∙ before

pub and_yes : (b : Bool) → b ≡ (b && true)
and_yes true = refl
and_yes false = refl

-- ---- keys of the rows of a table
pub spot_keys : (table : ℕ) (rows : List (Spot × Row))
    → map (λ s. s.0.0) rows ≡ map (λ row. row.0.key) (map (of_spot table) rows)
spot_keys table [] = refl
spot_keys table (s ∷ rows) = ap (λ keys. s.0.0 ∷ keys) (spot_keys table rows)

live_spots : (table t : ℕ) (rows : List (Spot × Row))
    → map (λ s. s.0.0) (filter (λ s. is_live t (as_arrival s.1)) rows) ≡ map (λ row. row.0.key)
    (filter (λ row. is_live t row.1) (map (of_spot table) rows))
live_spots table t rows =
    spot_keys table (filter (λ s. is_live t (as_arrival s.1)) rows)
    ∙ ap (map (λ (row : Shown). row.0.key))
    (map-filter (of_spot table) (λ (row : Shown). is_live t row.1) rows)

pub live_from : (table t : ℕ) (rows : List (Spot × Row)) (all : List Shown)
    → map (of_spot table) rows ≡ filter (λ row. row.0.table == table) all
    → dedup same_key (map (λ s. s.0.0) (filter (λ s. is_live t (as_arrival s.1)) rows))
    ≡ live_keys all table t
unfolding live_keys
live_from table t rows all is =
    ap (dedup same_key) (live_spots table t rows
    ∙ ap (λ (rs : List Shown). map (λ (row : Shown). row.0.key)
    (filter (λ row. is_live t row.1) rs)) is
    ∙ ap (map (λ (row : Shown). row.0.key))
    (two_filters (λ row. is_live t row.1) (λ row. row.0.table == table)
    (λ row. (row.0.table == table) && is_live t row.1) (λ row. refl) all))

pub live_none : (table t : ℕ) (all : List Shown) → filter (λ row. row.0.table == table) all ≡ []
    → [] ≡ live_keys all table t
unfolding live_keys
live_none table t all none = live_from table t [] all (sym none)

-- ---- a tally reads no place
tally_rest : (t a b : ℕ) (k l : List ℕ) (left : Option ℕ) (rows : List (ℕ × Row))
    → fold (λ left other. longer left (left_of t other.1)) left (map (of_peer a k) rows)
    ≡ fold (λ left other. longer left (left_of t other.1)) left (map (of_peer b l) rows)
tally_rest t a b k l left [] = refl
tally_rest t a b k l left (p ∷ rows) =
    tally_rest t a b k l (longer left (left_of t (as_arrival p.1))) rows

pub tally_same : (t a b : ℕ) (k l : List ℕ) (rows : List (ℕ × Row))
    → tally t (map (of_peer a k) rows) ≡ tally t (map (of_peer b l) rows)
tally_same t a b k l [] = refl
tally_same t a b k l (p ∷ rows) =
    let many : length (map (of_peer a k) rows) ≡ length (map (of_peer b l) rows) =
    map_length (of_peer a k) rows ∙ sym (map_length (of_peer b l) rows) in
    let rest = tally_rest t a b k l (left_of t (as_arrival p.1)) rows in
    λ i. Some (many i + 1, rest i)

-- ---- what is found is there
pub is_some-copied : {X : Type 0} (found : Option (Bor X))
    → is_some found ≡ is_some (option_copied found)
is_some-copied None = refl
is_some-copied (Some x) = refl

pub found_shown : (place : RowKey) (es : List Entry) → is_some (lookup (is_at (row_key_cmp place))
    es) ≡ list_any (λ row. same_place place row.0) (arrivals es)
found_shown place [] = refl
found_shown place (e ∷ es) = by (same_place place e.0) (found_shown place es)
  where
    by : (b : Bool) → is_some (lookup (is_at (row_key_cmp place)) es)
        ≡ list_any (λ row. same_place place row.0) (arrivals es)
        → is_some (cond b (Some e.1) (lookup (is_at (row_key_cmp place)) es))
        ≡ (b || list_any (λ row. same_place place row.0) (arrivals es))
    by true more = refl
    by false more = more

pub summed_from : (peers : ℕ) (left : Option ℕ) (values worths : List ℕ) (t : ℕ) (rows : List Shown)
    (found : Option (ℕ × Option ℕ)) → found ≡ tally t rows → found ≡ Some (peers, left)
    → values ≡ worths → Some (record { peers = peers; left = left; values = values })
    ≡ sum_up worths t rows
summed_from peers left values worths t rows found is some same =
    let made : ℕ × Option ℕ → Summed =
    λ pair. record { peers = pair.0; left = pair.1; values = worths } in
    let with_values : List ℕ → Option Summed =
    λ vs. Some (record { peers = peers; left = left; values = vs }) in
    ap with_values same ∙ ap (option_map made) (sym some ∙ is)

-- ---- how many keys there are
map_map : {X Y Z : Type 0} (g : Y → Z) (f : X → Y) (xs : List X)
    → map (λ x. g (f x)) xs ≡ map g (map f xs)
map_map g f [] = refl
map_map g f (x ∷ xs) = ap (λ ys. g (f x) ∷ ys) (map_map g f xs)

pub keys_shown : (table : ℕ) (es : List Entry)
    → map (λ e. e.0.key) (filter (λ e. in_table table e.0) es) ≡ map (λ row. row.0.key)
    (filter (λ row. row.0.table == table) (arrivals es))
keys_shown table es =
    let own : List Entry = filter (λ e. in_table table e.0) es in
    let pair : Entry → Spot × Row = λ e. ((e.0.key, e.0.peer), e.1) in
    map_map (λ (s : Spot × Row). s.0.0) pair own
    ∙ spot_keys table (map pair own)
    ∙ ap (map (λ (row : Shown). row.0.key)) (spots_shown table es)

pub used_live : (table t : ℕ) (rows : List Shown) → AllByRecursion (λ row. is_live t row.1 ≡ true)
    rows → live_keys rows table t ≡ row_keys rows table
unfolding live_keys
used_live table t rows live =
    ap (λ (rs : List Shown). dedup same_key (map (λ (row : Shown). row.0.key) rs))
    (same_filters (λ row. (row.0.table == table) && is_live t row.1)
    (λ row. row.0.table == table) rows
    (all-map (λ (row : Shown). is_live t row.1 ≡ true)
    (λ row. ((row.0.table == table) && is_live t row.1) ≡ (row.0.table == table))
    (λ row is. ap (λ b. (row.0.table == table) && b) is
    ∙ sym (and_yes (row.0.table == table))) rows live))

pub walk_none : (rows : List Shown) (table : ℕ) (found : Option (List (Spot × Row)))
    → IsWalk rows table found → found ≡ None → filter (λ row. row.0.table == table) rows ≡ []
walk_none rows table None walk is = walk
walk_none rows table (Some found) walk is = cc

pub walk_some : (rows : List Shown) (table : ℕ) (found : Option (List (Spot × Row)))
    (own : List (Spot × Row)) → IsWalk rows table found → found ≡ Some own
    → map (of_spot table) own ≡ filter (λ row. row.0.table == table) rows
walk_some rows table None own walk is = cc
walk_some rows table (Some found) own walk is = let same : found ≡ own = cc in rw (← same) walk

-- ---- what a key's rows sum up to

-- a sum over what a list is seen as
sum_by-map : {X Y : Type 0} (f : Y → ℕ) (view : X → Y) (xs : List X)
    → sum_by f (map view xs) ≡ sum_by (λ x. f (view x)) xs
sum_by-map f view xs = fold-map (λ n y. n + f y) view 0 xs

pub worth_shown : (table : ℕ) (key : List ℕ) (cols : List (Col × ℕ)) (col : Col) (t : ℕ)
    (rows : List (ℕ × Row)) → rows_worth cols col t rows
    ≡ worth_of cols (map (of_peer table key) rows) col t
worth_shown table key cols col t rows =
    sym (sum_by-map (λ (row : Shown). row_worth cols col t row.1) (of_peer table key) rows)

pub worths_shown : (table : ℕ) (key : List ℕ) (cols : List (Col × ℕ)) (t : ℕ)
    (rows : List (ℕ × Row)) (own : List Shown) → map (of_peer table key) rows ≡ own
    → map (λ col. rows_worth cols col t rows) all_cols
    ≡ map (λ col. worth_of cols own col t) all_cols
worths_shown table key cols t rows own is =
    λ i. map (λ col. (worth_shown table key cols col t rows
    ∙ ap (λ own. worth_of cols own col t) is) i) all_cols
