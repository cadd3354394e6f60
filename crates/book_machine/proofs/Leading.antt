-- Bounds that hold as rows come and go, and as the clock goes on.
use Rattle.std.proofs.Common.{◌≡◌, ◌≢◌, ℕ, ◌+◌, ◌-◌, ◌<◌, ◌≤◌, Bool, true, false, cond, ◌&&◌, ◌==◌}
use Rattle.std.proofs.Common.{not, List, [], ◌∷◌, Option, None, Some, length, get_or, refl, sym, ap}
use Rattle.std.proofs.Common.{◌∙◌, subst, arith, eq-eqb, Ok, Err}
use Rattle.std.specs.Prelude.{Result, OnErr, OnOk, filter}
use Rattle.std.proofs.lemmas.Bool.{eqb-true, false≢true}
use Rattle.std.proofs.lemmas.Bool.Decides.{nat_tests}
use Rattle.std.proofs.lemmas.List.{get_or_default}
use Rattle.std.proofs.lemmas.List.Folds.{list_any_at}
use Rattle.std.specs.List.{list_any}
use Rattle.std.specs.Option.{IsSomeAnd}
use Rattle.agg_types.specs.declared.config.Rank.{Rank}
use Rattle.agg_types.specs.declared.config.Shape.{Shape}
use Rattle.agg_types.specs.declared.column.Col.{Col}
use Rattle.agg_types.specs.declared.row_key.RowKey.{RowKey}
use Rattle.fleet_model.specs.Keys.{AreInOrder, Rows, key_rows, one_if, worth_of}
use Rattle.fleet_model.specs.Machine.{with_row}
use Rattle.fleet_model.specs.Moments.{is_live}
use Rattle.fleet_model.specs.Ranking.{no_rank}
use Rattle.fleet_model.specs.Values.{cols_of, same_key, value}
use Rattle.fleet_model.specs.declared.arrival.Arrival.{Arrival}
use Rattle.fleet_model.proofs.Falls.{lived_before, value-later, value_falls}
use Rattle.fleet_model.proofs.KeyRows.{clear-each, moment-each, put-others, value-rows}
use Rattle.ranked.specs.Bounds.{AreOthersKept, IsBounded, bound_at}
use Rattle.ranked.specs.Leaders.{IsOneKeyOf, bounds_of}
use Rattle.book_machine.specs.Foreseen.{living_of}
use Rattle.book_machine.specs.Leading.{AreLed, IsKeyDropped, IsLed, Lists, StaysLed, rank_at}
use Rattle.book_frame.proofs.Chosen.{same_key-decides}

abbrev Bounds : Type 0
Bounds = List (List ℕ × ℕ)

pub rank_is : (ranks : List Rank) (list : ℕ) (item : Rank) → item ≡ get_or ranks list item
    → list < length ranks → rank_at ranks list ≡ item
rank_is ranks list item is inside = get_or_default ranks list no_rank item inside ∙ sym is

-- ---- one list
weaker : (found : Option ℕ) (bound least : ℕ) → least ≤ bound
    → IsSomeAnd found (λ kept. bound ≤ kept) → IsSomeAnd found (λ kept. least ≤ kept)
weaker None bound least less holds = holds
weaker (Some kept) bound least less holds = omega arith

same_bound : (old new : Bounds) (key : List ℕ) (least : ℕ) → bound_at new key ≡ bound_at old key
    → IsBounded old key least → IsBounded new key least
same_bound old new key least same bounded =
    subst (λ (found : Option ℕ). IsSomeAnd found (λ kept. least ≤ kept)) (sym same) bounded

worth : List Shape → Rank → Rows → ℕ → ℕ
worth tables rank rows t = worth_of (cols_of tables rank.table) rows rank.col t

-- a key whose rows and bound stay
pub stays : (tables : List Shape) (rows later : Rows) (t : ℕ) (rank : Rank) (old new : Bounds)
    (key : List ℕ) → IsLed tables rows t rank old
    → key_rows later rank.table key ≡ key_rows rows rank.table key
    → bound_at new key ≡ bound_at old key → 0 < living_of (key_rows later rank.table key) t
    → IsBounded new key (worth_of (cols_of tables rank.table)
    (key_rows later rank.table key) rank.col t)
stays tables rows later t rank old new key led same bound alive =
    let was : 0 < living_of (key_rows rows rank.table key) t =
    subst (λ (own : Rows). 0 < living_of own t) same alive in
    subst (λ (own : Rows). IsBounded new key (worth_of (cols_of tables rank.table) own rank.col t))
    (sym same)
    (same_bound old new key (worth_of (cols_of tables rank.table) (key_rows rows rank.table key)
    rank.col t) bound (led key was))

-- a key's bound was made at least its value, and other keys' rows stay
touched_at : (tables : List Shape) (rows later : Rows) (t : ℕ) (rank : Rank) (old new : Bounds)
    (key : List ℕ) (bound : ℕ) → IsLed tables rows t rank old → AreOthersKept key old new
    → IsBounded new key bound
    → worth_of (cols_of tables rank.table) (key_rows later rank.table key) rank.col t ≤ bound
    → ((other : List ℕ) → same_key key other ≡ false → key_rows later rank.table other
    ≡ key_rows rows rank.table other)
    → (other : List ℕ) (same : Bool) → same_key key other ≡ same
    → 0 < living_of (key_rows later rank.table other) t
    → IsBounded new other (worth_of (cols_of tables rank.table)
    (key_rows later rank.table other) rank.col t)
touched_at tables rows later t rank old new key bound led others holds within apart other
    true e alive =
    subst (λ (k : List ℕ). IsBounded new k
    (worth_of (cols_of tables rank.table) (key_rows later rank.table k) rank.col t))
    ((same_key-decides key other).0 e)
    (weaker (bound_at new key) bound
    (worth_of (cols_of tables rank.table) (key_rows later rank.table key) rank.col t) within
    holds)
touched_at tables rows later t rank old new key bound led others holds within apart other
    false e alive =
    stays tables rows later t rank old new other led (apart other e) (others other e) alive

pub touched_led : (tables : List Shape) (rows later : Rows) (t : ℕ) (rank : Rank) (old new : Bounds)
    (key : List ℕ) (bound : ℕ) → IsLed tables rows t rank old → AreOthersKept key old new
    → IsBounded new key bound
    → worth_of (cols_of tables rank.table) (key_rows later rank.table key) rank.col t ≤ bound
    → ((other : List ℕ) → same_key key other ≡ false → key_rows later rank.table other
    ≡ key_rows rows rank.table other)
    → IsLed tables later t rank new
touched_led tables rows later t rank old new key bound led others holds within apart =
    λ other alive. touched_at tables rows later t rank old new key bound led others holds within
    apart other (same_key key other) refl alive

pub same_led : (tables : List Shape) (rows later : Rows) (t : ℕ) (rank : Rank) (bounds : Bounds)
    → IsLed tables rows t rank bounds
    → ((other : List ℕ) → key_rows later rank.table other ≡ key_rows rows rank.table other)
    → IsLed tables later t rank bounds
same_led tables rows later t rank bounds led same =
    λ other alive. stays tables rows later t rank bounds bounds other led (same other) refl alive

-- ---- all lists
-- of a list, or of all others
pub other_list : (P : ℕ → Type 0) (list : ℕ) → P list → ((other : ℕ) → other ≢ list → P other)
    → (other : ℕ) → P other
other_list P list own rest other = by (other == list) refl
  where
    by : (same : Bool) → (other == list) ≡ same → P other
    by true e = subst P (sym (eqb-true other list e)) own
    by false e = rest other (λ is. false≢true (sym e ∙ grind (arith, nat_tests)))

-- a touch of a key at least as high as it is worth
pub touched_stands : (tables : List Shape) (ranks : List Rank) (rows : Rows) (t list : ℕ)
    (key : List ℕ) (bound : ℕ) (old new : Lists) → AreLed tables ranks rows t old
    → IsOneKeyOf list key old new → IsBounded (bounds_of new list) key bound
    → worth_of (cols_of tables (rank_at ranks list).table)
    (key_rows rows (rank_at ranks list).table key) (rank_at ranks list).col t ≤ bound
    → AreLed tables ranks rows t new
touched_stands tables ranks rows t list key bound old new led one holds within = record {
  count = one.count ∙ led.count;
  each = other_list (λ (other : ℕ). other < length ranks
      → IsLed tables rows t (rank_at ranks other) (bounds_of new other)) list
      (λ inside. touched_led tables rows rows t (rank_at ranks list) (bounds_of old list)
      (bounds_of new list) key bound (led.each list inside) one.keys holds within
      (λ other apart. refl))
      (λ other apart inside. subst (IsLed tables rows t (rank_at ranks other))
      (sym (one.lists other apart)) (led.each other inside));
}

-- so the rows that are to come are led in one list more
pub touched_more : (tables : List Shape) (ranks : List Rank) (rows later : Rows) (t list : ℕ)
    (key : List ℕ) (bound : ℕ) (old new : Lists) → list < length ranks
    → AreLed tables ranks rows t old → IsOneKeyOf list key old new
    → IsBounded (bounds_of new list) key bound
    → worth_of (cols_of tables (rank_at ranks list).table)
    (key_rows later (rank_at ranks list).table key) (rank_at ranks list).col t ≤ bound
    → ((other : List ℕ) → same_key key other ≡ false
    → key_rows later (rank_at ranks list).table other
    ≡ key_rows rows (rank_at ranks list).table other)
    → ((other : ℕ) → other < list → IsLed tables later t (rank_at ranks other)
    (bounds_of old other))
    → (other : ℕ) → other < list + 1
    → IsLed tables later t (rank_at ranks other) (bounds_of new other)
touched_more tables ranks rows later t list key bound old new inside led one holds within
    apart before =
    other_list (λ (other : ℕ). other < list + 1
    → IsLed tables later t (rank_at ranks other) (bounds_of new other)) list
    (λ _. touched_led tables rows later t (rank_at ranks list) (bounds_of old list)
    (bounds_of new list) key bound (led.each list inside) one.keys holds within apart)
    (λ other differs up. subst (IsLed tables later t (rank_at ranks other))
    (sym (one.lists other differs)) (before other (omega arith)))

-- a list of another table
pub passed_more : (tables : List Shape) (ranks : List Rank) (rows later : Rows) (t list : ℕ)
    (lists : Lists) → list < length ranks → AreLed tables ranks rows t lists
    → ((other : List ℕ) → key_rows later (rank_at ranks list).table other
    ≡ key_rows rows (rank_at ranks list).table other)
    → ((other : ℕ) → other < list → IsLed tables later t (rank_at ranks other)
    (bounds_of lists other))
    → (other : ℕ) → other < list + 1
    → IsLed tables later t (rank_at ranks other) (bounds_of lists other)
passed_more tables ranks rows later t list lists inside led same before =
    other_list (λ (other : ℕ). other < list + 1
    → IsLed tables later t (rank_at ranks other) (bounds_of lists other)) list
    (λ _. same_led tables rows later t (rank_at ranks list) (bounds_of lists list)
    (led.each list inside) same)
    (λ other differs up. before other (omega arith))

-- what a key is worth by a list's column, where the list is of its table
pub rank_worth : (tables : List Shape) (later : List (Col × ℕ) → Rows) (t : ℕ) (rank item : Rank)
    (cols : List (Col × ℕ)) (table : ℕ) (key : List ℕ) (bound : ℕ) → rank ≡ item
    → item.table ≡ table → cols ≡ cols_of tables table
    → worth_of cols (key_rows (later cols) table key) item.col t ≤ bound
    → worth_of (cols_of tables rank.table) (key_rows (later (cols_of tables table)) rank.table key)
    rank.col t ≤ bound
rank_worth tables later t rank item cols table key bound is here are less =
    let rows : Rows = later (cols_of tables table) in
    let of_table : worth_of (cols_of tables table) (key_rows rows table key) item.col t ≤ bound =
    subst (λ (cs : List (Col × ℕ)). worth_of cs (key_rows (later cs) table key) item.col t ≤
    bound) are less in
    let of_item : worth_of (cols_of tables item.table) (key_rows rows item.table key) item.col t ≤
    bound = subst (λ (n : ℕ). worth_of (cols_of tables n) (key_rows rows n key) item.col t ≤
    bound) (sym here) of_table in
    subst (λ (r : Rank). worth_of (cols_of tables r.table) (key_rows rows r.table key) r.col t ≤
    bound) (sym is) of_item

and_none : (b : Bool) → b && false ≡ false
and_none true = refl
and_none false = refl

-- a row that arrives changes no other key's rows
pub apart_rows : (rows : Rows) (t : ℕ) (place : RowKey) (row : Arrival) (table : ℕ) (other : List ℕ)
    → AreInOrder rows → same_key place.key other ≡ false
    → key_rows (with_row t rows place row) table other ≡ key_rows rows table other
apart_rows rows t place row table other ordered apart =
    put-others t rows place row table other ordered (by (same_key other place.key) refl)
  where
    by : (b : Bool) → same_key other place.key ≡ b
        → (place.table == table) && same_key other place.key ≡ false
    by true e = absurd (false≢true (sym apart
        ∙ (same_key-decides place.key other).1 (sym ((same_key-decides other place.key).0 e))))
    by false e = ap (λ (b : Bool). (place.table == table) && b) e ∙ and_none (place.table == table)

-- nor any rows of another table
pub elsewhere_rows : (rows : Rows) (t : ℕ) (place : RowKey) (row : Arrival) (rank item : Rank)
    (other : List ℕ) → AreInOrder rows → rank ≡ item → item.table ≢ place.table
    → key_rows (with_row t rows place row) rank.table other ≡ key_rows rows rank.table other
elsewhere_rows rows t place row rank item other ordered is apart =
    put-others t rows place row rank.table other ordered (by (place.table == rank.table) refl)
  where
    by : (b : Bool) → (place.table == rank.table) ≡ b → (place.table == rank.table)
        && same_key other place.key ≡ false
    by true e = absurd (apart (sym (eqb-true place.table rank.table e
        ∙ ap (λ (r : Rank). r.table) is)))
    by false e = ap (λ (b : Bool). b && same_key other place.key) e

-- ---- a key's bounds dropped
-- a table that no list is of
unranked : (table : ℕ) (ranks : List Rank) (list : ℕ)
    → list_any (λ (r : Rank). r.table == table) ranks ≡ false → list < length ranks
    → (rank_at ranks list).table ≢ table
unranked table ranks list none inside = λ same. false≢true (sym none
    ∙ list_any_at (λ (r : Rank). r.table == table) ranks list no_rank inside (eq-eqb _ _ same))

-- a row of it needs no bound
pub unranked_led : (tables : List Shape) (ranks : List Rank) (rows : Rows) (t : ℕ) (place : RowKey)
    (row : Arrival) (lists : Lists) → AreInOrder rows
    → list_any (λ (r : Rank). r.table == place.table) ranks ≡ false
    → AreLed tables ranks rows t lists
    → AreLed tables ranks (with_row t rows place row) t lists
unranked_led tables ranks rows t place row lists ordered none led = record {
  count = led.count;
  each = λ list inside. same_led tables rows (with_row t rows place row) t (rank_at ranks list)
      (bounds_of lists list) (led.each list inside)
      (λ other. elsewhere_rows rows t place row (rank_at ranks list) (rank_at ranks list) other
      ordered refl (unranked place.table ranks list none inside));
}

pub none_alive : {C : Type 0} (n : ℕ) → n ≡ 0 → 0 < n → C
none_alive n none some = absurd (omega arith)

pub dropped_more : (ranks : List Rank) (table : ℕ) (key : List ℕ) (list : ℕ) (old mid new : Lists)
    → IsKeyDropped ranks table key old mid → IsOneKeyOf list key mid new
    → (rank_at ranks list).table ≡ table → IsKeyDropped ranks table key old new
dropped_more ranks table key list old mid new so_far one here = record {
  count = one.count ∙ so_far.count;
  others = other_list (λ (other : ℕ). (k : List ℕ) → ((rank_at ranks other).table == table)
      && same_key key k ≡ false → bound_at (bounds_of new other) k
      ≡ bound_at (bounds_of old other) k) list
      (λ k apart. one.keys k (own_apart (rank_at ranks list).table table (same_key key k) here
      apart) ∙ so_far.others list k apart)
      (λ other differs k apart. ap (λ (bounds : Bounds). bound_at bounds k)
      (one.lists other differs) ∙ so_far.others other k apart);
}
  where
    own_apart : (n m : ℕ) (b : Bool) → n ≡ m → (n == m) && b ≡ false → b ≡ false
    own_apart n m false same apart = refl
    own_apart n m true same apart =
        absurd (false≢true (sym apart ∙ ap (λ (e : Bool). e && true) (eq-eqb n m same)))

pub dropped_gone : (tables : List Shape) (ranks : List Rank) (rows : Rows) (t table : ℕ)
    (key : List ℕ) (old new : Lists) → AreLed tables ranks rows t old
    → IsKeyDropped ranks table key old new → living_of (key_rows rows table key) t ≡ 0
    → AreLed tables ranks rows t new
dropped_gone tables ranks rows t table key old new led dropped gone = record {
  count = dropped.count ∙ led.count;
  each = λ list inside other alive. by list inside other ((rank_at ranks list).table == table)
      (same_key key other) refl refl alive;
}
  where
    by : (list : ℕ) → list < length ranks → (other : List ℕ) (here same : Bool)
        → ((rank_at ranks list).table == table) ≡ here → same_key key other ≡ same
        → 0 < living_of (key_rows rows (rank_at ranks list).table other) t
        → IsBounded (bounds_of new list) other (worth_of (cols_of tables (rank_at ranks list).table)
        (key_rows rows (rank_at ranks list).table other) (rank_at ranks list).col t)
    by list inside other true true e f alive =
        none_alive (living_of (key_rows rows (rank_at ranks list).table other) t)
        (ap (λ (n : ℕ). living_of (key_rows rows n other) t)
        (eqb-true (rank_at ranks list).table table e)
        ∙ ap (λ (k : List ℕ). living_of (key_rows rows table k) t)
        (sym ((same_key-decides key other).0 f)) ∙ gone) alive
    by list inside other true false e f alive =
        stays tables rows rows t (rank_at ranks list) (bounds_of old list) (bounds_of new list)
        other (led.each list inside) refl (dropped.others list other (λ i. e i && f i)) alive
    by list inside other false same e f alive =
        stays tables rows rows t (rank_at ranks list) (bounds_of old list) (bounds_of new list)
        other (led.each list inside) refl (dropped.others list other (λ i. e i && f i)) alive

-- with its rows
pub dropped_cleared : (tables : List Shape) (ranks : List Rank) (rows later : Rows) (t table : ℕ)
    (key : List ℕ) (old new : Lists) → AreLed tables ranks rows t old
    → IsKeyDropped ranks table key old new
    → later ≡ filter (λ row. not ((row.0.table == table) && same_key key row.0.key)) rows
    → AreLed tables ranks later t new
dropped_cleared tables ranks rows later t table key old new led dropped cleared = record {
  count = dropped.count ∙ led.count;
  each = λ list inside other alive. by list inside other (((rank_at ranks list).table == table)
      && same_key key other) refl alive;
}
  where
    own : (n : ℕ) (other : List ℕ)
        → key_rows later n other ≡ cond ((n == table) && same_key key other) []
        (key_rows rows n other)
    own n other = ap (λ (rs : Rows). key_rows rs n other) cleared
        ∙ clear-each (same_key key) rows table n other

    by : (list : ℕ) → list < length ranks → (other : List ℕ) (gone : Bool)
        → ((rank_at ranks list).table == table) && same_key key other ≡ gone
        → 0 < living_of (key_rows later (rank_at ranks list).table other) t
        → IsBounded (bounds_of new list) other (worth_of (cols_of tables (rank_at ranks list).table)
        (key_rows later (rank_at ranks list).table other) (rank_at ranks list).col t)
    by list inside other true e alive =
        none_alive (living_of (key_rows later (rank_at ranks list).table other) t)
        (ap (λ (rs : Rows). living_of rs t) (own (rank_at ranks list).table other
        ∙ ap (λ b. cond b [] (key_rows rows (rank_at ranks list).table other)) e)) alive
    by list inside other false e alive =
        stays tables rows later t (rank_at ranks list) (bounds_of old list) (bounds_of new list)
        other (led.each list inside)
        (own (rank_at ranks list).table other
        ∙ ap (λ b. cond b [] (key_rows rows (rank_at ranks list).table other)) e)
        (dropped.others list other e) alive

-- ---- the clock goes on
one_less : (from t : ℕ) → from ≤ t → (row : Arrival) (rest all : ℕ) → rest ≤ all
    → is_live t row ≡ true → one_if (is_live t row) + rest ≤ one_if (is_live from row) + all
one_less from t later row rest all less lives =
    rw (lives, lived_before row.life row.arrived from t later lives) (omega arith)

living_less : (from t : ℕ) → from ≤ t → (rows : Rows)
    → living_of (filter (λ row. is_live t row.1) rows) t ≤ living_of rows from
living_less from t later [] = omega arith
living_less from t later (row ∷ rows) = by (living_less from t later rows) (is_live t row.1) refl
  where
    by : living_of (filter (λ row. is_live t row.1) rows) t ≤ living_of rows from → (b : Bool)
        → is_live t row.1 ≡ b → living_of (cond b (row ∷ filter (λ row. is_live t row.1) rows)
        (filter (λ row. is_live t row.1) rows)) t ≤ one_if (is_live from row.1) +
        living_of rows from
    by rest true e = one_less from t later row.1 (living_of (filter (λ row. is_live t row.1) rows)
        t) (living_of rows from) rest e
    by rest false e = omega arith

worth_less : (cols : List (Col × ℕ)) (rows : Rows) (table : ℕ) (key : List ℕ) (col : Col)
    (from t : ℕ) → from ≤ t
    → worth_of cols (key_rows (filter (λ row. is_live t row.1) rows) table key) col t ≤ worth_of
    cols (key_rows rows table key) col from
worth_less cols rows table key col from t later =
    let same : worth_of cols (key_rows (filter (λ row. is_live t row.1) rows) table key) col t
    ≡ value cols rows table key col t =
    sym (value-rows cols (filter (λ row. is_live t row.1) rows) table key col t)
    ∙ value-later cols rows table key col t t (omega arith) in
    let less : value cols rows table key col t ≤ value cols rows table key col from =
    value_falls cols rows table key col from t later in
    let was : value cols rows table key col from ≡ worth_of cols (key_rows rows table key) col
    from = value-rows cols rows table key col from in
    omega arith

pub later_led : (tables : List Shape) (ranks : List Rank) (rows later : Rows) (from t : ℕ)
    (lists : Lists) → from ≤ t → later ≡ filter (λ row. is_live t row.1) rows
    → AreLed tables ranks rows from lists → AreLed tables ranks later t lists
later_led tables ranks rows later from t lists up ended led =
    subst (λ (rs : Rows). AreLed tables ranks rs t lists) (sym ended) (record {
      count = led.count;
      each = λ list inside other alive. at list inside other alive;
    })
  where
    at : (list : ℕ) → list < length ranks → (other : List ℕ)
        → 0 < living_of (key_rows (filter (λ row. is_live t row.1) rows)
        (rank_at ranks list).table other) t
        → IsBounded (bounds_of lists list) other
        (worth_of (cols_of tables (rank_at ranks list).table)
        (key_rows (filter (λ row. is_live t row.1) rows) (rank_at ranks list).table other)
        (rank_at ranks list).col t)
    at list inside other alive =
        let rank = rank_at ranks list in
        let less : living_of (filter (λ row. is_live t row.1) (key_rows rows rank.table other)) t ≤
        living_of (key_rows rows rank.table other) from =
        living_less from t up (key_rows rows rank.table other) in
        let some : 0 < living_of (filter (λ row. is_live t row.1) (key_rows rows rank.table other))
        t = subst (λ (own : Rows). 0 < living_of own t) (moment-each t rows rank.table other)
        alive in
        weaker (bound_at (bounds_of lists list) other)
        (worth_of (cols_of tables rank.table) (key_rows rows rank.table other) rank.col from) _
        (worth_less (cols_of tables rank.table) rows rank.table other rank.col from t up)
        (led.each list inside other (omega arith))

-- ---- what calls promise
pub led_by : (tables : List Shape) (ranks seen : List Rank) (rows later : Rows) (t u : ℕ)
    (old new : Lists) → seen ≡ ranks → StaysLed seen rows t old later u new
    → AreLed tables ranks rows t old → AreLed tables ranks later u new
led_by tables ranks seen rows later t u old new same stays led =
    subst (λ (rs : List Rank). AreLed tables rs later u new) same
    (stays tables (subst (λ (rs : List Rank). AreLed tables rs rows t old) (sym same) led))

-- what holds before and after a call that may be refused
pub put_or_not : {T E S : Type 0} (P : S → Type 0) (result : Result T E) (before after new : S)
    → OnOk result (new ≡ after) → OnErr result (new ≡ before) → P before → P after → P new
put_or_not P (Ok u) before after new ok err was is = subst P (sym ok) is
put_or_not P (Err e) before after new ok err was is = subst P (sym err) was
