-- The sums of the columns that a table stores; all others are nothing.
use Rattle.std.proofs.Common.{◌≡◌, ℕ, zero, suc, ◌+◌, ◌-◌, ◌<◌, ◌≤◌, ◌==◌, ◌||◌, Bool, true, false}
use Rattle.std.proofs.Common.{cond, List, [], ◌∷◌, ◌++◌, Some, get_or, length, take, refl, sym, ap}
use Rattle.std.proofs.Common.{◌∙◌, arith}
use Rattle.std.specs.Prelude.{map, slice_get, slice_set}
use Rattle.std.proofs.lemmas.List.{take_more}
use Rattle.std.specs.List.{fold, list_any, position_or_len}
use Rattle.std.proofs.lemmas.Bool.{eqb-true}
use Rattle.agg_types.specs.Col.{all_cols, col_id, place, same_col}
use Rattle.agg_types.specs.declared.column.Col.{Col}
use Rattle.agg_types.specs.declared.column.Col.TheVariants as named
use Rattle.agg_types.specs.declared.event.Cell.{Cell}
use Rattle.fleet_model.specs.Keys.{row_worth}
use Rattle.fleet_model.specs.Moments.{is_live}
use Rattle.fleet_model.specs.Values.{column_worth}
use Rattle.fleet_model.specs.declared.arrival.Arrival.{Arrival}
use Rattle.peer_rows.specs.declared.row.Row.{Row}
use Rattle.book_rows.specs.Shown.{as_arrival, rows_worth}

at_place : (col : Col) → slice_get all_cols (place col) ≡ Some col
at_place named.Gpc0 = refl
at_place col = refl

same_is : (a b : Col) → same_col a b ≡ true → a ≡ b
same_is a b is =
    let ids : col_id a ≡ col_id b = eqb-true (col_id a) (col_id b) is in
    let places : place a ≡ place b =
    ap (λ n. position_or_len (λ (c : Col). n == col_id c) all_cols) ids in
    let some : Some a ≡ Some b =
    sym (at_place a) ∙ ap (slice_get all_cols) places ∙ at_place b in
    cc

-- ---- values of columns, by place
put_at : (own : Col → ℕ) (value : ℕ) (col : Col) → slice_set (map own all_cols) (place col) value
    ≡ map (λ c. cond (same_col col c) value (own c)) all_cols
put_at own value named.Gpc0 = refl
put_at own value col = refl

-- the worth of a column that is among these, else nothing
abbrev pub among : (Col → ℕ) → List (Col × ℕ) → Col → ℕ
among worth stored c = cond (list_any (λ s. same_col s.0 c) stored) (worth c) 0

any_more : (p : Col × ℕ → Bool) (xs : List (Col × ℕ)) (x : Col × ℕ)
    → list_any p (xs ++ x ∷ []) ≡ (list_any p xs || p x)
any_more p [] x = by (p x)
  where
    by : (b : Bool) → b || false ≡ b
    by true = refl
    by false = refl
any_more p (y ∷ xs) x = ap (λ b. p y || b) (any_more p xs x) ∙ by (p y)
  where
    by : (b : Bool) → b || (list_any p xs || p x) ≡ ((b || list_any p xs) || p x)
    by true = refl
    by false = refl

one_more : (worth : Col → ℕ) (stored : List (Col × ℕ)) (col : Col × ℕ) (c : Col)
    → cond (same_col col.0 c) (worth col.0) (among worth stored c)
    ≡ among worth (stored ++ col ∷ []) c
one_more worth stored col c =
    by (list_any (λ s. same_col s.0 c) stored) (same_col col.0 c) refl
    ∙ ap (λ b. cond b (worth c) 0) (sym (any_more (λ s. same_col s.0 c) stored col))
  where
    by : (a b : Bool) → same_col col.0 c ≡ b
        → cond b (worth col.0) (cond a (worth c) 0) ≡ cond (a || b) (worth c) 0
    by true true is = ap worth (same_is col.0 c is)
    by false true is = ap worth (same_is col.0 c is)
    by true false is = refl
    by false false is = refl

put_more : (worth : Col → ℕ) (stored : List (Col × ℕ)) (col : Col × ℕ) (values : List ℕ)
    → values ≡ map (among worth stored) all_cols
    → slice_set values (place col.0) (worth col.0)
    ≡ map (among worth (stored ++ col ∷ [])) all_cols
put_more worth stored col values so_far =
    ap (λ (l : List ℕ). slice_set l (place col.0) (worth col.0)) so_far
    ∙ put_at (among worth stored) (worth col.0) col.0
    ∙ (λ i. map (λ c. one_more worth stored col c i) all_cols)

pub put_next : (worth : Col → ℕ) (stored : List (Col × ℕ)) (i : ℕ) (d : Col × ℕ)
    (values : List ℕ) (at value : ℕ) → i < length stored
    → values ≡ map (among worth (take i stored)) all_cols
    → at ≡ place (get_or stored i d).0 → value ≡ worth (get_or stored i d).0
    → slice_set values at value ≡ map (among worth (take (i + 1) stored)) all_cols
put_next worth stored i d values at value less so_far is_at is =
    rw (is_at, is) (put_more worth (take i stored) (get_or stored i d) values so_far
    ∙ ap (λ (l : List (Col × ℕ)). map (among worth l) all_cols) (sym (take_more stored i d less)))

take_whole : {X : Type 0} (xs : List X) (i : ℕ) → length xs ≤ i → take i xs ≡ xs
take_whole [] zero all = refl
take_whole [] (suc i) all = refl
take_whole (x ∷ xs) zero all = absurd (omega (arith, all))
take_whole (x ∷ xs) (suc i) all = ap (λ l. x ∷ l) (take_whole xs i (omega (arith, all)))

-- ---- a column that isn't stored
or_parts : (a b : Bool) → (a || b) ≡ false → (a ≡ false) × (b ≡ false)
or_parts true b is = cc
or_parts false b is = (refl, is)

nothing_stored : (c : Col) (since : ℕ) (cols : List (Col × ℕ)) (cells : List Cell)
    → list_any (λ s. same_col s.0 c) cols ≡ false → column_worth c since cols cells ≡ 0
nothing_stored c since [] cells none = refl
nothing_stored c since (s ∷ cols) [] none = refl
nothing_stored c since (s ∷ cols) (cell ∷ cells) none =
    let parts = or_parts (same_col s.0 c) (list_any (λ s. same_col s.0 c) cols) none in
    rw parts.0 (nothing_stored c since cols cells parts.1)

pub nothing_of_row : (cols : List (Col × ℕ)) (c : Col) (t : ℕ) (row : Arrival)
    → list_any (λ s. same_col s.0 c) cols ≡ false → row_worth cols c t row ≡ 0
nothing_of_row cols c t row none =
    ap (λ (n : ℕ). cond (is_live t row) n zero)
    (nothing_stored c (t - row.arrived) cols row.cells none)
    ∙ by (is_live t row)
  where
    by : (b : Bool) → cond b zero zero ≡ zero
    by true = refl
    by false = refl

sum_of_nothing : {X : Type 0} (f : X → ℕ) → ((x : X) → f x ≡ 0) → (n : ℕ) (xs : List X)
    → fold (λ n x. n + f x) n xs ≡ n
sum_of_nothing f none n [] = refl
sum_of_nothing f none n (x ∷ xs) =
    let zero_here = none x in
    ap (λ m. fold (λ n x. n + f x) m xs) (omega (arith, zero_here)) ∙ sum_of_nothing f none n xs

pub nothing_of_rows : (cols : List (Col × ℕ)) (t : ℕ) (rows : List (ℕ × Row)) (c : Col)
    → list_any (λ s. same_col s.0 c) cols ≡ false → rows_worth cols c t rows ≡ 0
nothing_of_rows cols t rows c none =
    sum_of_nothing (λ (p : ℕ × Row). row_worth cols c t (as_arrival p.1))
    (λ p. nothing_of_row cols c t (as_arrival p.1) none) 0 rows

-- ---- all columns, of which those that aren't stored are worth nothing
module _ (worth : Col → ℕ) (cols : List (Col × ℕ))
    (nothing : (c : Col) → list_any (λ s. same_col s.0 c) cols ≡ false → worth c ≡ 0) where
  worth_stored : (c : Col) → among worth cols c ≡ worth c
  worth_stored c = by (list_any (λ s. same_col s.0 c) cols) refl
    where
      by : (b : Bool) → list_any (λ s. same_col s.0 c) cols ≡ b → cond b (worth c) 0 ≡ worth c
      by true is = refl
      by false is = sym (nothing c is)

  -- where all stored columns have their values, all columns have
  pub all_done : (i : ℕ) (values : List ℕ) → length cols ≤ i
      → values ≡ map (among worth (take i cols)) all_cols → values ≡ map worth all_cols
  all_done i values all so_far =
      so_far
      ∙ ap (λ (l : List (Col × ℕ)). map (among worth l) all_cols) (take_whole cols i all)
      ∙ (λ i. map (λ c. worth_stored c i) all_cols)
