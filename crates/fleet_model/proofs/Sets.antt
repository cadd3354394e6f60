-- The keys of a table and of a filter.
use Rattle.std.proofs.Common.{◌≡◌, ℕ, Bool, true, false, cond, ◌&&◌, ◌||◌, ◌==◌, List, [], ◌∷◌, map}
use Rattle.std.proofs.Common.{T, refl, sym, ap, ◌∙◌, subst}
use Rattle.std.proofs.lemmas.Bool.{and_parts, eqb-true}
use Rattle.std.proofs.lemmas.Cmp.{nat_cmp_total, nat_list_cmp_total, tied_itself}
use Rattle.std.proofs.lemmas.List.Kept.{IsStrictlySortedBy-filter}
use Rattle.std.proofs.lemmas.Map.Lookups.{exact_bytes}
use Rattle.std.specs.Cmp.Lexicographic.{slice_cmp}
use Rattle.std.specs.FinMap.Entries.{below_all, is_sorted}
use Rattle.std.specs.List.{filter, list_any}
use Rattle.std.specs.List.Sorted.{IsStrictlySortedBy}
use Rattle.std.specs.Ordering.{is_gt, is_lt, nat_cmp, ordering_then}
use Rattle.std.specs.declared.cmp.Ordering.{Ordering}
use Rattle.std.specs.declared.cmp.Ordering.TheVariants.{Less, Equal, Greater}
use Rattle.agg_types.specs.RowKey.{row_key_cmp}
use Rattle.agg_types.specs.declared.config.Filter.{Filter}
use Rattle.agg_types.specs.declared.row_key.RowKey.{RowKey}
use Rattle.fleet_model.proofs.Bools.{first, second}
use Rattle.fleet_model.proofs.Every.{sorted_from}
use Rattle.fleet_model.proofs.Members.{Rises, UpFrom, among-dedup, among-filter, any-map}
use Rattle.fleet_model.proofs.Members.{same_members, sorted-dedup}
use Rattle.fleet_model.specs.Answers.{keys_of, set_at}
use Rattle.fleet_model.specs.Laws.{IsKeyList, IsOrdered, IsSetAt, has_live_row, is_key_among}
use Rattle.fleet_model.specs.Moments.{is_live}
use Rattle.fleet_model.specs.State.{State}
use Rattle.fleet_model.specs.Values.{cols_of, is_of, live_keys, meets, same_key}
use Rattle.fleet_model.specs.declared.arrival.Arrival.{Arrival}

abbrev key_cmp : List ℕ → List ℕ → Ordering
key_cmp = slice_cmp nat_cmp

abbrev lives_in : ℕ → ℕ → RowKey × Arrival → Bool
lives_in table t row = (row.0.table == table) && is_live t row.1

not_above : (tables keys peers : Ordering) → tables ≡ Equal
    → T (is_lt (ordering_then tables (ordering_then keys peers))) → is_gt keys ≡ false
not_above Less keys peers e h = cc
not_above Equal Less peers e h = refl
not_above Equal Equal peers e h = refl
not_above Equal Greater peers e h = absurd h
not_above Greater keys peers e h = cc

same_table : (a b : ℕ) → a ≡ b → nat_cmp a b ≡ Equal
same_table a b e = subst (λ n. nat_cmp a n ≡ Equal) e (tied_itself nat_cmp_total a)

keys_up : (table t : ℕ) (place : RowKey) → place.table ≡ table → (rows : List (RowKey × Arrival))
    → T (below_all row_key_cmp place rows)
    → UpFrom key_cmp place.key (map (λ row. row.0.key) (filter (lives_in table t) rows))
keys_up table t place here [] h = tt
keys_up table t place here (row ∷ rows) h =
    let rest = keys_up table t place here rows (second _ _ h) in
    elim (lives_in table t row) as (λ b. lives_in table t row ≡ b
    → UpFrom key_cmp place.key (map (λ row. row.0.key)
    (cond b (row ∷ filter (lives_in table t) rows) (filter (lives_in table t) rows)))) [
      | true ↦ λ its. (
        not_above (nat_cmp place.table row.0.table) (key_cmp place.key row.0.key)
            (nat_cmp place.peer row.0.peer)
            (same_table place.table row.0.table (here
            ∙ sym (eqb-true row.0.table table
            (and_parts (row.0.table == table) (is_live t row.1) its).0))) (first _ _ h),
        rest,
      )
      | false ↦ λ other. rest
    ] refl

keys_rise : (table t : ℕ) (rows : List (RowKey × Arrival)) → T (is_sorted row_key_cmp rows)
    → Rises key_cmp (map (λ row. row.0.key) (filter (lives_in table t) rows))
keys_rise table t [] h = tt
keys_rise table t (row ∷ rows) h =
    let rest = keys_rise table t rows (second _ _ h) in
    elim (lives_in table t row) as (λ b. lives_in table t row ≡ b
    → Rises key_cmp (map (λ row. row.0.key) (cond b (row ∷ filter (lives_in table t) rows)
    (filter (lives_in table t) rows)))) [
      | true ↦ λ its. (
        keys_up table t row.0
            (eqb-true row.0.table table (and_parts (row.0.table == table) (is_live t row.1) its).0)
            rows (first _ _ h),
        rest,
      )
      | false ↦ λ other. rest
    ] refl

one_row : (its lives same rest : Bool) → cond (its && lives) (same || rest) rest
    ≡ ((its && same && lives) || rest)
one_row true true true rest = refl
one_row true true false rest = refl
one_row true false true rest = refl
one_row true false false rest = refl
one_row false lives same rest = refl

rows_of_key : (table t : ℕ) (key : List ℕ) (rows : List (RowKey × Arrival))
    → list_any (λ row. same_key key row.0.key) (filter (lives_in table t) rows)
    ≡ list_any (is_of table key t) rows
rows_of_key table t key [] = refl
rows_of_key table t key (row ∷ rows) =
    pushed (lives_in table t row)
    ∙ ap (λ b. cond (lives_in table t row) (same_key key row.0.key || b) b)
    (rows_of_key table t key rows)
    ∙ one_row (row.0.table == table) (is_live t row.1) (same_key key row.0.key)
    (list_any (is_of table key t) rows)
  where
    pushed : (b : Bool) → list_any (λ row. same_key key row.0.key)
        (cond b (row ∷ filter (lives_in table t) rows) (filter (lives_in table t) rows))
        ≡ cond b (same_key key row.0.key || list_any (λ row. same_key key row.0.key)
        (filter (lives_in table t) rows))
        (list_any (λ row. same_key key row.0.key) (filter (lives_in table t) rows))
    pushed true = refl
    pushed false = refl

-- a key is among the live ones exactly where a row of it lives
pub live_keys-exact : (rows : List (RowKey × Arrival)) (table t : ℕ) (key : List ℕ)
    → is_key_among key (live_keys rows table t) ≡ has_live_row rows table key t
unfolding live_keys
live_keys-exact rows table t key =
    among-dedup key_cmp nat_list_cmp_total exact_bytes same_key (λ x y. refl) key
    (map (λ row. row.0.key) (filter (lives_in table t) rows))
    ∙ any-map (same_key key) (λ row. row.0.key) (filter (lives_in table t) rows)
    ∙ rows_of_key table t key rows

pub live_keys-sorted : (rows : List (RowKey × Arrival)) (table t : ℕ)
    → T (is_sorted row_key_cmp rows) → IsStrictlySortedBy key_cmp (live_keys rows table t)
unfolding live_keys
live_keys-sorted rows table t h = sorted-dedup key_cmp nat_list_cmp_total exact_bytes same_key
    (λ x y. refl) (map (λ row. row.0.key) (filter (lives_in table t) rows))
    (keys_rise table t rows h)

pub key_lists : (state : State) (table : ℕ) → IsOrdered state
    → IsKeyList state table (keys_of state table)
unfolding keys_of
key_lists state table h = record {
  in_order = live_keys-sorted state.rows table state.moment
      (sorted_from row_key_cmp state.rows h.rows);
  exact = live_keys-exact state.rows table state.moment;
}

-- a filter's set is exactly the keys with a live row of which each condition holds
pub sets : (state : State) (filtering : Filter) (t : ℕ) → IsOrdered state
    → IsSetAt state filtering t (set_at state filtering t)
unfolding set_at meets
sets state filtering t h =
    let holds : List ℕ → Bool = λ key. meets (cols_of state.config.tables filtering.table)
    state.rows filtering.table key t filtering.conds in
    record {
      in_order = IsStrictlySortedBy-filter key_cmp holds (live_keys state.rows filtering.table t)
          (live_keys-sorted state.rows filtering.table t (sorted_from row_key_cmp state.rows
          h.rows));
      exact = λ key. among-filter key_cmp nat_list_cmp_total exact_bytes key holds
          (live_keys state.rows filtering.table t)
          ∙ ap (λ b. b && holds key) (live_keys-exact state.rows filtering.table t key);
    }

-- and it is the only such list
pub only_set : (state : State) (filtering : Filter) (t : ℕ) (keys others : List (List ℕ))
    → IsSetAt state filtering t keys → IsSetAt state filtering t others → keys ≡ others
only_set state filtering t keys others g h = same_members key_cmp nat_list_cmp_total exact_bytes
    keys others g.in_order h.in_order (λ key. g.exact key ∙ sym (h.exact key))
