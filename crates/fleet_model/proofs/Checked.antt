-- A configuration without faults stays so when a filter is added, and its periods are short.
use Rattle.std.proofs.Common.{◌≡◌, ℕ, ◌<◌, ◌≤◌, ◌^◌, Bool, true, false, cond, not, ◌&&◌, ◌||◌, ◌==◌}
use Rattle.std.proofs.Common.{nat_le, nat_lt, List, [], ◌∷◌, ◌++◌, length, map, append_assoc}
use Rattle.std.proofs.Common.{Option, None, Some, is_none, suc, zero, refl, sym, ap, ◌∙◌, subst}
use Rattle.std.proofs.Common.{arith}
use Rattle.std.proofs.lemmas.Bool.{and_parts}
use Rattle.std.proofs.lemmas.Bool.Decides.{nat_tests}
use Rattle.std.proofs.lemmas.List.{append-nil}
use Rattle.std.specs.List.{list_all, list_any}
use Rattle.std.specs.Option.{option_map_or}
use Rattle.std.specs.Prelude.{slice_get, slice_index_or}
use Rattle.std.specs.Str.{bytes_eq}
use Rattle.agg_types.specs.Check.{ascends, config_faults, each, fault_if, filter_faults, is_within}
use Rattle.agg_types.specs.Check.{keep_fits, len_fits, peer_faults, period_fits, rank_faults}
use Rattle.agg_types.specs.Check.{table_faults}
use Rattle.agg_types.specs.Col.{col_id, is_rate}
use Rattle.agg_types.specs.Fits.{at_table, conds_fit, filter_fits, stores}
use Rattle.agg_types.specs.Name.{is_name}
use Rattle.agg_types.specs.declared.check.ConfigFault.{ConfigFault}
use Rattle.agg_types.specs.declared.check.ConfigFault.TheVariants.{BadName, BadPeriod, BadSize}
use Rattle.agg_types.specs.declared.check.ConfigFault.TheVariants.{Duplicate, TooMany}
use Rattle.agg_types.specs.declared.check.ConfigFault.TheVariants.{UnknownColumn, UnknownTable}
use Rattle.agg_types.specs.declared.column.Col.{Col}
use Rattle.agg_types.specs.declared.config.Cond.{Cond}
use Rattle.agg_types.specs.declared.config.Config.{Config}
use Rattle.agg_types.specs.declared.config.Filter.{Filter}
use Rattle.agg_types.specs.declared.config.Shape.{Shape}
use Rattle.agg_types.specs.declared.limits.TheConstants.{MOST_CONDS, MOST_FILTERS}
use Rattle.fleet_model.specs.Filters.{is_new}
use Rattle.fleet_model.specs.Next.{longest_period}
use Rattle.fleet_model.specs.Values.{cols_of}

abbrev pub Faults : Type 0
Faults = List ConfigFault

-- ---- no faults in all, none in each part
pub front_none : (xs ys : Faults) → xs ++ ys ≡ [] → xs ≡ []
front_none [] ys h = refl
front_none (x ∷ xs) ys h = cc

pub back_none : (xs ys : Faults) → xs ++ ys ≡ [] → ys ≡ []
back_none [] ys h = h
back_none (x ∷ xs) ys h = cc

pub both_none : (xs ys : Faults) → xs ≡ [] → ys ≡ [] → xs ++ ys ≡ []
both_none xs ys e f = λ i. e i ++ f i

pub no_fault : (b : Bool) (fault : ConfigFault) → b ≡ false → fault_if b fault ≡ []
no_fault b fault e = ap (λ b. fault_if b fault) e

pub was_no_fault : (b : Bool) (fault : ConfigFault) → fault_if b fault ≡ [] → b ≡ false
was_no_fault true fault e = cc
was_no_fault false fault e = refl

holds_from : (b : Bool) → not b ≡ false → b ≡ true
holds_from true e = refl
holds_from false e = cc

not_holds : (b : Bool) → b ≡ true → not b ≡ false
not_holds b e = ap not e

each-push : {A : Type 0} (faults : List A → A → Faults) (before xs : List A) (x : A)
    → each faults before xs ≡ [] → faults (before ++ xs) x ≡ []
    → each faults before (xs ++ x ∷ []) ≡ []
each-push faults before [] x none new =
    both_none (faults before x) [] (subst (λ ys. faults ys x ≡ []) (append-nil before) new) refl
each-push faults before (y ∷ ys) x none new =
    both_none (faults before y) (each faults (before ++ y ∷ []) (ys ++ x ∷ []))
    (front_none _ _ none)
    (each-push faults (before ++ y ∷ []) ys x (back_none _ _ none)
    (subst (λ zs. faults zs x ≡ []) (sym (append_assoc before (y ∷ []) ys)) new))

-- ---- a filter that fits and is new has no fault
record Acceptable (shape : Option Shape) (conds : List Cond) : Type 0 where
  there : is_none shape ≡ false
  stored : not (option_map_or (λ s. list_all (λ cond. stores s.cols cond.col) conds) shape false)
      ≡ false
  few : nat_lt 4 (length conds) ≡ false
  some : (length conds == 0) ≡ false

acceptable_from : (shape : Option Shape) (conds : List Cond)
    → option_map_or (λ s. conds_fit s.cols conds) shape false ≡ true → Acceptable shape conds
acceptable_from None conds h = cc
acceptable_from (Some shape) conds h =
    let ends = and_parts (nat_le 1 (length conds) && nat_le (length conds) 4)
    (list_all (λ cond. stores shape.cols cond.col) conds) h in
    let counts = and_parts (nat_le 1 (length conds)) (nat_le (length conds) 4) ends.0 in
    record {
      there = refl;
      stored = not_holds _ ends.1;
      few = let most = counts.1 in grind (arith, nat_tests);
      some = let least = counts.0 in grind (arith, nat_tests);
    }

either_none : (a b : Bool) → a ≡ false → b ≡ false → (a || b) ≡ false
either_none a b e f = λ i. e i || f i

filter_sound : (tables : List Shape) (filters : List Filter) (added : Filter)
    → filter_fits tables added ≡ true → is_new filters added ≡ true
    → filter_faults tables filters added ≡ []
unfolding filter_faults
filter_sound tables filters added fit new =
    let parts = and_parts (is_name added.name)
    (at_table tables added.table (λ shape. conds_fit shape.cols added.conds)) fit in
    let told = and_parts (nat_lt (length filters) MOST_FILTERS)
    (not (list_any (λ other. bytes_eq other.name added.name) filters)) new in
    let room : nat_le MOST_FILTERS (length filters) ≡ false = let fewer = told.0 in
    grind (arith, nat_tests) in
    let stands = acceptable_from (slice_get tables added.table) added.conds parts.1 in
    both_none _ _ (both_none _ _ (both_none _ _
    (both_none _ _ (both_none _ _ (no_fault _ TooMany (either_none _ _ room stands.few))
    (no_fault _ BadName (not_holds _ parts.0)))
    (no_fault _ Duplicate (alone _ told.1)))
    (no_fault _ UnknownTable stands.there))
    (no_fault _ UnknownColumn stands.stored))
    (no_fault _ BadSize stands.some)
  where
    alone : (b : Bool) → not b ≡ true → b ≡ false
    alone true e = cc
    alone false e = refl

-- the filters after one was added, if it is new
pub checked-add : (config : Config) (added : Filter) → filter_fits config.tables added ≡ true
    → config_faults config ≡ [] → config_faults
    (record config {
      filters = cond (is_new config.filters added) (config.filters ++ added ∷ [])
          config.filters;
    }) ≡ []
checked-add config added fit none =
    let to_filters = front_none _ (each (rank_faults config.tables) [] config.ranks) none in
    let to_tables = front_none _ (each (filter_faults config.tables) [] config.filters)
    to_filters in
    let filters_none = back_none _ (each (filter_faults config.tables) [] config.filters)
    to_filters in
    let longer_none : each (filter_faults config.tables) []
    (cond (is_new config.filters added) (config.filters ++ added ∷ []) config.filters) ≡ [] =
    elim (is_new config.filters added) as (λ b. is_new config.filters added ≡ b
    → each (filter_faults config.tables) []
    (cond b (config.filters ++ added ∷ []) config.filters) ≡ []) [
      | true ↦ λ new. each-push (filter_faults config.tables) [] config.filters added filters_none
          (filter_sound config.tables config.filters added fit new)
      | false ↦ λ old. filters_none
    ] refl in
    both_none _ _ (both_none _ _ to_tables longer_none)
    (back_none _ (each (rank_faults config.tables) [] config.ranks) none)

-- ---- periods
longest_short : (cols : List (Col × ℕ)) → list_all period_fits cols ≡ true
    → longest_period cols < 2 ^ 31
longest_short [] h = omega arith
longest_short (col ∷ cols) h =
    let parts = and_parts (period_fits col) (list_all period_fits cols) h in
    let rest : longest_period cols < 2 ^ 31 = longest_short cols parts.1 in
    let own : col.1 < 2 ^ 31 = short (is_rate col.0) col.1 parts.0 in
    omega arith
  where
    short : (rate : Bool) (period : ℕ) → cond rate (nat_le 1 period && nat_lt period (2 ^ 31))
        (period == 0) ≡ true → period < 2 ^ 31
    short true period h = let upper = (and_parts (nat_le 1 period) (nat_lt period (2 ^ 31)) h).1 in
        grind (arith, nat_tests)
    short false period h = grind (arith, nat_tests)

periods_fit : (before : List Shape) (shape : Shape) → table_faults before shape ≡ []
    → list_all period_fits shape.cols ≡ true
unfolding table_faults
periods_fit before shape none =
    let sizes : Faults = fault_if (not (is_within shape.size 1000000 && len_fits shape.kind))
    BadSize in
    let times : Bool = list_all period_fits shape.cols && keep_fits shape.keep in
    let both : times ≡ true = holds_from times (was_no_fault (not times) BadPeriod
    (back_none _ (fault_if (not times) BadPeriod) (front_none _ sizes none))) in
    (and_parts (list_all period_fits shape.cols) (keep_fits shape.keep) both).0

tables_short : (before tables : List Shape) (table : ℕ) → each table_faults before tables ≡ []
    → longest_period (cols_of tables table) < 2 ^ 31
tables_short before [] table none = omega arith
tables_short before (shape ∷ tables) zero none =
    longest_short shape.cols (periods_fit before shape (front_none _ _ none))
tables_short before (shape ∷ tables) (suc table) none =
    tables_short (before ++ shape ∷ []) tables table (back_none _ _ none)

-- each period of a table is below 2^31 ms
pub periods_short : (config : Config) (table : ℕ) → config_faults config ≡ []
    → longest_period (cols_of config.tables table) < 2 ^ 31
periods_short config table none =
    let to_filters = front_none _ (each (rank_faults config.tables) [] config.ranks) none in
    let to_tables = front_none _ (each (filter_faults config.tables) [] config.filters)
    to_filters in
    tables_short [] config.tables table (back_none _ (each table_faults [] config.tables) to_tables)

-- ---- conditions
few_conds : (tables : List Shape) (before : List Filter) (filter : Filter)
    → filter_faults tables before filter ≡ [] → length filter.conds ≤ MOST_CONDS
unfolding filter_faults
few_conds tables before filter none =
    let counts = was_no_fault (nat_le MOST_FILTERS (length before)
    || nat_lt MOST_CONDS (length filter.conds)) TooMany
    (front_none _ _ (front_none _ _ (front_none _ _ (front_none _ _ (front_none _ _ none))))) in
    let most : nat_lt MOST_CONDS (length filter.conds) ≡ false =
    second (nat_le MOST_FILTERS (length before)) (nat_lt MOST_CONDS (length filter.conds)) counts in
    grind (arith, nat_tests)
  where
    second : (a b : Bool) → (a || b) ≡ false → b ≡ false
    second true b e = cc
    second false b e = e

filters_few : (tables : List Shape) (before filters : List Filter) (position : ℕ) (other : Filter)
    → position < length filters → each (filter_faults tables) before filters ≡ []
    → length (slice_index_or filters position other).conds ≤ MOST_CONDS
filters_few tables before [] position other within none = absurd (omega arith)
filters_few tables before (filter ∷ filters) zero other within none =
    few_conds tables before filter (front_none _ _ none)
filters_few tables before (filter ∷ filters) (suc position) other within none =
    filters_few tables (before ++ filter ∷ []) filters position other (omega arith)
    (back_none _ _ none)

-- each filter has at most four conditions
pub conds_few : (config : Config) (position : ℕ) (other : Filter) → position < length config.filters
    → config_faults config ≡ []
    → length (slice_index_or config.filters position other).conds ≤ MOST_CONDS
conds_few config position other within none =
    let to_filters = front_none _ (each (rank_faults config.tables) [] config.ranks) none in
    filters_few config.tables [] config.filters position other within
    (back_none _ (each (filter_faults config.tables) [] config.filters) to_filters)
