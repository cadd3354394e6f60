-- What dropping a filter leaves of those that stand.
use Rattle.std.proofs.Common.{◌≡◌, ℕ, zero, suc, ◌+◌, ◌≤◌, Bool, true, false, cond, not, ◌||◌}
use Rattle.std.proofs.Common.{nat_le, nat_lt, List, [], ◌∷◌, ◌++◌, length, take, drop, filter, refl}
use Rattle.std.proofs.Common.{sym, ap, ap₂, ◌∙◌, subst, true≢false, arith}
use Rattle.std.proofs.lemmas.Bool.Decides.{nat_tests}
use Rattle.std.proofs.lemmas.List.{length-append, take-append-drop}
use Rattle.std.proofs.lemmas.List.Elements.{filter-append}
use Rattle.std.proofs.lemmas.List.Folds.{list_any-append}
use Rattle.std.proofs.lemmas.Slice.Eq.{bytes_eq-Decides}
use Rattle.std.specs.List.{list_any}
use Rattle.std.specs.Str.{bytes_eq}
use Rattle.agg_types.specs.Check.{config_faults, each, filter_faults, rank_faults}
use Rattle.agg_types.specs.declared.check.ConfigFault.TheVariants.{Duplicate, TooMany}
use Rattle.agg_types.specs.declared.config.Config.{Config}
use Rattle.agg_types.specs.declared.config.Filter.{Filter}
use Rattle.agg_types.specs.declared.config.Shape.{Shape}
use Rattle.agg_types.specs.declared.limits.TheConstants.{MOST_CONDS, MOST_FILTERS}
use Rattle.fleet_model.proofs.Checked.{back_none, both_none, front_none, no_fault, was_no_fault}
use Rattle.fleet_model.specs.Filters.{dropped, is_added, without}

abbrev named : List ℕ → Filter → Bool
named name f = bytes_eq f.name name

pub or_left : (a b : Bool) → (a || b) ≡ false → a ≡ false
or_left true b e = absurd (true≢false e)
or_left false b e = refl

pub or_right : (a b : Bool) → (a || b) ≡ false → b ≡ false
or_right true b e = absurd (true≢false e)
or_right false b e = e

-- ---- a name that no added filter has
without-none : (name : List ℕ) (fs : List Filter) → list_any (named name) fs ≡ false
    → without name fs ≡ fs
without-none name [] h = refl
without-none name (f ∷ fs) h =
    ap (λ b. cond b fs (f ∷ without name fs)) (or_left (named name f) (list_any (named name) fs) h)
    ∙ ap (λ rest. f ∷ rest)
    (without-none name fs (or_right (named name f) (list_any (named name) fs) h))

pub dropped-none : (configured : ℕ) (name : List ℕ) (fs : List Filter)
    → is_added configured fs name ≡ false → dropped configured name fs ≡ fs
dropped-none configured name fs h =
    ap (λ rest. take configured fs ++ rest) (without-none name (drop configured fs) h)
    ∙ take-append-drop configured fs

-- ---- no faults come by it
-- no more than before, with no other names
record IsFewer (fewer before : List Filter) : Type 0 where
  less : length fewer ≤ length before
  names : (name : List ℕ) → list_any (named name) before ≡ false
      → list_any (named name) fewer ≡ false

fewer-push : (fewer before : List Filter) (f : Filter) → IsFewer fewer before
    → IsFewer (fewer ++ f ∷ []) (before ++ f ∷ [])
fewer-push fewer before f h = record {
  less = let less = h.less in
      let one = length-append fewer (f ∷ []) in
      let other = length-append before (f ∷ []) in
      omega arith;
  names = λ name none.
      let parts : (list_any (named name) before || (named name f || false)) ≡ false =
      sym (list_any-append (named name) before (f ∷ [])) ∙ none in
      list_any-append (named name) fewer (f ∷ [])
      ∙ ap₂ (λ a b. a || b) (h.names name (or_left _ (named name f || false) parts))
      (or_right (list_any (named name) before) _ parts);
}

fewer-one : (before : List Filter) (f : Filter) → IsFewer before (before ++ f ∷ [])
fewer-one before f = record {
  less = let longer = length-append before (f ∷ []) in omega arith;
  names = λ name none. or_left (list_any (named name) before) (named name f || false)
      (sym (list_any-append (named name) before (f ∷ [])) ∙ none);
}

few_too : (fewer before : ℕ) (b : Bool) → fewer ≤ before
    → (nat_le MOST_FILTERS before || b) ≡ false → (nat_le MOST_FILTERS fewer || b) ≡ false
few_too fewer before b less h =
    ap₂ (λ a b. a || b) less_too (or_right (nat_le MOST_FILTERS before) b h)
    ∙ refl
  where
    less_too : nat_le MOST_FILTERS fewer ≡ false
    less_too = let own = or_left (nat_le MOST_FILTERS before) b h in grind (arith, nat_tests)

fewer-faults : (tables : List Shape) (fewer before : List Filter) (f : Filter)
    → IsFewer fewer before → filter_faults tables before f ≡ [] → filter_faults tables fewer f ≡ []
unfolding filter_faults
fewer-faults tables fewer before f h none =
    let to_columns = front_none _ _ none in
    let to_tables = front_none _ _ to_columns in
    let to_names = front_none _ _ to_tables in
    let to_valid = front_none _ _ to_names in
    let many = was_no_fault _ TooMany (front_none _ _ to_valid) in
    let twice = was_no_fault _ Duplicate (back_none _ _ to_names) in
    both_none _ _ (both_none _ _ (both_none _ _ (both_none _ _
    (both_none _ _ (no_fault _ TooMany (few_too (length fewer) (length before)
    (nat_lt MOST_CONDS (length f.conds)) h.less many))
    (back_none _ _ to_valid))
    (no_fault _ Duplicate (h.names f.name twice)))
    (back_none _ _ to_tables))
    (back_none _ _ to_columns))
    (back_none _ _ none)

each-fewer : (tables : List Shape) (fewer before fs : List Filter) → IsFewer fewer before
    → each (filter_faults tables) before fs ≡ [] → each (filter_faults tables) fewer fs ≡ []
each-fewer tables fewer before [] h none = refl
each-fewer tables fewer before (f ∷ fs) h none =
    both_none _ _ (fewer-faults tables fewer before f h (front_none _ _ none))
    (each-fewer tables (fewer ++ f ∷ []) (before ++ f ∷ []) fs (fewer-push fewer before f h)
    (back_none _ _ none))

each-without : (tables : List Shape) (name : List ℕ) (before fs : List Filter)
    → each (filter_faults tables) before fs ≡ []
    → each (filter_faults tables) before (without name fs) ≡ []
each-without tables name before [] none = refl
each-without tables name before (f ∷ fs) none =
    by (each-without tables name (before ++ f ∷ []) fs (back_none _ _ none)) (named name f)
  where
    by : each (filter_faults tables) (before ++ f ∷ []) (without name fs) ≡ [] → (b : Bool)
        → each (filter_faults tables) before (cond b fs (f ∷ without name fs)) ≡ []
    by rest true = each-fewer tables before (before ++ f ∷ []) fs (fewer-one before f)
        (back_none _ _ none)
    by rest false = both_none _ _ (front_none _ _ none) rest

each-dropped : (tables : List Shape) (configured : ℕ) (name : List ℕ) (before fs : List Filter)
    → each (filter_faults tables) before fs ≡ []
    → each (filter_faults tables) before (dropped configured name fs) ≡ []
each-dropped tables zero name before fs none = each-without tables name before fs none
each-dropped tables (suc n) name before [] none = refl
each-dropped tables (suc n) name before (f ∷ fs) none =
    both_none _ _ (front_none _ _ none)
    (each-dropped tables n name (before ++ f ∷ []) fs (back_none _ _ none))

-- a configuration without faults stays so
pub checked-drop : (config : Config) (configured : ℕ) (name : List ℕ) → config_faults config ≡ []
    → config_faults (record config { filters = dropped configured name config.filters }) ≡ []
checked-drop config configured name none =
    let to_filters = front_none _ (each (rank_faults config.tables) [] config.ranks) none in
    both_none _ _
    (both_none _ _ (front_none _ (each (filter_faults config.tables) [] config.filters) to_filters)
    (each-dropped config.tables configured name [] config.filters
    (back_none _ (each (filter_faults config.tables) [] config.filters) to_filters)))
    (back_none _ (each (rank_faults config.tables) [] config.ranks) none)

-- ---- the added filter of that name is gone
pub drop-dropped : (configured : ℕ) (name : List ℕ) (fs : List Filter)
    → drop configured (dropped configured name fs) ≡ without name (drop configured fs)
drop-dropped zero name fs = refl
drop-dropped (suc n) name [] = refl
drop-dropped (suc n) name (f ∷ fs) = drop-dropped n name fs

-- a name that stands before isn't declared again
alone : (tables : List Shape) (name : List ℕ) (before fs : List Filter)
    → each (filter_faults tables) before fs ≡ [] → list_any (named name) before ≡ true
    → list_any (named name) fs ≡ false
unfolding filter_faults
alone tables name before [] none there = refl
alone tables name before (f ∷ fs) none there =
    let own = front_none _ _ none in
    let to_names = front_none _ _ (front_none _ _ (front_none _ _ own)) in
    let twice : list_any (named f.name) before ≡ false =
    was_no_fault _ Duplicate (back_none _ _ to_names) in
    ap₂ (λ a b. a || b) (by twice (named name f) refl)
    (alone tables name (before ++ f ∷ []) fs (back_none _ _ none)
    (list_any-append (named name) before (f ∷ [])
    ∙ ap (λ b. b || (named name f || false)) there))
  where
    by : list_any (named f.name) before ≡ false → (b : Bool) → named name f ≡ b → b ≡ false
    by twice false e = refl
    by twice true e = absurd (true≢false (sym there
        ∙ (ap (λ n. list_any (named n) before) (sym ((bytes_eq-Decides f.name name).0 e))
        ∙ twice)))

without-gone : (tables : List Shape) (name : List ℕ) (before fs : List Filter)
    → each (filter_faults tables) before fs ≡ [] → list_any (named name) (without name fs) ≡ false
without-gone tables name before [] none = refl
without-gone tables name before (f ∷ fs) none =
    by (without-gone tables name (before ++ f ∷ []) fs (back_none _ _ none)) (named name f) refl
  where
    by : list_any (named name) (without name fs) ≡ false → (b : Bool) → named name f ≡ b
        → list_any (named name) (cond b fs (f ∷ without name fs)) ≡ false
    by rest true e = alone tables name (before ++ f ∷ []) fs (back_none _ _ none)
        (list_any-append (named name) before (f ∷ [])
        ∙ (ap (λ b. list_any (named name) before || (b || false)) e
        ∙ either (list_any (named name) before)))
      where
        either : (b : Bool) → (b || true) ≡ true
        either true = refl
        either false = refl
    by rest false e = ap₂ (λ a b. a || b) e rest

gone-from : (tables : List Shape) (configured : ℕ) (name : List ℕ) (before fs : List Filter)
    → each (filter_faults tables) before fs ≡ []
    → list_any (named name) (without name (drop configured fs)) ≡ false
gone-from tables zero name before fs none = without-gone tables name before fs none
gone-from tables (suc n) name before [] none = refl
gone-from tables (suc n) name before (f ∷ fs) none =
    gone-from tables n name (before ++ f ∷ []) fs (back_none _ _ none)

pub gone : (config : Config) (configured : ℕ) (name : List ℕ) → config_faults config ≡ []
    → is_added configured (dropped configured name config.filters) name ≡ false
gone config configured name none =
    let to_filters = front_none _ (each (rank_faults config.tables) [] config.ranks) none in
    ap (list_any (named name)) (drop-dropped configured name config.filters)
    ∙ gone-from config.tables configured name [] config.filters
    (back_none _ (each (filter_faults config.tables) [] config.filters) to_filters)

-- ---- all others stay
abbrev others : List ℕ → List Filter → List Filter
others name = filter (λ f. not (bytes_eq f.name name))

others-without : (name : List ℕ) (fs : List Filter)
    → others name (without name fs) ≡ others name fs
others-without name [] = refl
others-without name (f ∷ fs) = by (others-without name fs) (named name f) refl
  where
    by : others name (without name fs) ≡ others name fs → (b : Bool) → named name f ≡ b
        → others name (cond b fs (f ∷ without name fs))
        ≡ cond (not b) (f ∷ others name fs) (others name fs)
    by rest true e = refl
    by rest false e = ap (λ b. cond (not b) (f ∷ others name (without name fs))
        (others name (without name fs))) e
        ∙ ap (λ rest. f ∷ rest) rest

pub others-stay : (configured : ℕ) (name : List ℕ) (fs : List Filter)
    → others name (dropped configured name fs) ≡ others name fs
others-stay configured name fs =
    filter-append (λ f. not (bytes_eq f.name name)) (take configured fs)
    (without name (drop configured fs))
    ∙ (ap (λ rest. others name (take configured fs) ++ rest)
    (others-without name (drop configured fs))
    ∙ (sym (filter-append (λ f. not (bytes_eq f.name name)) (take configured fs)
    (drop configured fs))
    ∙ ap (others name) (take-append-drop configured fs)))

-- ---- one is fewer
without-fewer : (name : List ℕ) (fs : List Filter) → list_any (named name) fs ≡ true
    → length (without name fs) + 1 ≡ length fs
without-fewer name [] there = absurd (true≢false (sym there))
without-fewer name (f ∷ fs) there = by (without-fewer name fs) (named name f) there
  where
    by : (list_any (named name) fs ≡ true → length (without name fs) + 1 ≡ length fs)
        → (b : Bool) → (b || list_any (named name) fs) ≡ true
        → length (cond b fs (f ∷ without name fs)) + 1 ≡ suc (length fs)
    by rest true there = omega arith
    by rest false there = let one = rest there in omega arith

pub one-fewer : (configured : ℕ) (name : List ℕ) (fs : List Filter)
    → is_added configured fs name ≡ true → length (dropped configured name fs) + 1 ≡ length fs
one-fewer zero name fs there = without-fewer name fs there
one-fewer (suc n) name [] there = absurd (true≢false (sym there))
one-fewer (suc n) name (f ∷ fs) there = let rest = one-fewer n name fs there in omega arith

-- ---- the configured ones stand first
pub take-dropped : (configured : ℕ) (name : List ℕ) (fs : List Filter) → configured ≤ length fs
    → take configured (dropped configured name fs) ≡ take configured fs
take-dropped zero name fs within = refl
take-dropped (suc n) name [] within = absurd (omega arith)
take-dropped (suc n) name (f ∷ fs) within =
    ap (λ rest. f ∷ rest) (take-dropped n name fs (omega arith))
