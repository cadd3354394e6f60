-- What a pushed filter, a logged one and an ignored table without faults have.
use Rattle.std.proofs.Common.{◌≡◌, ◌||◌, ℕ, Bool, true, false, List, [], ◌∷◌, ◌++◌, refl, subst}
use Rattle.std.specs.List.{list_any}
use Rattle.std.specs.Str.{bytes_eq}
use Rattle.agg_types.specs.Check.{each, filter_faults, hold_fits, ignored_faults, log_faults}
use Rattle.agg_types.specs.Check.{push_faults}
use Rattle.agg_types.specs.Name.{is_name}
use Rattle.agg_types.specs.declared.config.Filter.{Filter}
use Rattle.agg_types.specs.declared.config.Ignored.{Ignored}
use Rattle.agg_types.specs.declared.config.Logged.{Logged}
use Rattle.agg_types.specs.declared.config.Push.{Push}
use Rattle.agg_types.specs.declared.config.Shape.{Shape}
use Rattle.line_words.proofs.Checked.{both_none, filter_fits, no_fault, not_not}
use Rattle.std.proofs.lemmas.Slice.Eq.{bytes_eq-Decides}

-- what a pushed filter has
pub record PushFits (filters : List Filter) (push : Push) : Type 0 where
  pub named : list_any (λ filter. bytes_eq filter.name push.name) filters ≡ true
  pub hold : hold_fits push.hold ≡ true

pub push_fits : (tables : List Shape) (filters : List Filter) (before : List Push) (push : Push)
    → push_faults tables filters before push ≡ [] → PushFits filters push
unfolding push_faults
push_fits tables filters before push none =
    let a = both_none _ _ none in
    let b = both_none _ _ a.0 in
    record {
      named = not_not _ (no_fault _ _ b.1);
      hold = not_not (hold_fits push.hold) (no_fault _ _ a.1);
    }

-- a logged filter is there
pub log_named : (filters : List Filter) (before : List Logged) (logged : Logged)
    → log_faults filters before logged ≡ []
    → list_any (λ filter. bytes_eq filter.name logged.filter) filters ≡ true
unfolding log_faults
log_named filters before logged none = not_not _ (no_fault _ _ (both_none _ _ none).1)

-- an ignored table has a name
pub ignored_named : (tables : List Shape) (before : List Ignored) (ignored : Ignored)
    → ignored_faults tables before ignored ≡ [] → is_name ignored.table ≡ true
unfolding ignored_faults
ignored_named tables before ignored none =
    let a = both_none _ _ none in
    not_not (is_name ignored.table) (no_fault _ _ (both_none _ _ a.0).1)

-- a name that is this one's, or else another's, may stand
named_by : (filter : Filter) (name : List ℕ) (here : Bool) → bytes_eq filter.name name ≡ here
    → is_name filter.name ≡ true → (here ≡ false → is_name name ≡ true) → is_name name ≡ true
named_by filter name true e valid other =
    subst (λ n. is_name n ≡ true) ((bytes_eq-Decides filter.name name).0 e) valid
named_by filter name false e valid other = other refl

-- a filter's name may stand, and so may one that is the same
named_behind : (tables : List Shape) (before filters : List Filter) (name : List ℕ)
    → each (filter_faults tables) before filters ≡ []
    → list_any (λ filter. bytes_eq filter.name name) filters ≡ true → is_name name ≡ true
named_behind tables before [] name none is = absurd cc
named_behind tables before (filter ∷ filters) name none is =
    let h = both_none (filter_faults tables before filter) _ none in
    named_by filter name (bytes_eq filter.name name) refl
    (filter_fits tables before filter h.0).named.valid
    (λ e. named_behind tables (before ++ filter ∷ []) filters name h.1
    (subst (λ b. (b || list_any (λ other. bytes_eq other.name name) filters) ≡ true) e is))

pub named_filter : (tables : List Shape) (filters : List Filter) (name : List ℕ)
    → each (filter_faults tables) [] filters ≡ []
    → list_any (λ filter. bytes_eq filter.name name) filters ≡ true → is_name name ≡ true
named_filter tables filters name none is = named_behind tables [] filters name none is
