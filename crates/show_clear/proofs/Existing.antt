-- What a checked configuration names is there.
use Rattle.std.proofs.Common.{◌≡◌, ℕ, zero, suc, ◌<◌, not, List, []}
use Rattle.std.proofs.Common.{◌∷◌, ◌++◌, length, get_or, refl, arith, ◌||◌, leb}
use Rattle.std.proofs.Common.{ltb, eqb}
use Rattle.std.specs.Option.{is_none}
use Rattle.std.specs.Str.{bytes_eq}
use Rattle.agg_types.specs.Fits.{at_table, stores}
use Rattle.agg_types.specs.Name.{is_name}
use Rattle.agg_types.specs.declared.check.ConfigFault.TheVariants.{Duplicate, TooMany, UnknownTable}
use Rattle.agg_types.specs.declared.check.ConfigFault.TheVariants.{UnknownColumn}
use Rattle.agg_types.specs.declared.check.ConfigFault.TheVariants.{BadSize, BadName}
use Rattle.std.specs.List.{slice_get, list_all, list_any}
use Rattle.agg_types.specs.Check.{config_faults, each, fault_if, filter_faults, is_within}
use Rattle.agg_types.specs.Check.{peer_faults, rank_faults, table_faults}
use Rattle.agg_types.specs.declared.check.ConfigFault.{ConfigFault}
use Rattle.agg_types.specs.declared.config.Config.{Config}
use Rattle.agg_types.specs.declared.config.Filter.{Filter}
use Rattle.agg_types.specs.declared.config.Rank.{Rank}
use Rattle.agg_types.specs.declared.config.Shape.{Shape}

front_none : {A : Type 0} (a b : List A) → a ++ b ≡ [] → a ≡ []
front_none [] b h = refl
front_none (x ∷ a) b h = absurd cc

back_none : {A : Type 0} (a b : List A) → a ++ b ≡ [] → b ≡ []
back_none [] b h = h
back_none (x ∷ a) b h = absurd cc

-- a position at which there is something is in range
in_range : {A : Type 0} (xs : List A) (i : ℕ) (fault : ConfigFault)
    → fault_if (is_none (slice_get xs i)) fault ≡ [] → i < length xs
in_range [] i fault h = absurd cc
in_range (x ∷ xs) zero fault h = omega arith
in_range (x ∷ xs) (suc i) fault h =
    let more = in_range xs i fault h in
    omega arith

filter_exists : (tables : List Shape) (before : List Filter) (filter : Filter)
    → filter_faults tables before filter ≡ [] → filter.table < length tables
unfolding filter_faults
filter_exists tables before filter h =
    let a = fault_if (leb 32 (length before) || ltb 4 (length filter.conds)) TooMany in
    let b = fault_if (not (is_name filter.name)) BadName in
    let c = fault_if (list_any (λ other. bytes_eq other.name filter.name) before) Duplicate in
    let d = fault_if (is_none (slice_get tables filter.table)) UnknownTable in
    let e = fault_if (not (at_table tables filter.table
    (λ shape. list_all (λ cond. stores shape.cols cond.col) filter.conds))) UnknownColumn in
    let f = fault_if (eqb (length filter.conds) 0) BadSize in
    in_range tables filter.table UnknownTable
    (back_none (a ++ b ++ c) d (front_none (a ++ b ++ c ++ d) e
    (front_none (a ++ b ++ c ++ d ++ e) f h)))

rank_exists : (tables : List Shape) (before : List Rank) (rank : Rank)
    → rank_faults tables before rank ≡ [] → rank.table < length tables
unfolding rank_faults
rank_exists tables before rank h =
    let a = fault_if (leb 16 (length before)) TooMany in
    let b = fault_if (not (is_name rank.name)) BadName in
    let c = fault_if (list_any (λ other. bytes_eq other.name rank.name) before) Duplicate in
    let d = fault_if (is_none (slice_get tables rank.table)) UnknownTable in
    let e = fault_if (not (at_table tables rank.table (λ shape. stores shape.cols rank.col)))
    UnknownColumn in
    let f = fault_if (not (is_within rank.n 1000)) BadSize in
    in_range tables rank.table UnknownTable
    (back_none (a ++ b ++ c) d (front_none (a ++ b ++ c ++ d) e
    (front_none (a ++ b ++ c ++ d ++ e) f h)))

each_filter : (tables : List Shape) (before filters : List Filter) (i : ℕ) (d : Filter)
    → each (filter_faults tables) before filters ≡ [] → i < length filters
    → (get_or filters i d).table < length tables
each_filter tables before [] i d h lt = absurd (omega arith)
each_filter tables before (filter ∷ filters) zero d h lt =
    filter_exists tables before filter (front_none (filter_faults tables before filter)
    (each (filter_faults tables) (before ++ filter ∷ []) filters) h)
each_filter tables before (filter ∷ filters) (suc i) d h lt =
    each_filter tables (before ++ filter ∷ []) filters i d
    (back_none (filter_faults tables before filter)
    (each (filter_faults tables) (before ++ filter ∷ []) filters) h) (omega arith)

each_rank : (tables : List Shape) (before ranks : List Rank) (i : ℕ) (d : Rank)
    → each (rank_faults tables) before ranks ≡ [] → i < length ranks
    → (get_or ranks i d).table < length tables
each_rank tables before [] i d h lt = absurd (omega arith)
each_rank tables before (rank ∷ ranks) zero d h lt =
    rank_exists tables before rank (front_none (rank_faults tables before rank)
    (each (rank_faults tables) (before ++ rank ∷ []) ranks) h)
each_rank tables before (rank ∷ ranks) (suc i) d h lt =
    each_rank tables (before ++ rank ∷ []) ranks i d (back_none (rank_faults tables before rank)
    (each (rank_faults tables) (before ++ rank ∷ []) ranks) h) (omega arith)

-- the table of a standing filter is there
pub filters_exist : (config : Config) (i : ℕ) (d : Filter) → config_faults config ≡ []
    → i < length config.filters → (get_or config.filters i d).table < length config.tables
filters_exist config i d h lt =
    let a = fault_if (not (is_name config.me)) BadName in
    let b = each peer_faults [] config.peers in
    let c = each table_faults [] config.tables in
    let d1 = each (filter_faults config.tables) [] config.filters in
    let e = each (rank_faults config.tables) [] config.ranks in
    each_filter config.tables [] config.filters i d
    (back_none (a ++ b ++ c) d1 (front_none (a ++ b ++ c ++ d1) e h)) lt

-- the table of a ranked list is there
pub ranks_exist : (config : Config) (i : ℕ) (d : Rank) → config_faults config ≡ []
    → i < length config.ranks → (get_or config.ranks i d).table < length config.tables
ranks_exist config i d h lt =
    let a = fault_if (not (is_name config.me)) BadName in
    let b = each peer_faults [] config.peers in
    let c = each table_faults [] config.tables in
    let d1 = each (filter_faults config.tables) [] config.filters in
    let e = each (rank_faults config.tables) [] config.ranks in
    each_rank config.tables [] config.ranks i d (back_none (a ++ b ++ c ++ d1) e h) lt
