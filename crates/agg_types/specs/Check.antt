use Rattle.std.specs.Prelude.{◌≡◌, ℕ, Bool, true, ◌&&◌, ◌||◌, not, if◌then◌else◌, ◌==◌}
use Rattle.std.specs.Prelude.{nat_le, nat_lt, List, [], ◌∷◌, ◌++◌, length, map, Some}
use Rattle.std.specs.Prelude.{is_none, slice_get, Option, None, Result, MatchResult}
use Rattle.std.specs.List.{list_all, list_any}
use Rattle.std.specs.Str.{bytes_eq}
use Rattle.agg_types.specs.Col.{col_id, is_rate}
use Rattle.agg_types.specs.Fits.{at_table, stores}
use Rattle.agg_types.specs.Name.{is_name}
use Rattle.agg_types.specs.declared.column.Col.{Col}
use Rattle.agg_types.specs.declared.limits.TheConstants.{HOLD_END, LARGEST_SIZE, LONGEST_KEY}
use Rattle.agg_types.specs.declared.limits.TheConstants.{LONGEST_RANK, SHORTEST_HOLD}
use Rattle.agg_types.specs.declared.limits.TheConstants.{MOST_CONDS, MOST_FILTERS, MOST_PEERS}
use Rattle.agg_types.specs.declared.limits.TheConstants.{MOST_PUSHES, MOST_RANKS, MOST_ROWS}
use Rattle.agg_types.specs.declared.limits.TheConstants.{MOST_IGNORED, MOST_LOGS, MOST_TABLES}
use Rattle.agg_types.specs.declared.limits.TheConstants.{PERIOD_END}
use Rattle.agg_types.specs.declared.config.Config.{Config}
use Rattle.agg_types.specs.declared.config.Filter.{Filter}
use Rattle.agg_types.specs.declared.config.Ignored.{Ignored}
use Rattle.agg_types.specs.declared.config.KeyKind.{KeyKind}
use Rattle.agg_types.specs.declared.config.KeyKind.TheVariants.{Integer, Ip, Ipv6, Str, Binary}
use Rattle.agg_types.specs.declared.config.Logged.{Logged}
use Rattle.agg_types.specs.declared.config.Push.{Push}
use Rattle.agg_types.specs.declared.config.Rank.{Rank}
use Rattle.agg_types.specs.declared.config.Shape.{Shape}
use Rattle.agg_types.specs.declared.check.ConfigFault.{ConfigFault}
use Rattle.agg_types.specs.declared.check.ConfigFault.TheVariants.{Duplicate, TooMany, UnknownTable}
use Rattle.agg_types.specs.declared.check.ConfigFault.TheVariants.{UnknownColumn, BadPeriod}
use Rattle.agg_types.specs.declared.check.ConfigFault.TheVariants.{BadSize, BadName, UnknownFilter}

-- a fault, where the test says that it is there
abbrev pub fault_if : Bool → ConfigFault → List ConfigFault
fault_if there fault = if there then fault ∷ [] else []

-- the faults of each entry, which follow from the entries before it
abbrev pub each : {A : Type 0} → (List A → A → List ConfigFault) → List A → List A
    → List ConfigFault
each faults before [] = []
each faults before (entry ∷ entries) = faults before entry
    ++ each faults (before ++ entry ∷ []) entries

-- the faults of a peer, which follow from those before it
unfoldable pub peer_faults : List (List ℕ) → List ℕ → List ConfigFault
peer_faults before name =
    fault_if (nat_le MOST_PEERS (length before)) TooMany
    ++ fault_if (not (is_name name)) BadName
    ++ fault_if (list_any (λ other. bytes_eq other name) before) Duplicate

-- each number is above the one before it, the first above this one
abbrev pub ascends_above : ℕ → List ℕ → Bool
ascends_above last [] = true
ascends_above last (next ∷ rest) = nat_lt last next && ascends_above next rest

-- each number is above the one before it
abbrev pub ascends : List ℕ → Bool
ascends [] = true
ascends (first ∷ rest) = ascends_above first rest

-- a rate has a period of 1 to 2^31 - 1 ms, a count none
abbrev pub period_fits : Col × ℕ → Bool
period_fits col = if is_rate col.0 then nat_le 1 col.1 && nat_lt col.1 PERIOD_END else (col.1 == 0)

-- 1 to the most that there may be
abbrev pub is_within : ℕ → ℕ → Bool
is_within number most = nat_le 1 number && nat_le number most

-- a length that keys may have, where it is given
abbrev pub len_fits : KeyKind → Bool
len_fits (Str len) = is_within len LONGEST_KEY
len_fits (Binary len) = is_within len LONGEST_KEY
len_fits Integer = true
len_fits Ip = true
len_fits Ipv6 = true

-- a longest life of rows is 1 to 2^31 - 1 ms, where there is one
abbrev pub keep_fits : Option ℕ → Bool
keep_fits None = true
keep_fits (Some keep) = nat_le 1 keep && nat_lt keep PERIOD_END

-- the faults of a table, which follow from those before it
unfoldable pub table_faults : List Shape → Shape → List ConfigFault
table_faults before shape =
    fault_if (nat_le MOST_TABLES (length before)) TooMany
    ++ fault_if (not (is_name shape.name)) BadName
    ++ fault_if (list_any (λ other. bytes_eq other.name shape.name) before
    || not (ascends (map (λ col. col_id col.0) shape.cols))) Duplicate
    ++ fault_if (not (list_all period_fits shape.cols && keep_fits shape.keep)) BadPeriod
    ++ fault_if (not (is_within shape.size LARGEST_SIZE && len_fits shape.kind)) BadSize

-- the faults of a filter, which follow from those before it
unfoldable pub filter_faults : List Shape → List Filter → Filter → List ConfigFault
filter_faults tables before filter =
    fault_if (nat_le MOST_FILTERS (length before) || nat_lt MOST_CONDS (length filter.conds))
    TooMany
    ++ fault_if (not (is_name filter.name)) BadName
    ++ fault_if (list_any (λ other. bytes_eq other.name filter.name) before) Duplicate
    ++ fault_if (is_none (slice_get tables filter.table)) UnknownTable
    ++ fault_if (not (at_table tables filter.table
    (λ shape. list_all (λ cond. stores shape.cols cond.col) filter.conds))) UnknownColumn
    ++ fault_if (length filter.conds == 0) BadSize

-- the faults of a ranked list, which follow from those before it
unfoldable pub rank_faults : List Shape → List Rank → Rank → List ConfigFault
rank_faults tables before rank =
    fault_if (nat_le MOST_RANKS (length before)) TooMany
    ++ fault_if (not (is_name rank.name)) BadName
    ++ fault_if (list_any (λ other. bytes_eq other.name rank.name) before) Duplicate
    ++ fault_if (is_none (slice_get tables rank.table)) UnknownTable
    ++ fault_if (not (at_table tables rank.table (λ shape. stores shape.cols rank.col)))
    UnknownColumn
    ++ fault_if (not (is_within rank.n LONGEST_RANK)) BadSize

-- a hold is 1 s to 2^31 - 1 ms, where there is one
abbrev pub hold_fits : Option ℕ → Bool
hold_fits None = true
hold_fits (Some hold) = nat_le SHORTEST_HOLD hold && nat_lt hold HOLD_END

-- the faults of a pushed filter, which follow from those before it: its name is that of a filter,
-- and of no table, since proxies know the set under that name
unfoldable pub push_faults : List Shape → List Filter → List Push → Push → List ConfigFault
push_faults tables filters before push =
    fault_if (nat_le MOST_PUSHES (length before)) TooMany
    ++ fault_if (list_any (λ other. bytes_eq other.name push.name) before
    || list_any (λ shape. bytes_eq shape.name push.name) tables) Duplicate
    ++ fault_if (not (list_any (λ filter. bytes_eq filter.name push.name) filters)) UnknownFilter
    ++ fault_if (not (hold_fits push.hold)) BadPeriod

-- the faults of a filter whose keys the log tells, which follow from those before it
unfoldable pub log_faults : List Filter → List Logged → Logged → List ConfigFault
log_faults filters before logged =
    fault_if (nat_le MOST_LOGS (length before)) TooMany
    ++ fault_if (list_any (λ other. bytes_eq other.filter logged.filter) before) Duplicate
    ++ fault_if (not (list_any (λ filter. bytes_eq filter.name logged.filter) filters))
    UnknownFilter

-- the faults of a name whose tables are ignored, which follow from those before it: no table that
-- is followed has it
unfoldable pub ignored_faults : List Shape → List Ignored → Ignored → List ConfigFault
ignored_faults tables before ignored =
    fault_if (nat_le MOST_IGNORED (length before)) TooMany
    ++ fault_if (not (is_name ignored.table)) BadName
    ++ fault_if (list_any (λ other. bytes_eq other.table ignored.table) before
    || list_any (λ shape. bytes_eq shape.name ignored.table) tables) Duplicate

-- all peers together may hold 1 to 2^40 rows, where there is a bound
abbrev pub rows_fit : Option ℕ → Bool
rows_fit None = true
rows_fit (Some rows) = is_within rows MOST_ROWS

-- the faults of what a fleet is followed by, in the order in which they count
abbrev pub config_faults : Config → List ConfigFault
config_faults config =
    fault_if (not (is_name config.me)) BadName
    ++ each peer_faults [] config.peers
    ++ each table_faults [] config.tables
    ++ each (filter_faults config.tables) [] config.filters
    ++ each (rank_faults config.tables) [] config.ranks

-- the faults of a configuration, in the order in which they count: those of what it follows, of
-- what it pushes, of its bound on all rows, of what it logs, and of what it ignores
abbrev pub all_faults : Config → List ConfigFault
all_faults config =
    config_faults config
    ++ each (push_faults config.tables config.filters) [] config.pushes
    ++ fault_if (not (rows_fit config.rows)) BadSize
    ++ each (log_faults config.filters) [] config.logs
    ++ each (ignored_faults config.tables) [] config.ignored

-- Ok where there are no faults, else the first of them
abbrev pub FindsFirst : Result (Unit {0}) ConfigFault → List ConfigFault → Type 0
FindsFirst result faults =
    MatchResult result (λ _. faults ≡ []) (λ fault. slice_get faults 0 ≡ Some fault)
