-- Which standing filters there are.
use Rattle.std.specs.Prelude.{ℕ, Bool, ◌&&◌, not, if◌then◌else◌, nat_lt, List, [], ◌∷◌, ◌++◌}
use Rattle.std.specs.Prelude.{true, false, length, take, drop, fold, Option, None, Some}
use Rattle.std.specs.List.{cons_option, list_any}
use Rattle.std.specs.Str.{bytes_eq}
use Rattle.agg_types.specs.declared.config.Config.{Config}
use Rattle.agg_types.specs.declared.config.Filter.{Filter}
use Rattle.agg_types.specs.declared.event.Event.{Event}
use Rattle.agg_types.specs.declared.event.What.{What}
use Rattle.agg_types.specs.declared.event.What.TheVariants.{Sit, Open, Put, Clear, AddFilter}
use Rattle.agg_types.specs.declared.event.What.TheVariants.{DropFilter, Moment, Leave}
use Rattle.agg_types.specs.declared.limits.TheConstants.{MOST_FILTERS}

-- whether one of them has a filter's name
abbrev pub is_named : List Filter → Filter → Bool
is_named filters filter = list_any (λ other. bytes_eq other.name filter.name) filters

-- a filter is taken while fewer are active than may be, if none of them has its name
abbrev pub is_new : List Filter → Filter → Bool
is_new filters filter = nat_lt (length filters) MOST_FILTERS && not (is_named filters filter)

-- the filter that is added, if one is
abbrev pub added_in : What → Option Filter
added_in Sit = None
added_in (Open peer) = None
added_in (Put peer table key life cells) = None
added_in (Clear table sel) = None
added_in (AddFilter filter) = Some filter
added_in (DropFilter name) = None
added_in (Moment moment) = None
added_in Leave = None

-- whether an added one of them has a name: the first so many were configured
abbrev pub is_added : ℕ → List Filter → List ℕ → Bool
is_added configured filters name =
    list_any (λ filter. bytes_eq filter.name name) (drop configured filters)

-- the filters without the first of a name
abbrev pub without : List ℕ → List Filter → List Filter
without name [] = []
without name (filter ∷ later) =
    if bytes_eq filter.name name then later else filter ∷ without name later

-- the filters without the added one of a name: the first so many were configured, and stay
abbrev pub dropped : ℕ → List ℕ → List Filter → List Filter
dropped configured name filters =
    take configured filters ++ without name (drop configured filters)

-- whether a filter is dropped
abbrev pub is_drop : What → Bool
is_drop Sit = false
is_drop (Open peer) = false
is_drop (Put peer table key life cells) = false
is_drop (Clear table sel) = false
is_drop (AddFilter filter) = false
is_drop (DropFilter name) = true
is_drop (Moment moment) = false
is_drop Leave = false

-- the filters after something happened, of which the first so many were configured: one that is
-- taken stands behind the others, and an added one may be dropped
abbrev pub filters_after : ℕ → List Filter → What → List Filter
filters_after configured filters Sit = filters
filters_after configured filters (Open peer) = filters
filters_after configured filters (Put peer table key life cells) = filters
filters_after configured filters (Clear table sel) = filters
filters_after configured filters (AddFilter filter) =
    if is_new filters filter then filters ++ filter ∷ [] else filters
filters_after configured filters (DropFilter name) = dropped configured name filters
filters_after configured filters (Moment moment) = filters
filters_after configured filters Leave = filters

-- the configured filters, and behind them the added ones that were taken and not dropped since
unfoldable pub filters_in : Config → List Event → List Filter
filters_in config counted =
    fold (λ filters e. filters_after (length config.filters) filters e.what) config.filters counted

-- the filters that are added, in the order of their events
abbrev pub added_by : List Event → List Filter
added_by [] = []
added_by (e ∷ counted) = cons_option (added_in e.what) (added_by counted)

-- of these, the first of each name that none of the filters before has
abbrev pub first_named : List Filter → List Filter → List Filter
first_named before [] = []
first_named before (filter ∷ later) =
    if is_named before filter
    then first_named before later
    else filter ∷ first_named (before ++ filter ∷ []) later
