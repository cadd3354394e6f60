-- Kept verdicts of a book's standing filters, and what an event leaves of what they rest on.
use Rattle.std.specs.Prelude.{◌≡◌, ◌≢◌, ◌⊎◌, ℕ, ◌≤◌, ◌++◌, ◌∷◌, List, [], map, max, true}
use Rattle.std.specs.List.{AllByRecursion}
use Rattle.agg_types.specs.declared.column.Col.{Col}
use Rattle.agg_types.specs.declared.config.Config.{Config}
use Rattle.agg_types.specs.declared.config.Filter.{Filter}
use Rattle.agg_types.specs.declared.event.What.{What}
use Rattle.agg_types.specs.declared.event.What.TheVariants.{Sit, Open, Put, Clear, AddFilter}
use Rattle.agg_types.specs.declared.event.What.TheVariants.{DropFilter, Moment, Leave}
use Rattle.fleet_model.specs.Filters.{dropped, filters_after}
use Rattle.fleet_model.specs.Keys.{holds, key_rows}
use Rattle.fleet_model.specs.Sound.{IsSound}
use Rattle.fleet_model.specs.State.{State}
use Rattle.fleet_model.specs.Values.{cols_of}
use Rattle.standing_filters.specs.Laws.{AreVerdicts}
use Rattle.standing_filters.specs.Watched.{AllWatched, IsReady, Watched}
use Rattle.book_machine.specs.Foreseen.{living_within, worth_within}
use Rattle.book_machine.specs.Uses.{has_filter}

-- what the keys of a state sum up to, and how many of their rows live, as the clock goes on
abbrev pub sums_in : State → ℕ → List ℕ → Col → ℕ → ℕ
sums_in state table key col t =
    worth_within (cols_of state.config.tables table) (key_rows state.rows table key) col t

abbrev pub living_in : State → ℕ → List ℕ → ℕ → ℕ
living_in state table key t = living_within (key_rows state.rows table key) t

-- every key has its verdict of the state's moment, by a filter, and by each of some
abbrev pub IsJudged : State → Watched → Type 0
IsJudged state watched = AreVerdicts (sums_in state) (living_in state) state.moment watched

abbrev pub AreJudged : State → List Watched → Type 0
AreJudged state watched = AllByRecursion (IsJudged state) watched

-- these are the verdicts of a state's filters
pub record AreAll (state : State) (watched : List Watched) : Type 0 where
  pub filters : map (λ w. w.filter) watched ≡ state.config.filters
  pub judged : AreJudged state watched

-- so a book keeps them
abbrev pub AreHeld : State → AllWatched → Type 0
AreHeld state standing = AreAll state standing.filters

-- one filter more stands behind the others, with its verdicts
pub record IsOneMore (state : State) (filtering : Filter) (old new : List Watched) : Type 0 where
  pub added : Watched
  pub filter : added.filter ≡ filtering
  pub judged : IsJudged state added
  pub behind : new ≡ old ++ added ∷ []

-- what holds of a book between calls
pub record IsBook (state : State) (standing : AllWatched) : Type 0 where
  pub sound : IsSound state
  pub held : AreHeld state standing

-- ---- what is made ready before an event
-- a state with a filter, if it is taken
abbrev pub with_filter : State → Filter → State
with_filter state filtering =
    record state {
      config =
          record state.config {
            filters =
                filters_after state.configured state.config.filters (AddFilter filtering);
          };
    }

-- the verdicts that an event finds: those of the filter that it adds are among them
abbrev pub AreHeldFor : What → State → AllWatched → Type 0
AreHeldFor Sit state standing = AreHeld state standing
AreHeldFor (Open peer) state standing = AreHeld state standing
AreHeldFor (Put peer table key life cells) state standing = AreHeld state standing
AreHeldFor (Clear table sel) state standing = AreHeld state standing
AreHeldFor (AddFilter filtering) state standing = AreHeld (with_filter state filtering) standing
AreHeldFor (DropFilter name) state standing = AreHeld state standing
AreHeldFor (Moment moment) state standing = AreHeld state standing
AreHeldFor Leave state standing = AreHeld state standing

-- the key of an update has room for its judgement, where a filter is of its table
abbrev pub HasRoomFor : What → Config → AllWatched → Type 0
HasRoomFor Sit config standing = Unit {0}
HasRoomFor (Open peer) config standing = Unit {0}
HasRoomFor (Put peer table key life cells) config standing =
    has_filter config table ≡ true → IsReady table key standing
HasRoomFor (Clear table sel) config standing = Unit {0}
HasRoomFor (AddFilter filtering) config standing = Unit {0}
HasRoomFor (DropFilter name) config standing = Unit {0}
HasRoomFor (Moment moment) config standing = Unit {0}
HasRoomFor Leave config standing = Unit {0}

-- ---- what an event leaves
-- nothing that verdicts rest on has changed
pub record Stays (state later : State) : Type 0 where
  pub config : later.config ≡ state.config
  pub moment : later.moment ≡ state.moment
  pub rows : later.rows ≡ state.rows

-- nothing but the rows of one key of a table
pub record ChangesKey (table : ℕ) (key : List ℕ) (state later : State) : Type 0 where
  pub config : later.config ≡ state.config
  pub moment : later.moment ≡ state.moment
  pub others : (t : ℕ) (other : List ℕ) → (t ≢ table) ⊎ (other ≢ key)
      → key_rows later.rows t other ≡ key_rows state.rows t other

-- nothing but the rows of a table
pub record ChangesTable (table : ℕ) (state later : State) : Type 0 where
  pub config : later.config ≡ state.config
  pub moment : later.moment ≡ state.moment
  pub others : (t : ℕ) (other : List ℕ) → t ≢ table
      → key_rows later.rows t other ≡ key_rows state.rows t other

-- nothing but the moment, which was told, and what was foreseen stays from it on
pub record GoesOn (told : ℕ) (state later : State) : Type 0 where
  pub config : later.config ≡ state.config
  pub moment : later.moment ≡ max state.moment told
  pub holds : (filtering : Filter) (key : List ℕ) (t : ℕ) → later.moment ≤ t
      → holds later filtering key t ≡ holds state filtering key t

-- nothing but a filter, which stands behind the others if it is taken
pub record HasMore (filtering : Filter) (state later : State) : Type 0 where
  pub tables : later.config.tables ≡ state.config.tables
  pub moment : later.moment ≡ state.moment
  pub rows : later.rows ≡ state.rows
  pub filters : later.config.filters ≡ (with_filter state filtering).config.filters

-- nothing but an added filter of a name, which is gone
pub record HasFewer (name : List ℕ) (state later : State) : Type 0 where
  pub tables : later.config.tables ≡ state.config.tables
  pub moment : later.moment ≡ state.moment
  pub rows : later.rows ≡ state.rows
  pub filters : later.config.filters ≡ dropped state.configured name state.config.filters

-- what an event leaves
abbrev pub Follows : What → State → State → Type 0
Follows Sit state later = Stays state later
Follows (Open peer) state later = Stays state later
Follows (Put peer table key life cells) state later = ChangesKey table key state later
Follows (Clear table sel) state later = ChangesTable table state later
Follows (AddFilter filtering) state later = HasMore filtering state later
Follows (DropFilter name) state later = HasFewer name state later
Follows (Moment told) state later = GoesOn told state later
Follows Leave state later = Stays state later
