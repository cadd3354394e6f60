-- The place of the filter that an event drops.
use Rattle.std.specs.Prelude.{◌≡◌, ℕ, ◌<◌, List, Option, IfSome, length, remove}
use Rattle.std.specs.Option.{option_map_or}
use Rattle.agg_types.specs.declared.event.What.{What}
use Rattle.agg_types.specs.declared.event.What.TheVariants.{Sit, Open, Put, Clear, AddFilter}
use Rattle.agg_types.specs.declared.event.What.TheVariants.{DropFilter, Moment, Leave}
use Rattle.fleet_model.specs.Filters.{dropped}
use Rattle.fleet_model.specs.State.{State}

-- the place of the added filter of a name
pub record IsAddedPlace (state : State) (name : List ℕ) (place : Option ℕ) : Type 0 where
  pub within : IfSome place (λ p. p < length state.config.filters)
  pub gone : dropped state.configured name state.config.filters
      ≡ option_map_or (λ p. remove state.config.filters p) place state.config.filters

-- the place of the filter that an event drops
abbrev pub IsLeaving : State → What → Option ℕ → Type 0
IsLeaving state Sit place = Unit {0}
IsLeaving state (Open peer) place = Unit {0}
IsLeaving state (Put peer table key life cells) place = Unit {0}
IsLeaving state (Clear table sel) place = Unit {0}
IsLeaving state (AddFilter filtering) place = Unit {0}
IsLeaving state (DropFilter name) place = IsAddedPlace state name place
IsLeaving state (Moment moment) place = Unit {0}
IsLeaving state Leave place = Unit {0}
