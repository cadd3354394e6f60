-- What a standing filter holds, by the filter's name.
use Rattle.std.specs.Prelude.{ℕ, List, []}
use Rattle.std.specs.Option.{option_map_or}
use Rattle.agg_types.specs.Naming.{place_of}
use Rattle.fleet_model.specs.Answers.{filter_of, set_at}
use Rattle.fleet_model.specs.State.{State}

-- the keys that the filter with a name holds at the book's moment; none where there is no such
-- filter
abbrev pub keys_named : State → List ℕ → List (List ℕ)
keys_named state name =
    option_map_or (λ place. set_at state (filter_of state place) state.moment)
    (place_of (λ filter. filter.name) state.config.filters name) []
