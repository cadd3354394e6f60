-- What is told of a filter and one key.
use Rattle.std.specs.Prelude.{◌≡◌, ℕ, List}
use Rattle.agg_types.specs.declared.config.Filter.{Filter}
use Rattle.fleet_model.specs.Changes.{IsKeyChange}
use Rattle.fleet_model.specs.Keys.{holds}
use Rattle.fleet_model.specs.State.{State}
use Rattle.standing_filters.specs.declared.judging.Verdict.{Verdict}

-- whether the filter holds the key at the state's moment, and when the clock alone changes that
pub record IsForetold (state : State) (filter : Filter) (key : List ℕ) (verdict : Verdict) : Type 0
  where
    pub holds : verdict.holds ≡ holds state filter key state.moment
    pub next : IsKeyChange state filter key verdict.next
