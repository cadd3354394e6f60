-- How a hub is opened.
use Rattle.std.specs.Prelude.{◌≡◌, ℕ, []}
use Rattle.agg_types.specs.declared.config.Config.{Config}
use Rattle.hub.specs.History.{Beginning}

-- no event yet, of this configuration and opening moment
pub record IsOpening (config : Config) (opening : ℕ) (b : Beginning) : Type 0 where
  pub config_is : b.config ≡ config
  pub opening_is : b.opening ≡ opening
  pub empty : b.events ≡ []
