use Rattle.agg_config.proofs.ConfigBack.{config_back}
use Rattle.agg_config.proofs.laws.written_configuration_is_read.Goals as goal

pub returns : goal.returns
returns c = config_back
