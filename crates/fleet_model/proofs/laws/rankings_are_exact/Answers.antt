use Rattle.fleet_model.proofs.Ranks.{only_ranking, rankings}
use Rattle.fleet_model.proofs.laws.rankings_are_exact.Goals as goal

pub returns : goal.returns
returns c = record { is_one = rankings; only = only_ranking }
