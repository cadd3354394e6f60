use Rattle.fleet_model.proofs.RankStarts.{start-is, start-of-ranked}
use Rattle.fleet_model.proofs.laws.a_ranking_begins_so.Goals as goal

pub returns : goal.returns
returns c = record { start = start-is; whole = start-of-ranked }
