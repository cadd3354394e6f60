use Rattle.fleet_model.proofs.Running.{sum-insert, sum-remove, sum-split}
use Rattle.fleet_model.proofs.laws.sums_follow_rows.Goals as goal

pub returns : goal.returns
returns c = record { put = sum-insert; taken = sum-remove; split = sum-split }
