use Rattle.fleet_model.proofs.KeyRows.{all-stay, one-goes}
use Rattle.fleet_model.proofs.laws.rows.rows_go_one_by_one.Goals as goal

pub returns : goal.returns
returns c = record { one = one-goes; all = all-stay }
