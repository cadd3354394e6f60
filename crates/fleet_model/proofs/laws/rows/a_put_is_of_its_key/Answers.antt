use Rattle.fleet_model.proofs.KeyRows.{put-others, put-own}
use Rattle.fleet_model.proofs.laws.rows.a_put_is_of_its_key.Goals as goal

pub returns : goal.returns
returns c = record { own = put-own; others = put-others }
