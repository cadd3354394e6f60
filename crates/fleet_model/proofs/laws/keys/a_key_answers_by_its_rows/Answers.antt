use Rattle.fleet_model.proofs.KeyCounts.{live-if-any}
use Rattle.fleet_model.proofs.KeyRows.{live-rows, meets-rows, summed-rows, value-rows}
use Rattle.fleet_model.proofs.laws.keys.a_key_answers_by_its_rows.Goals as goal

pub returns : goal.returns
returns c = record {
  values = value-rows;
  conditions = meets-rows;
  lives = live-rows;
  sums =
      summed-rows;
  any = live-if-any;
}
