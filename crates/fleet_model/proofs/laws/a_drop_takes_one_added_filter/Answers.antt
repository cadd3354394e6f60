use Rattle.fleet_model.proofs.Named.{configured_first, drop_frees, drop_gone, drop_others}
use Rattle.fleet_model.proofs.laws.a_drop_takes_one_added_filter.Goals as goal

pub returns : goal.returns
returns c = record {
  configured = configured_first;
  gone = drop_gone;
  others = drop_others;
  freed = drop_frees;
}
