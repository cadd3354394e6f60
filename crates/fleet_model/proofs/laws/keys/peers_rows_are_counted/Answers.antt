use Rattle.fleet_model.proofs.KeyCounts.{held-put, held-taken}
use Rattle.fleet_model.proofs.laws.keys.peers_rows_are_counted.Goals as goal

pub returns : goal.returns
returns c = record { put = held-put; taken = held-taken }
