use Rattle.peer_rows.proofs.Peers.{are_one}
use Rattle.peer_rows.proofs.key_rows.KeyRows.new.Goals as goal

pub invariant_of-result : goal.invariant_of-result
invariant_of-result c = (are_one c.args.peer c.args.row, tt)
