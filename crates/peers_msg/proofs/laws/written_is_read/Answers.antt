use Rattle.peers_msg.proofs.Again.{reading_again}
use Rattle.peers_msg.proofs.Written.{in_order_same}
use Rattle.peers_msg.proofs.laws.written_is_read.Goals as goal

pub returns : goal.returns
returns c = record { read = reading_again; same = in_order_same }
