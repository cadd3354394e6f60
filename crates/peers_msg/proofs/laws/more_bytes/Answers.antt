use Rattle.peers_msg.proofs.Appended.{reading_more, reading_keeps, reading_ended}
use Rattle.peers_msg.proofs.laws.more_bytes.Goals as goal

pub returns : goal.returns
returns c = record { keeps = reading_keeps; ends = reading_ended; goes_on = reading_more }
