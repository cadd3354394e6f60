use Rattle.peers_msg.proofs.Readings.{reading_step}
use Rattle.peers_msg.proofs.laws.first_message.Goals as goal

pub returns : goal.returns
returns c = reading_step
