use Rattle.peers_msg.proofs.Numerals.{spelled, spelling_same, spelling_alone}
use Rattle.peers_msg.proofs.laws.one_spelling.Goals as goal

pub returns : goal.returns
returns c = record { spelled = spelled; only = spelling_same; alone = spelling_alone }
