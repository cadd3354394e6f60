use Rattle.peers_msg.proofs.ReadsAll.{reading_reads, reads_reading}
use Rattle.peers_msg.proofs.laws.one_reading.Goals as goal

pub returns : goal.returns
returns c = record { reads = reading_reads; only = reads_reading }
