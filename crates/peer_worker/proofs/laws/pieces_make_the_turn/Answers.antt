use Rattle.peer_worker.proofs.Spoken.{said_and_unsaid, said_whole_text}
use Rattle.peer_worker.proofs.laws.pieces_make_the_turn.Goals as goal

pub returns : goal.returns
returns c = record {
  begins = said_and_unsaid;
  whole = said_whole_text;
}
