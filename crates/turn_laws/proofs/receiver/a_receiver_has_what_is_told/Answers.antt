use Rattle.turn_laws.proofs.Receiving.{received}
use Rattle.turn_laws.proofs.receiver.a_receiver_has_what_is_told.Goals as goal

pub returns : goal.returns
returns c = λ pushed steps place table key now is tables turns.
    received pushed place table key is tables steps now turns
