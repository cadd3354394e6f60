use Rattle.peers_msg.proofs.Integers.{IsRead}
use Rattle.peers_msg.proofs.integer.get_long_int.Given as goal

abbrev pub invariant-loop-i : goal.invariant-loop-i
invariant-loop-i l = IsRead l.first l.rest l.i l.value l.weight
