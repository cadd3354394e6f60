use Rattle.peers_msg.proofs.Spellings.{IsAppended}
use Rattle.peers_msg.proofs.integer.append_tail.Given as goal

abbrev pub invariant-loop-value : goal.invariant-loop-value
invariant-loop-value l = IsAppended l.fn.out.items l.fn.value l.out.items l.value

abbrev pub decreases-loop-value : goal.decreases-loop-value
decreases-loop-value l = l.value
