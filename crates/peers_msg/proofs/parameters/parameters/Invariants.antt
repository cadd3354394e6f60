use Rattle.std.proofs.Common.{◌≡◌, ◌++◌, length}
use Rattle.peers_msg.specs.Payload.{parameters_at, pairs_in, arrays_in}
use Rattle.peers_msg.proofs.parameters.parameters.Given as goal

abbrev pub invariant-loop-next : goal.invariant-loop-next
invariant-loop-next l =
    record {
      pairs : l.periods.items ++ pairs_in (parameters_at l.rest)
          ≡ pairs_in (parameters_at l.bytes);
      arrays : l.arrays.items ++ arrays_in (parameters_at l.rest)
          ≡ arrays_in (parameters_at l.bytes);
    }

abbrev pub decreases-loop-next : goal.decreases-loop-next
decreases-loop-next l = length l.rest
