use Rattle.std.proofs.Common.{◌≡◌, None, drop}
use Rattle.peers_msg.specs.Spelling.{pair_id, last_of}
use Rattle.peers_msg.proofs.parameters.last_pair.Given as goal

abbrev pub invariant-loop-pair : goal.invariant-loop-pair
invariant-loop-pair l =
    last_of pair_id l.found l.id (drop l.pair-index l.pairs)
    ≡ last_of pair_id None l.id l.pairs
