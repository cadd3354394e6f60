use Rattle.std.proofs.Common.{◌≡◌, None, drop}
use Rattle.peers_msg.specs.Spelling.{array_id, last_of}
use Rattle.peers_msg.proofs.parameters.last_array.Given as goal

abbrev pub invariant-loop-array : goal.invariant-loop-array
invariant-loop-array l =
    last_of array_id l.found l.id (drop l.array-index l.arrays)
    ≡ last_of array_id None l.id l.arrays
