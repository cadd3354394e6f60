use Rattle.std.proofs.Common.{◌-◌, ◌≤◌, length, drop, map}
use Rattle.peers_msg.specs.Lent.{entry_message}
use Rattle.peers_msg.proofs.Readings.{IsSoFar}
use Rattle.peers_msg.proofs.decoding.decode.Given as goal

abbrev pub invariant-loop-entry : goal.invariant-loop-entry
invariant-loop-entry l =
    IsSoFar l.bytes.items (drop l.at l.bytes.items)
    (map (entry_message l.bytes.items) l.entries.items)
    × (l.at ≤ length l.bytes.items)

abbrev pub decreases-loop-entry : goal.decreases-loop-entry
decreases-loop-entry l = length l.bytes.items - l.at
