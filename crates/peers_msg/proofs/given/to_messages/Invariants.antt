use Rattle.std.proofs.Common.{◌≡◌, ◌++◌, map, drop}
use Rattle.peers_msg.specs.Lent.{entry_message}
use Rattle.peers_msg.proofs.given.to_messages.Given as goal

abbrev pub invariant-loop-entry : goal.invariant-loop-entry
invariant-loop-entry l =
    l.messages.items ++ map (entry_message l.bytes) (drop l.entry-index l.entries)
    ≡ map (entry_message l.bytes) l.entries
