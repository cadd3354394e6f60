use Rattle.std.proofs.Common.{◌≡◌, ◌++◌, take}
use Rattle.std.specs.List.{flat_map}
use Rattle.session_core.specs.Run.{ack_of}
use Rattle.session_core.proofs.run.write_acks.Given as goal

abbrev pub invariant-loop-entry : goal.invariant-loop-entry
invariant-loop-entry l = l.out.items ≡ l.initial.out.items
    ++ flat_map ack_of (take l.entry-index l.entries)
