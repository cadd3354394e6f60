use Rattle.std.proofs.Common.{◌≡◌, take, map}
use Rattle.session_core.specs.Run.{settled_entry}
use Rattle.session_core.proofs.run.clear_updated.Given as goal

abbrev pub invariant-loop-entry : goal.invariant-loop-entry
invariant-loop-entry l =
    (map settled_entry l.entries ≡ map settled_entry l.initial.entries)
    × (take l.entry-index l.entries ≡ map settled_entry (take l.entry-index l.entries))
