use Rattle.std.proofs.Common.{◌≡◌, map, take}
use Rattle.peer_worker.specs.Turns.{set_named}
use Rattle.peer_worker.proofs.pushing.sets_in.Given as goal

abbrev pub invariant-loop-table : goal.invariant-loop-table
invariant-loop-table l =
    map (λ set. map (λ key. key.now) set.items) l.sets.items
    ≡ map (set_named l.book) (take l.table-index l.pushed)
