use Rattle.std.proofs.Common.{◌≡◌, map, take}
use Rattle.peer_worker.specs.Gathering.{said_by_change, said_by_move}
use Rattle.peer_worker.proofs.moves.moves_of.Given as goal

abbrev pub invariant-loop-change : goal.invariant-loop-change
invariant-loop-change l = map said_by_move l.moves.items
    ≡ map said_by_change (map (λ change. change.now) (take l.change-index l.changes))
