use Rattle.std.proofs.Common.{ℕ, List, Option, length}
use Rattle.hub.specs.History.{Beginning}
use Rattle.admin_worker.specs.declared.worker.AdminWorker.{AdminWorker}
use Rattle.worker_frame.specs.declared.door.Door.{Door}
use Rattle.admin_worker.specs.Commanding.{KeepsPoster, Works}
use Rattle.worker_frame.specs.Traffic.{Traffic, so_far}
use Rattle.admin_worker.proofs.admin.take_parts.Given as goal

-- the lines so far were obeyed, and these bytes of the piece are left
pub record TakesSome (hub : Beginning) (old worker : AdminWorker)
    (piece rest : List ℕ) (before after : Option (List ℕ)) : Type 0 where
  pub keeps : KeepsPoster hub old worker
  pub works : (door : Door) (seat : ℕ) (start : Traffic) (given : Option (List ℕ))
      → Works door hub seat old piece start (so_far given before)
      → Works door hub seat worker rest start (so_far given after)

abbrev pub invariant-loop-front : goal.invariant-loop-front
invariant-loop-front g l =
    TakesSome l.context.hub.now l.fn.worker l.worker l.fn.piece l.rest
    (g.W.Write.contents l.fn.writer) (g.W.Write.contents l.writer)

abbrev pub decreases-loop-front : goal.decreases-loop-front
decreases-loop-front g l = length l.rest
