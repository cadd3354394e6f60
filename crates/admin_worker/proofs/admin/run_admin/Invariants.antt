use Rattle.std.proofs.Common.{◌≡◌, ℕ, ◌≤◌, []}
use Rattle.hub.specs.History.{Beginning}
use Rattle.admin_worker.specs.declared.worker.AdminWorker.{AdminWorker}
use Rattle.worker_frame.specs.declared.door.Door.{Door}
use Rattle.admin_worker.specs.Commanding.{KeepsPoster, Works}
use Rattle.worker_frame.specs.Traffic.{Traffic, so_far}
use Rattle.admin_worker.proofs.admin.run_admin.Given as goal

-- the admin works on, and how often its source was read
pub record Runs (door : Door) (hub : Beginning) (old worker : AdminWorker) (start now : Traffic)
    (reads made failed0 failed : ℕ) : Type 0 where
  pub works : Works door hub old.poster.pass.seat worker [] start now
  pub keeps : KeepsPoster hub old worker
  pub counted : reads ≡ made
  pub fails : failed0 ≤ failed

abbrev pub invariant-loop-made : goal.invariant-loop-made
invariant-loop-made g l =
    Runs l.fn.worker.manner.door l.context.hub.now l.fn.worker l.worker
    (so_far (g.S.Source.given l.fn.link.source) (g.W.Write.contents l.fn.link.writer))
    (so_far (g.S.Source.given l.link.source) (g.W.Write.contents l.link.writer))
    (g.S.Source.reads l.link.source) l.made
    (g.S.Source.failed l.fn.link.source) (g.S.Source.failed l.link.source)
