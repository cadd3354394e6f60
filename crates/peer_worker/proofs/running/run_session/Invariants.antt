use Rattle.std.proofs.Common.{◌≡◌, ℕ, ◌≤◌, Bool, Option}
use Rattle.hub.specs.History.{Beginning}
use Rattle.peer_worker.specs.declared.worker.Worker.{Worker}
use Rattle.session_core.specs.State.{SessionState}
use Rattle.peer_worker.specs.Silent.{IsHeard}
use Rattle.worker_frame.specs.Traffic.{Traffic, so_far}
use Rattle.peer_worker.specs.Turns.{seat_at}
use Rattle.peer_worker.specs.Working.{Works}
use Rattle.peer_worker.proofs.running.run_session.Given as goal

-- the session works on, and how often its source was read
pub record Runs (hub : Beginning) (seated : Bool) (worker : Worker) (start now : Traffic)
    (seat : Option ℕ) (reads made failed0 failed : ℕ) (gives : ℕ → Type 0)
    (first : SessionState) : Type 0 where
  pub works : Works hub seated worker start now
  pub same_seat : seat_at worker.poster ≡ seat
  pub counted : reads ≡ made
  pub fails : failed0 ≤ failed
  pub heard : IsHeard gives first → IsHeard gives worker.session

abbrev pub invariant-loop-made : goal.invariant-loop-made
invariant-loop-made g l =
    Runs l.context.hub.now l.fn.worker.session.seated l.worker
    (so_far (g.S.Source.given l.fn.link.source) (g.W.Write.contents l.fn.link.writer))
    (so_far (g.S.Source.given l.link.source) (g.W.Write.contents l.link.writer))
    (seat_at l.fn.worker.poster) (g.S.Source.reads l.link.source) l.made
    (g.S.Source.failed l.fn.link.source) (g.S.Source.failed l.link.source)
    (g.C.Clock.gives l.context.clock.now) l.fn.worker.session
