use Rattle.std.proofs.Common.{◌≡◌, ℕ, []}
use Rattle.hub.specs.History.{Beginning}
use Rattle.serve.specs.declared.timer.Ticker.{Ticker}
use Rattle.serve.specs.Ticking.{IsTicking}
use Rattle.serve.proofs.timer.post_moments.Given as goal

-- turns were told whole at one seat, and nothing else
pub record Runs (hub : Beginning) (gives : ℕ → Type 0) (ticker : Ticker) (seat : ℕ) : Type 0 where
  pub at : IsTicking hub gives ticker.poster ticker.last []
  pub same_seat : ticker.poster.pass.seat ≡ seat

abbrev pub invariant-loop : goal.invariant-loop
invariant-loop g l =
    Runs l.context.hub.now (g.C.Clock.gives l.context.clock.now) l.ticker
    l.fn.ticker.poster.pass.seat
