use Rattle.std.proofs.Common.{◌≡◌, ◌≤◌, ◌<◌, ◌+◌, ℕ}
use Rattle.hub.specs.History.{Beginning}
use Rattle.serve.specs.declared.timer.Ticker.{Ticker}
use Rattle.serve.specs.Ticking.{HasBegun}
use Rattle.serve.proofs.timer.post_portions.Given as goal

-- portions were told up to a moment below what the clock gave
pub record Runs (hub : Beginning) (gives : ℕ → Type 0) (old ticker : Ticker) (at given : ℕ)
    : Type 0 where
  pub begun : HasBegun hub gives ticker.poster old.last (at + 1)
  pub from : old.last ≤ at
  pub below : at < given
  pub same_last : ticker.last ≡ old.last
  pub same_seat : ticker.poster.pass.seat ≡ old.poster.pass.seat

abbrev pub invariant-loop : goal.invariant-loop
invariant-loop g l =
    Runs l.context.hub.now (g.C.Clock.gives l.context.clock.now) l.fn.ticker l.ticker l.at l.given
