-- A timer at work.
use Rattle.std.specs.Prelude.{◌≡◌, ℕ, List, [], ◌++◌, map, Bool, true, false, Result, Ok, Err}
use Rattle.agg_types.specs.declared.event.What.TheVariants.{Moment}
use Rattle.hub.specs.declared.faults.PostFault.{PostFault}
use Rattle.hub.specs.History.{Beginning}
use Rattle.worker_frame.specs.declared.poster.Poster.{Poster}
use Rattle.serve.specs.declared.timer.Ticker.{Ticker}
use Rattle.worker_frame.specs.Moments.{AreTurns, HasTimed, RiseWithin, TimerTurn, last_of}
use Rattle.worker_frame.specs.Moments.{moments_of}
use Rattle.worker_frame.specs.Told.{HasTold, stored_of}

-- turns were told, the last of which ended with a moment, and these portions of one more
pub record IsTicking (hub : Beginning) (gives : ℕ → Type 0) (poster : Poster) (last : ℕ)
    (portions : List ℕ) : Type 0 where
  pub turns : List TimerTurn
  pub are : AreTurns gives 0 turns
  pub last_is : last_of 0 turns ≡ last
  pub told : HasTold hub poster (map Moment (moments_of turns ++ portions)) 0

-- the same with some portions, from behind that moment and below another
pub record HasBegun (hub : Beginning) (gives : ℕ → Type 0) (poster : Poster) (last high : ℕ)
    : Type 0 where
  pub portions : List ℕ
  pub rise : RiseWithin last portions high
  pub ticking : IsTicking hub gives poster last portions

-- the portions of a turn were told, if there are any; or one was refused
abbrev pub PortionsTo : Beginning → (ℕ → Type 0) → ℕ → ℕ → Poster → Result Bool PostFault → Type 0
PortionsTo hub gives last given poster (Ok goes) = HasBegun hub gives poster last given
PortionsTo hub gives last given poster (Err fault) =
    HasTimed hub gives true poster (stored_of fault 1)

-- a turn was told whole, or nothing was posted; or it was cut short
abbrev pub TurnsTo : Beginning → (ℕ → Type 0) → Ticker → Result Bool PostFault → Type 0
TurnsTo hub gives ticker (Ok true) = IsTicking hub gives ticker.poster ticker.last []
TurnsTo hub gives ticker (Ok false) = HasTimed hub gives true ticker.poster 0
TurnsTo hub gives ticker (Err fault) = HasTimed hub gives true ticker.poster (stored_of fault 1)
