-- What a timer tells.
use Rattle.std.specs.Prelude.{◌≡◌, ◌<◌, ℕ, List, [], ◌∷◌, ◌++◌, map, Bool, true, false, Result, Ok}
use Rattle.std.specs.Prelude.{Err, MatchResult}
use Rattle.agg_types.specs.declared.event.What.{What}
use Rattle.agg_types.specs.declared.event.What.TheVariants.{Moment}
use Rattle.hub.specs.History.{Beginning}
use Rattle.worker_frame.specs.declared.poster.Poster.{Poster}
use Rattle.worker_frame.specs.declared.served.Cause.{Cause}
use Rattle.worker_frame.specs.declared.served.Cause.TheVariants.{Read, Write, Session, Post, Look}
use Rattle.worker_frame.specs.declared.served.Served.{Served}
use Rattle.worker_frame.specs.Told.{HasTold, IsServed, stored_of}
use Rattle.worker_frame.specs.declared.served.Faulted.{Faulted}

-- a turn: the moment that its clock gave, and what it tells before it
pub record TimerTurn : Type 0 where
  pub portions : List ℕ
  pub given : ℕ

-- moments that rise, all behind one moment and before another
abbrev pub RiseWithin : ℕ → List ℕ → ℕ → Type 0
RiseWithin low [] high = Unit {0}
RiseWithin low (moment ∷ later) high =
    (low < moment) × (moment < high) × RiseWithin moment later high

-- Its portions rise from behind what the turn before ended with, and are less than what the clock
-- gave. So where the clock doesn't rise there are none.
pub record IsTurn (gives : ℕ → Type 0) (low : ℕ) (turn : TimerTurn) : Type 0 where
  pub given : gives turn.given
  pub rise : RiseWithin low turn.portions turn.given

-- turns in their order, the first of which begins behind a moment
abbrev pub AreTurns : (ℕ → Type 0) → ℕ → List TimerTurn → Type 0
AreTurns gives low [] = Unit {0}
AreTurns gives low (turn ∷ later) = IsTurn gives low turn × AreTurns gives turn.given later

-- what the last one ended with; without one, where they begin
abbrev pub last_of : ℕ → List TimerTurn → ℕ
last_of low [] = low
last_of low (turn ∷ later) = last_of turn.given later

-- all that they tell
abbrev pub moments_of : List TimerTurn → List ℕ
moments_of [] = []
moments_of (turn ∷ later) = turn.portions ++ turn.given ∷ moments_of later

-- the portions of a turn that was cut short
abbrev pub AreBegun : Bool → (ℕ → Type 0) → ℕ → List ℕ → Type 0
AreBegun cut gives low [] = Unit {0}
AreBegun false gives low (moment ∷ later) = ⊥
AreBegun true gives low (moment ∷ later) =
    (given : ℕ) × IsTurn gives low (record { portions = moment ∷ later; given = given })

-- These are the moments of turns, whole ones, and where one may be cut short, of one more that told
-- no more than its portions.
pub record AreMoments (gives : ℕ → Type 0) (cut : Bool) (whats : List What) : Type 0 where
  pub turns : List TimerTurn
  pub begun : List ℕ
  pub are : AreTurns gives 0 turns
  pub begin : AreBegun cut gives (last_of 0 turns) begun
  pub is : whats ≡ map Moment (moments_of turns ++ begun)

-- whether a timer that ended may have cut its last turn short: not where it made all its turns
abbrev pub cut_by : Cause → Bool
cut_by Read = false
cut_by Write = true
cut_by (Session cause) = true
cut_by (Post fault) = true
cut_by Look = true

-- the same, and where the gate said so
abbrev pub cut_at : {A : Type 0} → Result A Cause → Bool
cut_at (Ok done) = true
cut_at (Err cause) = cut_by cause

-- how many events of a batch of one are stored, though it was refused
abbrev pub stored_by : Cause → ℕ
stored_by Read = 0
stored_by Write = 0
stored_by (Session cause) = 0
stored_by (Post fault) = stored_of fault 1
stored_by Look = 0

abbrev pub stored_at : {A : Type 0} → Result A Cause → ℕ
stored_at (Ok done) = 0
stored_at (Err cause) = stored_by cause

-- a poster that told moments of a clock's turns, and nothing else
pub record HasTimed (hub : Beginning) (gives : ℕ → Type 0) (cut : Bool) (poster : Poster)
    (waiting : ℕ) : Type 0 where
  pub moments : List What
  pub are : AreMoments gives cut moments
  pub told : HasTold hub poster moments waiting

-- what a timer's receipts show: moments of its clock's turns, and so many events more
pub record IsTimed (hub : Beginning) (gives : ℕ → Type 0) (cut : Bool) (seat waiting : ℕ)
    (served : Served) : Type 0 where
  pub moments : List What
  pub are : AreMoments gives cut moments
  pub shown : IsServed hub seat moments waiting served

-- a timer told a hub moments of a clock's turns, at some seat
pub record WasTimed (gives : ℕ → Type 0) (ended : Result Served Faulted) : Type 0 where
  pub hub : Beginning
  pub seat : ℕ
  pub how : MatchResult ended (IsTimed hub gives true seat 0)
      (λ faulted. IsTimed hub gives (cut_by faulted.cause) seat (stored_by faulted.cause)
      faulted.served)
