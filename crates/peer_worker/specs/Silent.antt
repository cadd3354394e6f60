-- When a session was heard last, and what ends it for its silence.
use Rattle.std.specs.Prelude.{◌≡◌, ◌⊎◌, ℕ, ◌+◌, ◌≤◌, false, Result, Ok, Err}
use Rattle.session_core.specs.State.{SessionState}
use Rattle.session_core.specs.declared.cause.SessionCause.TheVariants as causes
use Rattle.session_core.specs.declared.session.TheConstants.{LONGEST_SILENCE}
use Rattle.peer_worker.specs.declared.faults.TurnFault.{TurnFault}
use Rattle.peer_worker.specs.declared.faults.TurnFault.TheVariants as faults
use Rattle.worker_frame.specs.declared.served.Cause.{Cause}
use Rattle.worker_frame.specs.declared.served.Cause.TheVariants.{Session}

-- a clock can give two moments, the later one at least the longest silence behind the earlier
pub record WasSilent (gives : ℕ → Type 0) : Type 0 where
  pub earlier : ℕ
  pub later : ℕ
  pub heard : gives earlier
  pub missed : gives later
  pub apart : earlier + LONGEST_SILENCE ≤ later

-- it was heard last at a moment that a clock can give, and isn't late
pub record IsHeard (gives : ℕ → Type 0) (session : SessionState) : Type 0 where
  pub heard : gives session.last_input
  pub in_time : session.late ≡ false

-- a step at a moment leaves a session heard when it was before, or then, and in time; or it ends,
-- for silence only that long behind
abbrev pub HearsAt : {A : Type 0} → ℕ → SessionState → SessionState → Result A TurnFault → Type 0
HearsAt now old new (Ok done) =
    ((new.last_input ≡ old.last_input) ⊎ (new.last_input ≡ now)) × (new.late ≡ false)
HearsAt now old new (Err fault) =
    fault ≡ faults.Session causes.TimedOut → old.last_input + LONGEST_SILENCE ≤ now

-- the same at a moment that a clock can give
abbrev pub HearsOn : {A : Type 0} → (ℕ → Type 0) → SessionState → Result A TurnFault → Type 0
HearsOn gives session (Ok done) = IsHeard gives session
HearsOn gives session (Err fault) = fault ≡ faults.Session causes.TimedOut → WasSilent gives

-- the same of a step that ends for a cause
abbrev pub HearsUntil : {A : Type 0} → (ℕ → Type 0) → SessionState → Result A Cause → Type 0
HearsUntil gives session (Ok done) = IsHeard gives session
HearsUntil gives session (Err cause) = cause ≡ Session causes.TimedOut → WasSilent gives
