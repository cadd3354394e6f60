-- Why a session is over.
use Rattle.session_core.specs.declared.cause.End.{End}
use Rattle.session_core.specs.declared.cause.End.TheVariants.{Refused, Wire, PeerError, TimedOut}
use Rattle.session_core.specs.declared.cause.SessionCause.{SessionCause}
use Rattle.session_core.specs.declared.cause.SessionCause.TheVariants as cause

-- an end as the cause of a fault
abbrev pub cause_of : End → SessionCause
cause_of (Refused status) = cause.Refused status
cause_of (Wire wire) = cause.Wire wire
cause_of PeerError = cause.PeerError
cause_of TimedOut = cause.TimedOut
