-- A session that is over, and one that was silent too long.
use Rattle.std.specs.Prelude.{◌≡◌, ℕ, [], Option, Some, None}
use Rattle.std.specs.Option.{option_map}
use Rattle.session_core.specs.Batched.{Batched}
use Rattle.session_core.specs.Cause.{cause_of}
use Rattle.session_core.specs.declared.cause.SessionCause.{SessionCause}
use Rattle.session_core.specs.declared.cause.End.{End}
use Rattle.session_core.specs.declared.cause.End.TheVariants.{TimedOut}
use Rattle.session_core.specs.declared.stage.Stage.{Stage}
use Rattle.session_core.specs.declared.stage.Stage.TheVariants.{Greeting, Talking, Over}

-- why it is over: that, unless it was over before
abbrev pub end_by_silence : Stage → End
end_by_silence (Greeting bytes) = TimedOut
end_by_silence (Talking dialogue) = TimedOut
end_by_silence (Over end peer) = end

-- the peer of an accepted hello
abbrev pub peer_of : Stage → Option ℕ
peer_of (Greeting bytes) = None
peer_of (Talking dialogue) = Some dialogue.peer
peer_of (Over end peer) = peer

-- the cause with which a session is over
abbrev pub over_with : Stage → Option SessionCause
over_with (Greeting bytes) = None
over_with (Talking dialogue) = None
over_with (Over end peer) = Some (cause_of end)

-- a piece gives nothing but this cause
abbrev pub IsOverAs : SessionCause → Batched → Option End → Type 0
IsOverAs cause batch end =
    (option_map cause_of end ≡ Some cause)
    × (batch ≡ record { facts = []; replies = []; acks = [] })
