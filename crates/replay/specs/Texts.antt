-- What a step prints.
use Rattle.std.specs.Prelude.{ℕ, List, [], ◌∷◌, ◌++◌, codes}
use Rattle.std.specs.Fmt.{decimal}
use Rattle.hex.specs.Hex.{encode_lower}
use Rattle.peers_msg.specs.declared.fault.WireCause.{WireCause}
use Rattle.peers_msg.specs.declared.fault.WireCause.TheVariants as wire
use Rattle.session_core.specs.declared.cause.SessionCause.{SessionCause}
use Rattle.session_core.specs.declared.cause.SessionCause.TheVariants as cause
use Rattle.session_core.specs.declared.cause.Status.{Status}
use Rattle.session_core.specs.declared.cause.Status.TheVariants.{Accepted, TryLater, Protocol}
use Rattle.session_core.specs.declared.cause.Status.TheVariants.{Version, LocalName, RemoteName}

-- a connection came
abbrev pub conn_text : ℕ → List ℕ
conn_text conn = codes "conn " ++ decimal conn ++ codes "\n"

-- what is sent, if anything is, in hexadecimal digits
abbrev pub sent_text : ℕ → List ℕ → List ℕ
sent_text conn [] = []
sent_text conn (byte ∷ bytes) =
    codes "send " ++ decimal conn ++ codes " " ++ encode_lower (byte ∷ bytes) ++ codes "\n"

-- the number of a hello's answer
abbrev pub status_text : Status → List ℕ
status_text Accepted = codes "200"
status_text TryLater = codes "300"
status_text Protocol = codes "501"
status_text Version = codes "502"
status_text LocalName = codes "503"
status_text RemoteName = codes "504"

abbrev pub wire_text : WireCause → List ℕ
wire_text wire.TooLong = codes "TooLong"
wire_text wire.BadInteger = codes "BadInteger"
wire_text wire.BadField = codes "BadField"
wire_text wire.NoMemory = codes "NoMemory"

-- why a session ended, behind a space
abbrev pub cause_text : SessionCause → List ℕ
cause_text (cause.Refused status) = codes " Refused " ++ status_text status
cause_text (cause.Wire wire) = codes " Wire " ++ wire_text wire
cause_text cause.PeerError = codes " PeerError"
cause_text cause.NoMemory = codes " NoMemory"
cause_text cause.TimedOut = codes " TimedOut"

-- a session ended
abbrev pub end_text : ℕ → SessionCause → List ℕ
end_text conn cause = codes "end " ++ decimal conn ++ cause_text cause ++ codes "\n"
