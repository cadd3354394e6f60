-- What a connection makes of a piece of its stream.
use Rattle.std.specs.Prelude.{Bool, true, false, None, ◌≡◌, ℕ, ◌+◌, ◌==◌, if◌then◌else◌, List, ◌++◌}
use Rattle.std.specs.Prelude.{length, drop, is_some, [], Option, Some}
use Rattle.std.specs.Option.{option_map}
use Rattle.agg_types.specs.declared.config.Config.{Config}
use Rattle.session_core.specs.Asking.{asks_all}
use Rattle.session_core.specs.Cause.{cause_of}
use Rattle.session_core.specs.Silence.{peer_of}
use Rattle.session_core.specs.Piece.{setup_of}
use Rattle.session_core.specs.Talk.{Talk, stage_of, talk}
use Rattle.pushed_keys.specs.declared.pushed.Pushed.{Pushed}
use Rattle.telling.specs.Telling.{asked, told_after, turn_text}
use Rattle.fleet_core.specs.declared.connection.Connection.{Connection}
use Rattle.fleet_core.specs.declared.connection.Outcome.{Outcome}
use Rattle.fleet_core.specs.Links.{found}
use Rattle.fleet_core.specs.Possible.{sent_between}
use Rattle.fleet_core.specs.Telling.{replies_between}

-- the connection's stream stands where these bytes leave it
abbrev pub IsAfter : Connection → Config → List ℕ → Type 0
IsAfter connection config bytes =
    connection.session.stage ≡ stage_of (setup_of config) connection.session.seated bytes

-- the talk of the bytes of a connection that has a seat, or none
abbrev pub talk_at : Config → Bool → List ℕ → Talk
talk_at config seated bytes = talk (setup_of config) seated bytes

-- the piece gives what the talk with it has beyond the talk without it, and the end is the talk's
pub record Feeds (given : Outcome) (old new : Connection) (config : Config)
    (bytes piece : List ℕ) : Type 0 where
  pub facts : given.facts
      ≡ drop (length (talk_at config old.session.seated bytes).facts)
      (talk_at config old.session.seated (bytes ++ piece)).facts
  pub out : given.out
      ≡ sent_between config (talk_at config old.session.seated bytes)
      (talk_at config old.session.seated (bytes ++ piece))
  pub end : given.end
      ≡ option_map cause_of (talk_at config old.session.seated (bytes ++ piece)).end
  pub stage : new.session.stage
      ≡ stage_of (setup_of config) old.session.seated (bytes ++ piece)
  pub seated : new.session.seated ≡ old.session.seated
  pub teller : new.teller ≡ (if asks_all (replies_between
      (talk_at config old.session.seated bytes)
      (talk_at config old.session.seated (bytes ++ piece)))
      then asked old.teller else old.teller)
  pub next_seq : new.next_seq ≡ option_map (λ seq. seq + length given.facts) old.next_seq

-- one connection's entry is this one, or none, and all others are as before
abbrev pub IsSet : List (ℕ × Connection) → List (ℕ × Connection) → ℕ → Option Connection → Type 0
IsSet old new conn entry =
    (other : ℕ) → found new other ≡ (if other == conn then entry else found old other)

-- it is gone if its stream ended, and else all are as before
abbrev pub IsClosedIf : Bool → List (ℕ × Connection) → List (ℕ × Connection) → ℕ → Type 0
IsClosedIf true old new conn = IsSet old new conn None
IsClosedIf false old new conn = (other : ℕ) → found new other ≡ found old other

-- the connection at this number was fed with the piece
pub record FeedsAt (given : Outcome) (old new : List (ℕ × Connection)) (conn : ℕ)
    (before : Connection) (config : Config) (bytes piece : List ℕ) : Type 0 where
  pub after : Connection
  pub feeds : Feeds given before after config bytes piece
  pub set : IsSet old new conn (Some after)

-- a connection whose hello was accepted makes a turn over these sets; another says nothing
pub record Tells (bytes : List ℕ) (old new : Connection) (pushed : List Pushed)
    (sets : List (List (List ℕ))) (now : ℕ) : Type 0 where
  pub out : bytes ≡ (if is_some (peer_of old.session.stage)
      then turn_text pushed sets now old.teller else [])
  pub teller : new.teller ≡ (if is_some (peer_of old.session.stage)
      then told_after pushed sets now old.teller else old.teller)
  pub stage : new.session.stage ≡ old.session.stage
  pub seated : new.session.seated ≡ old.session.seated
  pub next_seq : new.next_seq ≡ old.next_seq

-- the connection at this number makes a turn, or says nothing
pub record TellsAt (bytes : List ℕ) (old new : List (ℕ × Connection)) (conn : ℕ)
    (before : Connection) (pushed : List Pushed) (sets : List (List (List ℕ))) (now : ℕ)
    : Type 0 where
  pub after : Connection
  pub tells : Tells bytes before after pushed sets now
  pub set : IsSet old new conn (Some after)
