-- What a piece of the stream gives, from what is kept before it.
use Rattle.std.specs.Prelude.{◌≡◌, ℕ, Bool, List, [], ◌∷◌, ◌++◌, codes, Option, Some, None, Result}
use Rattle.std.specs.Prelude.{Ok, Err}
use Rattle.std.specs.Option.{option_map}
use Rattle.peers_msg.specs.declared.fault.WireCause.TheVariants.{TooLong, BadInteger, BadField}
use Rattle.peers_msg.specs.declared.fault.WireCause.TheVariants.{NoMemory}
use Rattle.peers_msg.specs.DecoderState.{DecoderState}
use Rattle.peers_msg.specs.Spelling.{message_spelling}
use Rattle.peers_msg.specs.declared.message.Message.TheVariants as messages
use Rattle.peers_msg.specs.Message.{Reading, reading_of}
use Rattle.peers_msg.specs.Feed.{fed, decoder_of}
use Rattle.agg_types.specs.declared.config.Config.{Config}
use Rattle.agg_types.specs.declared.config.Shape.{Shape}
use Rattle.agg_types.specs.declared.event.What.{What}
use Rattle.agg_types.specs.declared.event.What.TheVariants.{Open}
use Rattle.session_core.specs.declared.cause.Status.{Status}
use Rattle.session_core.specs.declared.cause.Status.TheVariants as status
use Rattle.session_core.specs.declared.cause.End.{End}
use Rattle.session_core.specs.declared.cause.End.TheVariants as ends
use Rattle.session_core.specs.declared.stage.Stage.{Stage}
use Rattle.session_core.specs.declared.stage.Stage.TheVariants.{Greeting, Talking, Over}
use Rattle.session_core.specs.declared.stage.Outcome.{Outcome}
use Rattle.session_core.specs.declared.stage.StageOutcome.{StageOutcome}
use Rattle.session_core.specs.declared.track.Entry.{Entry}
use Rattle.session_core.specs.Batched.{Batched}
use Rattle.session_core.specs.Hello.{hello_of}
use Rattle.session_core.specs.Tracked.{Tracked}
use Rattle.session_core.specs.Run.{Run, run, acks_of, settled}

-- what a session uses of a configuration
pub record Setup : Type 0 where
  pub me : List ℕ
  pub peers : List (List ℕ)
  pub tables : List Shape

abbrev pub setup_of : Config → Setup
setup_of config = record { me = config.me; peers = config.peers; tables = config.tables }

-- the line that answers a hello
abbrev pub status_text : Status → List ℕ
status_text status.Accepted = codes "200\n"
status_text status.TryLater = codes "300\n"
status_text status.Protocol = codes "501\n"
status_text status.Version = codes "502\n"
status_text status.LocalName = codes "503\n"
status_text status.RemoteName = codes "504\n"

-- what is sent at the end of a stream of messages: size limit reached, or protocol error
abbrev pub end_text : End → List ℕ
end_text (ends.Wire TooLong) = message_spelling messages.SizeError
end_text (ends.Wire BadInteger) = message_spelling messages.ProtocolError
end_text (ends.Wire BadField) = message_spelling messages.ProtocolError
end_text (ends.Wire NoMemory) = []
end_text (ends.Refused status) = []
end_text ends.PeerError = []
end_text ends.TimedOut = []

abbrev pub nothing : Batched
nothing = record { facts = []; replies = []; acks = [] }

abbrev pub first_end : Option End → Option End → Option End
first_end None other = other
first_end (Some end) other = Some end

-- the end that a message shows, or else that of the stream
abbrev pub end_of : Run → Reading → Option End
end_of run reading = first_end run.end (option_map (λ wire. ends.Wire wire) reading.fault)

-- what a piece of messages gives, where it ends the session and where it doesn't
abbrev pub run_outcome : ℕ → DecoderState → Run → Option End → StageOutcome
run_outcome peer kept run None =
    record {
      stage = Talking (record {
        peer = peer;
        feed = kept;
        track = record { entries = settled run.track.entries; current = run.track.current };
      });
      batch = record { facts = run.facts; replies = run.replies; acks = acks_of run.track.entries };
      end = None;
    }
run_outcome peer kept run (Some end) =
    record {
      stage = Over end (Some peer);
      batch = record {
        facts = run.facts;
        replies = run.replies ++ end_text end;
        acks = acks_of run.track.entries;
      };
      end = Some end;
    }

unfoldable pub messages_outcome : List Shape → ℕ → Tracked → Reading → StageOutcome
messages_outcome tables peer track reading =
    run_outcome peer (decoder_of reading) (run tables peer track reading.messages)
    (end_of (run tables peer track reading.messages) reading)

-- behind what was said before it in the same piece
abbrev pub with_front : List What → List ℕ → StageOutcome → StageOutcome
with_front facts replies taken =
    record {
      stage = taken.stage;
      batch = record {
        facts = facts ++ taken.batch.facts;
        replies = replies ++ taken.batch.replies;
        acks = taken.batch.acks;
      };
      end = taken.end;
    }

-- what answers an accepted hello: 200, and a resync request
abbrev pub welcome : List ℕ
welcome = codes "200\n" ++ message_spelling messages.Request

abbrev pub untracked : Tracked
untracked = record { entries = []; current = None }

abbrev pub accepted_outcome : List Shape → ℕ × List ℕ → StageOutcome
accepted_outcome tables hello =
    with_front (Open hello.0 ∷ []) welcome
    (messages_outcome tables hello.0 untracked (reading_of hello.1))

abbrev pub refused_outcome : Status → StageOutcome
refused_outcome status =
    record {
      stage = Over (ends.Refused status) None;
      batch = record { facts = []; replies = status_text status; acks = [] };
      end = Some (ends.Refused status);
    }

abbrev pub hello_outcome : List Shape → List ℕ → Result (Option (ℕ × List ℕ)) Status → StageOutcome
hello_outcome tables bytes (Ok None) =
    record { stage = Greeting bytes; batch = nothing; end = None }
hello_outcome tables bytes (Err status) = refused_outcome status
hello_outcome tables bytes (Ok (Some hello)) = accepted_outcome tables hello

-- what a piece gives, from what is kept
unfoldable pub piece_of : Setup → Bool → Stage → List ℕ → StageOutcome
piece_of setup seated (Greeting bytes) piece =
    hello_outcome setup.tables (bytes
    ++ piece) (hello_of setup.me setup.peers seated (bytes ++ piece))
piece_of setup seated (Talking dialogue) piece =
    messages_outcome setup.tables dialogue.peer dialogue.track (fed dialogue.feed piece)
piece_of setup seated (Over end peer) piece =
    record { stage = Over end peer; batch = nothing; end = Some end }

-- what a piece gives, and where the session stands after it
abbrev pub with_stage : Outcome → Stage → StageOutcome
with_stage outcome stage = record { stage = stage; batch = outcome.batch; end = outcome.end }

-- where a peer's session stands after a piece that showed this end, or none
abbrev pub stage_at_end : Stage → ℕ → Option End → Stage
stage_at_end stage peer None = stage
stage_at_end stage peer (Some end) = Over end (Some peer)

-- what is sent at an end
abbrev pub end_reply : Option End → List ℕ
end_reply None = []
end_reply (Some end) = end_text end

-- no id has an update that wasn't acknowledged
abbrev pub AreSettled : List Entry → Type 0
AreSettled entries = settled entries ≡ entries

-- so it is between two pieces
abbrev pub IsSettled : Stage → Type 0
IsSettled (Greeting bytes) = Unit {0}
IsSettled (Talking dialogue) = AreSettled dialogue.track.entries
IsSettled (Over end peer) = Unit {0}
