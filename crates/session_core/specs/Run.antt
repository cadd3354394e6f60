-- What the messages of a piece do, one after the other.
use Rattle.std.specs.Prelude.{◌≡◌, ℕ, false, if◌then◌else◌, List, [], ◌∷◌, ◌++◌, map, Option, Some}
use Rattle.std.specs.Prelude.{None}
use Rattle.std.specs.List.{flat_map}
use Rattle.peers_msg.specs.declared.message.Message.{Message}
use Rattle.peers_msg.specs.declared.message.Message.TheVariants as messages
use Rattle.peers_msg.specs.Spelling.{message_spelling}
use Rattle.agg_types.specs.declared.config.Shape.{Shape}
use Rattle.agg_types.specs.declared.event.What.{What}
use Rattle.session_core.specs.declared.cause.End.{End as Ending}
use Rattle.session_core.specs.declared.track.Entry.{Entry}
use Rattle.session_core.specs.Meaning.{Meaning, Nothing, Confirm, Partial, Fact, End}
use Rattle.session_core.specs.Tracked.{Tracked, Step, step_of}

-- what is kept after some messages, what they gave, and the end, if one of them showed it
pub record Run : Type 0 where
  pub track : Tracked
  pub facts : List What
  pub replies : List ℕ
  pub end : Option Ending

abbrev pub behind : List What → List ℕ → Run → Run
behind facts replies run =
    record {
      track = run.track;
      facts = facts ++ run.facts;
      replies = replies ++ run.replies;
      end = run.end;
    }

abbrev pub resync_partial : List ℕ
resync_partial = message_spelling messages.Partial

abbrev pub resync_confirm : List ℕ
resync_confirm = message_spelling messages.Confirm

abbrev pub run_on : (Tracked → Run) → Tracked → Meaning → Run
run_on next t Nothing = next t
run_on next t Confirm = behind [] resync_confirm (next t)
run_on next t Partial = behind [] resync_partial (next t)
run_on next t (Fact fact) = behind (fact ∷ []) [] (next t)
run_on next t (End cause) = record { track = t; facts = []; replies = []; end = Some cause }

abbrev pub run_step : (Tracked → Run) → Step → Run
run_step next step = run_on next step.track step.meaning

unfoldable pub run : List Shape → ℕ → Tracked → List Message → Run
run tables peer t [] = record { track = t; facts = []; replies = []; end = None }
run tables peer t (message ∷ messages) =
    run_step (λ next. run tables peer next messages) (step_of tables peer t message)

-- the acknowledgement of an id that had an update
abbrev pub ack_of : Entry → List ℕ
ack_of entry = if entry.updated then message_spelling (messages.Acked entry.id entry.last) else []

unfoldable pub acks_of : List Entry → List ℕ
acks_of entries = flat_map ack_of entries

abbrev pub settled_entry : Entry → Entry
settled_entry entry = record entry { updated = false }

-- the same with no update yet
unfoldable pub settled : List Entry → List Entry
settled entries = map settled_entry entries

-- what the messages added, and what they left
abbrev pub Ran : Option Ending → Tracked → List What → List What → List ℕ → List ℕ → Run → Type 0
Ran end track old_facts new_facts old_replies new_replies run =
    (end ≡ run.end) × (track ≡ run.track) × (new_facts ≡ old_facts ++ run.facts)
    × (new_replies ≡ old_replies ++ run.replies)

-- what is there, and what the messages that are left give behind it, is what all of them give
-- behind what was there.
pub record GoesOn (old_facts facts : List What) (old_replies replies : List ℕ) (left all : Run)
    : Type 0 where
  pub facts_are : facts ++ left.facts ≡ old_facts ++ all.facts
  pub replies_are : replies ++ left.replies ≡ old_replies ++ all.replies
  pub track_is : left.track ≡ all.track
  pub end_is : left.end ≡ all.end
