-- What a piece gives where there is nothing to step_of, and behind the welcome.
use Rattle.std.proofs.Common.{◌≡◌, ℕ, false, List, [], ◌∷◌, ◌++◌, map, length, take, drop, get_or}
use Rattle.std.proofs.Common.{Option, Some, None, refl, sym, ap, ◌∙◌, append-nil, arith}
use Rattle.std.proofs.lemmas.List.{take_all, drop_all}
use Rattle.session_core.specs.Batched.{Batched}
use Rattle.session_core.specs.declared.stage.StageOutcome.{StageOutcome}
use Rattle.std.specs.List.{flat_map}
use Rattle.agg_types.specs.declared.config.Shape.{Shape}
use Rattle.agg_types.specs.declared.event.What.{What}
use Rattle.agg_types.specs.declared.event.What.TheVariants.{Open}
use Rattle.session_core.specs.Tracked.{Tracked}
use Rattle.session_core.specs.declared.cause.End.{End}
use Rattle.session_core.specs.declared.stage.Stage.TheVariants.{Talking}
use Rattle.session_core.specs.declared.track.Entry.{Entry}
use Rattle.session_core.specs.Run.{Run, run, settled, settled_entry, ack_of, acks_of}
use Rattle.session_core.specs.Piece.{nothing, run_outcome, stage_at_end, end_reply, with_front}
use Rattle.session_core.specs.Piece.{messages_outcome, accepted_outcome, welcome, untracked}
use Rattle.peers_msg.specs.DecoderState.{DecoderState}
use Rattle.peers_msg.specs.Message.{Reading, reading_of, reading_within}
use Rattle.peers_msg.specs.Feed.{fed, feed_of, decoder_of}

pub feed_of_none : feed_of [] ≡ record { rest = []; fault = None }
unfolding reading_of reading_within
feed_of_none = refl

-- what is said behind the welcome
pub opened_is : (tables : List Shape) (peer : ℕ) (rest : List ℕ) (facts : List What)
    (replies : List ℕ) (feed : DecoderState) (track : Tracked) → facts ≡ Open peer ∷ [] → replies
    ≡ welcome → feed ≡ feed_of [] → track ≡ untracked
    → with_front facts replies (messages_outcome tables peer track (fed feed rest))
    ≡ accepted_outcome tables (peer, rest)
opened_is tables peer rest facts replies feed track facts_are replies_are feed_is track_is =
    let none : feed ≡ record { rest = []; fault = None } = feed_is ∙ feed_of_none in
    rw (facts_are, replies_are, track_is, none) refl

-- what an end adds is where the session stands then, and what is sent
pub conversed_is : (peer : ℕ) (kept : DecoderState) (run : Run) (end : Option End)
    → run_outcome peer kept run end ≡ record {
      stage =
          stage_at_end (Talking (record {
            peer = peer;
            feed = kept;
            track =
                record { entries = settled run.track.entries; current = run.track.current };
          })) peer end;
      batch
          = record {
            facts = run.facts;
            replies = run.replies ++ end_reply end;
            acks =
                acks_of run.track.entries;
          };
      end = end;
    }
conversed_is peer kept run None = rw (append-nil run.replies) refl
conversed_is peer kept run (Some end) = refl

settled_parts : (entry : Entry) (entries other : List Entry) → settled_entry entry ∷ other
    ≡ entry ∷ entries → (entry.updated ≡ false) × (other ≡ entries)
settled_parts entry entries other e =
    (sym (ap (λ (es : List Entry). (get_or es 0 entry).updated) e), ap (drop 1) e)

-- ids with no update have none to acknowledge
pub no_acks : (entries : List Entry) → settled entries ≡ entries → acks_of entries ≡ []
unfolding settled acks_of
no_acks [] e = refl
no_acks (entry ∷ entries) e =
    let parts = settled_parts entry entries (map settled_entry entries) e in
    let rest : flat_map ack_of entries ≡ [] = no_acks entries parts.1 in
    rw (parts.0, rest) refl

pub settled_twice : (entries : List Entry) → settled (settled entries) ≡ settled entries
unfolding settled
settled_twice [] = refl
settled_twice (entry ∷ entries) = ap (λ (es : List Entry). settled_entry entry ∷ es)
    (settled_twice entries)

-- a piece with no message and no fault
pub quiet : (tables : List Shape) (peer : ℕ) (track : Tracked) (reading : Reading) (rest : List ℕ)
    → reading ≡ record { messages = []; fault = None; rest = rest }
    → settled track.entries ≡ track.entries → messages_outcome tables peer track reading
    ≡ record {
      stage = Talking (record { peer = peer; feed = decoder_of reading; track = track });
      batch = nothing;
      end = None;
    }
unfolding messages_outcome run
quiet tables peer track reading rest is none = rw (is, none, no_acks track.entries none) refl

pub quiet_said : (tables : List Shape) (peer : ℕ) (track : Tracked) (reading : Reading)
    (rest : List ℕ) (feed : DecoderState) (facts : List What) (replies : List ℕ) (split : ℕ)
    (batch : Batched) → reading ≡ record { messages = []; fault = None; rest = rest }
    → settled track.entries ≡ track.entries → feed ≡ decoder_of reading → split ≡ length replies
    → batch ≡ record { facts = facts; replies = take split replies; acks = drop split replies }
    → (let x : StageOutcome = record {
      stage =
          Talking (record { peer = peer; feed = feed; track = track });
      batch = batch;
      end = None;
    } in x)
    ≡ with_front facts replies (messages_outcome tables peer track reading)
quiet_said tables peer track reading rest feed facts replies split batch is none kept all said =
    rw (
      said,
      kept,
      quiet tables peer track reading rest is none,
      take_all split replies (omega (arith, all)),
      drop_all split replies (omega (arith, all)),
      append-nil facts,
      append-nil replies,
    ) refl
