-- What a piece gives is what the talk of all bytes has with it beyond the talk without it.
use Rattle.std.proofs.Common.{inl, inr, if◌then◌else◌, ◌≡◌, ℕ, ◌+◌, ◌-◌, Bool, List, [], ◌∷◌, ◌++◌}
use Rattle.std.proofs.Common.{Option, Some, None, Result, Ok, Err, refl, sym, ap, ◌∙◌, arith}
use Rattle.std.proofs.Common.{append_assoc, append-nil, zero-add}
use Rattle.std.specs.List.{flat_map}
use Rattle.std.specs.Option.{option_map}
use Rattle.peers_msg.specs.declared.fault.WireCause.{WireCause}
use Rattle.peers_msg.specs.declared.message.Message.{Message}
use Rattle.peers_msg.specs.declared.message.Message.TheVariants.{Acked}
use Rattle.peers_msg.specs.Spelling.{message_spelling}
use Rattle.peers_msg.specs.Feed.{fed, decoder_of, goes_on}
use Rattle.peers_msg.specs.DecoderState.{DecoderState}
use Rattle.peers_msg.specs.Message.{Reading, reading_of}
use Rattle.peers_msg.proofs.Appended.{reading_more}
use Rattle.agg_types.specs.declared.config.Shape.{Shape}
use Rattle.agg_types.specs.declared.event.What.{What}
use Rattle.agg_types.specs.declared.event.What.TheVariants.{Open}
use Rattle.session_core.specs.declared.cause.End.{End as Ending}
use Rattle.session_core.specs.declared.cause.End.TheVariants.{Wire}
use Rattle.session_core.specs.declared.cause.Status.{Status}
use Rattle.session_core.specs.declared.stage.Stage.{Stage}
use Rattle.session_core.specs.declared.stage.Stage.TheVariants.{Talking, Over}
use Rattle.session_core.specs.declared.stage.StageOutcome.{StageOutcome}
use Rattle.session_core.specs.Hello.{hello_of}
use Rattle.session_core.specs.Piece.{Setup, run_outcome, end_of, end_text, first_end, hello_outcome}
use Rattle.session_core.specs.Piece.{accepted_outcome, piece_of, with_front, status_text}
use Rattle.session_core.specs.Piece.{messages_outcome, welcome}
use Rattle.session_core.specs.Run.{Run, acks_of}
use Rattle.session_core.specs.Talk.{Grows, Talk, Words, accepted_talk, acks_among, end_read}
use Rattle.session_core.specs.Talk.{said_at, stage_after, stage_at, stage_of, talk, talk_after}
use Rattle.session_core.specs.Talk.{talk_read, track_for, words_of, words_read}
use Rattle.session_core.specs.InForce.{followed_ids, is_updated, last_id}
use Rattle.session_core.specs.Tracked.{Tracked}
use Rattle.session_core.proofs.MeaningLemmas.{some_of}
use Rattle.session_core.proofs.HelloLemmas.{Longer, hello_longer}
use Rattle.session_core.proofs.TalkLemmas.{acks_are, run_for, run_is, settled_is, words_append}
use Rattle.session_core.proofs.TalkLemmas.{words_behind, words_end}

-- what is given and left, against the talk before and after, and where it stands
pub record Gives (setup : Setup) (old new : Talk) (taken : StageOutcome) (stage : Stage)
    : Type 0 where
  pub grows : Grows setup old new taken.batch
  pub end : new.end ≡ taken.end
  pub stage_is : taken.stage ≡ stage

-- ---- a piece of messages

abbrev pub stage_for : List Shape → ℕ → DecoderState → Words → Option Ending → Stage
stage_for tables peer kept words None =
    Talking (record { peer = peer; feed = kept; track = track_for tables 0 words.past })
stage_for tables peer kept words (Some end) = Over end (Some peer)

-- what a piece of messages with these words gives
abbrev pub piece_for : List Shape → ℕ → DecoderState → Words → Option Ending → StageOutcome
piece_for tables peer kept words end =
    record {
      stage = stage_for tables peer kept words end;
      batch = record {
        facts = words.facts;
        replies = words.replies ++ said_at end;
        acks =
            acks_among tables words.count words.past;
      };
      end = end;
    }

taken_same : {facts : List What} {a b c d : List ℕ} {s t : Stage} (end : Option Ending) → s ≡ t
    → a ≡ b → c ≡ d → (let x : StageOutcome =
    record { stage = s; batch = record { facts = facts; replies = a; acks = c }; end = end } in x)
    ≡ (let x : StageOutcome = record {
      stage = t;
      batch =
          record { facts = facts; replies = b; acks = d };
      end = end;
    } in x)
taken_same end e f g = rw (e, f, g) refl

acks_same : (tables : List Shape) (words : Words)
    → acks_of (track_for tables (0 + words.count) words.past).entries
    ≡ acks_among tables words.count words.past
acks_same tables words = acks_are tables (0 + words.count) words.past
    ∙ ap (λ n. acks_among tables n words.past) (zero-add words.count)

conversed_is : (tables : List Shape) (peer : ℕ) (kept : DecoderState) (words : Words)
    (end : Option Ending)
    → run_outcome peer kept (run_for tables 0 words) end ≡ piece_for tables peer kept words end
conversed_is tables peer kept words None =
    taken_same None (ap (λ (t : Tracked). Talking (record { peer = peer; feed = kept; track = t }))
    (settled_is tables (0 + words.count) words.past)) (sym (append-nil words.replies))
    (acks_same tables words)
conversed_is tables peer kept words (Some end) =
    taken_same (Some end) refl refl (acks_same tables words)

abbrev end_for : Words → Reading → Option Ending
end_for words reading = first_end words.end (option_map (λ wire. Wire wire) reading.fault)

talked_is : (tables : List Shape) (peer : ℕ) (past : List Message) (reading : Reading)
    → messages_outcome tables peer (track_for tables 0 past) reading ≡ piece_for tables peer
    (decoder_of reading) (words_of tables peer past reading.messages)
    (end_for (words_of tables peer past reading.messages) reading)
unfolding messages_outcome
talked_is tables peer past reading =
    ap (λ (r : Run). run_outcome peer (decoder_of reading) r (end_of r reading))
    (run_is tables peer 0 past reading.messages)
    ∙ conversed_is tables peer (decoder_of reading) (words_of tables peer past reading.messages)
    (end_for (words_of tables peer past reading.messages) reading)

-- ---- the three states of a hello

no_acks : (tables : List Shape) → [] ≡ acks_among tables 0 []
unfolding acks_among
no_acks tables = refl

refused_gives : (setup : Setup) (seated : Bool) (taken piece : List ℕ) (status : Status)
    → Gives setup (talk_after setup.tables (Err status)) (talk_after setup.tables (Err status))
    (piece_of setup seated (stage_after setup.tables taken (Err status)) piece)
    (stage_after setup.tables (taken ++ piece) (Err status))
unfolding piece_of
refused_gives setup seated taken piece status =
    record {
      grows = record {
        facts = refl;
        replies = sym (append-nil (status_text status));
        acks =
            no_acks setup.tables;
      };
      end = refl;
      stage_is = refl;
    }

stage_for_is : (tables : List Shape) (peer : ℕ) (reading : Reading) (end : Option Ending)
    → stage_for tables peer (decoder_of reading) (words_read tables peer reading) end
    ≡ stage_at tables peer reading end
stage_for_is tables peer reading None = refl
stage_for_is tables peer reading (Some end) = refl

less_none : (n : ℕ) → n ≡ n - 0
less_none n = omega arith

opened_gives : (setup : Setup) (hello : ℕ × List ℕ)
    → Gives setup (talk_after setup.tables (Ok None))
    (talk_read setup.tables hello.0 (reading_of hello.1)) (accepted_outcome setup.tables hello)
    (stage_at setup.tables hello.0 (reading_of hello.1)
    (end_read setup.tables hello.0 (reading_of hello.1)))
opened_gives setup hello =
    let reading = reading_of hello.1 in
    let is : accepted_outcome setup.tables hello ≡ with_front (Open hello.0 ∷ []) welcome
    (piece_for setup.tables hello.0 (decoder_of reading) (words_read setup.tables hello.0 reading)
    (end_read setup.tables hello.0 reading)) =
    ap (with_front (Open hello.0 ∷ []) welcome) (talked_is setup.tables hello.0 [] reading) in
    rw is (record {
      grows = record {
        facts = refl;
        replies = refl;
        acks =
            ap (λ n. acks_among setup.tables n (words_read setup.tables hello.0 reading).past)
            (less_none (words_read setup.tables hello.0 reading).count);
      };
      end = refl;
      stage_is = stage_for_is setup.tables hello.0 reading (end_read setup.tables hello.0 reading);
    })

greeting_gives : (setup : Setup) (bytes : List ℕ) (hello : Result (Option (ℕ × List ℕ)) Status)
    → Gives setup (talk_after setup.tables (Ok None)) (talk_after setup.tables hello)
    (hello_outcome setup.tables bytes hello) (stage_after setup.tables bytes hello)
greeting_gives setup bytes (Ok None) =
    record {
      grows = record { facts = refl; replies = refl; acks = no_acks setup.tables };
      end =
          refl;
      stage_is = refl;
    }
greeting_gives setup bytes (Err status) =
    record {
      grows = record { facts = refl; replies = refl; acks = no_acks setup.tables };
      end =
          refl;
      stage_is = refl;
    }
greeting_gives setup bytes (Ok (Some hello)) = opened_gives setup hello

-- ---- more bytes behind an accepted hello

carry : {setup : Setup} {old old' new new' : Talk} {taken taken' : StageOutcome}
    {stage stage' : Stage} → old ≡ old' → new ≡ new' → taken ≡ taken' → stage ≡ stage'
    → Gives setup old' new' taken' stage' → Gives setup old new taken stage
carry e f g h gives = rw (e, f, g, h) gives

talk_is : (tables : List Shape) (peer : ℕ) (reading : Reading) (words : Words) (end : Option Ending)
    → words_read tables peer reading ≡ words → end_read tables peer reading ≡ end
    → talk_read tables peer reading ≡ accepted_talk peer words end
talk_is tables peer reading words end e f =
    ap (λ (w : Words). accepted_talk peer w (end_read tables peer reading)) e
    ∙ ap (accepted_talk peer words) f

stage_is_for : (tables : List Shape) (peer : ℕ) (reading : Reading) (words : Words)
    (end : Option Ending) → words_read tables peer reading ≡ words
    → stage_at tables peer reading end ≡ stage_for tables peer (decoder_of reading) words end
stage_is_for tables peer reading words None e =
    ap (λ (w : Words). Talking (record {
      peer = peer;
      feed = decoder_of reading;
      track =
          track_for tables 0 w.past;
    })) e
stage_is_for tables peer reading words (Some end) e = refl

acks_zero_ids : (past : List Message) (tables : List Shape) (ids : List ℕ)
    → [] ≡ flat_map (λ id. if is_updated tables id 0 past then message_spelling
    (Acked id (last_id tables id past)) else []) ids
acks_zero_ids past tables [] = refl
acks_zero_ids past tables (id ∷ ids) = acks_zero_ids past tables ids

acks_zero : (tables : List Shape) (past : List Message) (n : ℕ)
    → [] ≡ acks_among tables (n - n) past
unfolding acks_among
acks_zero tables past n =
    let none : 0 ≡ n - n = omega arith in
    acks_zero_ids past tables (followed_ids tables past) ∙ ap (λ k. acks_among tables k past) none

-- a session that is over says nothing more
over_gives : (setup : Setup) (seated : Bool) (piece : List ℕ) (peer : ℕ) (kept : DecoderState)
    (words : Words) (end : Ending) → Gives setup (accepted_talk peer words (Some end))
    (accepted_talk peer words (Some end)) (piece_of setup seated (Over end (Some peer)) piece)
    (stage_for setup.tables peer kept words (Some end))
unfolding piece_of
over_gives setup seated piece peer kept words end =
    record {
      grows = record {
        facts = sym (append-nil (Open peer ∷ words.facts));
        replies = sym (append-nil (welcome ++ (words.replies ++ end_text end)));
        acks = acks_zero setup.tables words.past words.count;
      };
      end = refl;
      stage_is = refl;
    }

replies_behind : (front first second last : List ℕ) → front ++ ((first ++ second) ++ last)
    ≡ (front ++ (first ++ [])) ++ (second ++ last)
replies_behind front first second last = rw (append-nil first) (simp append_assoc)

stage_behind : (tables : List Shape) (peer : ℕ) (kept : DecoderState) (first second : Words)
    (end : Option Ending) → stage_for tables peer kept second end ≡ stage_for tables peer kept
    (words_behind first second) end
stage_behind tables peer kept first second None = refl
stage_behind tables peer kept first second (Some end) = refl

more_gives : (setup : Setup) (peer : ℕ) (kept : DecoderState) (first second : Words)
    (end : Option Ending)
    → Gives setup (accepted_talk peer first None) (accepted_talk peer (words_behind first second)
    end) (piece_for setup.tables peer kept second end)
    (stage_for setup.tables peer kept (words_behind first second) end)
more_gives setup peer kept first second end =
    record {
      grows = record {
        facts = refl;
        replies = replies_behind welcome first.replies second.replies (said_at end);
        acks = let n : second.count ≡ first.count + second.count - first.count = omega arith in
            ap (λ k. acks_among setup.tables k second.past) n;
      };
      end = refl;
      stage_is = stage_behind setup.tables peer kept first second end;
    }

talking_piece : (setup : Setup) (seated : Bool) (piece : List ℕ) (peer : ℕ) (old : Reading)
    (words : Words) → words_read setup.tables peer old ≡ words
    → piece_of setup seated (stage_at setup.tables peer old None) piece ≡ piece_for setup.tables
    peer (decoder_of (fed (decoder_of old) piece))
    (words_of setup.tables peer words.past (fed (decoder_of old) piece).messages)
    (end_for (words_of setup.tables peer words.past (fed (decoder_of old) piece).messages)
    (fed (decoder_of old) piece))
unfolding piece_of
talking_piece setup seated piece peer old words is =
    ap (λ (w : Words). messages_outcome setup.tables peer (track_for setup.tables 0 w.past)
    (fed (decoder_of old) piece)) is ∙ talked_is setup.tables peer words.past
    (fed (decoder_of old) piece)

-- a reading that goes on, behind its end
ended_gives : (setup : Setup) (seated : Bool) (piece : List ℕ) (peer : ℕ) (old new : Reading)
    (end : Ending) → words_read setup.tables peer new ≡ words_read setup.tables peer old
    → end_read setup.tables peer old ≡ Some end → end_read setup.tables peer new ≡ Some end
    → Gives setup (talk_read setup.tables peer old) (talk_read setup.tables peer new)
    (piece_of setup seated (stage_at setup.tables peer old (end_read setup.tables peer old)) piece)
    (stage_at setup.tables peer new (end_read setup.tables peer new))
ended_gives setup seated piece peer old new end same was is =
    carry (talk_is setup.tables peer old (words_read setup.tables peer old) (Some end) refl was)
    (talk_is setup.tables peer new (words_read setup.tables peer old) (Some end) same is)
    (ap (λ (e : Option Ending). piece_of setup seated (stage_at setup.tables peer old e) piece) was)
    (ap (stage_at setup.tables peer new) is)
    (over_gives setup seated piece peer (decoder_of new) (words_read setup.tables peer old) end)

-- and where it had none
open_gives : (setup : Setup) (seated : Bool) (piece : List ℕ) (peer : ℕ) (ms : List Message)
    (fault : Option WireCause) (rest : List ℕ) → (words_of setup.tables peer [] ms).end ≡ None
    → (let old : Reading = record { messages = ms; fault = fault; rest = rest } in
    Gives setup (talk_read setup.tables peer old) (talk_read setup.tables peer (goes_on old piece))
    (piece_of setup seated (stage_at setup.tables peer old (end_read setup.tables peer old)) piece)
    (stage_at setup.tables peer (goes_on old piece)
    (end_read setup.tables peer (goes_on old piece))))
open_gives setup seated piece peer ms (Some wire) rest goes =
    let old : Reading = record { messages = ms; fault = Some wire; rest = rest } in
    let new = goes_on old piece in
    let same : words_read setup.tables peer new ≡ words_read setup.tables peer old =
    ap (words_of setup.tables peer []) (append-nil ms) in
    let first = λ (o : Option Ending). first_end o (Some (Wire wire)) in
    ended_gives setup seated piece peer old new (Wire wire) same (ap first goes)
    (ap first (ap (λ (w : Words). w.end) same ∙ goes))
open_gives setup seated piece peer ms None rest goes =
    let tables = setup.tables in
    let old : Reading = record { messages = ms; fault = None; rest = rest } in
    let new = goes_on old piece in
    let second = fed (decoder_of old) piece in
    let words = words_of tables peer [] ms in
    let more = words_of tables peer words.past second.messages in
    let end = end_for more second in
    let joined : words_read tables peer new ≡ words_behind words more =
    words_append tables peer [] ms second.messages goes in
    let was : end_read tables peer old ≡ None = ap (λ (o : Option Ending). first_end o None) goes in
    let is : end_read tables peer new ≡ end =
    ap (λ (w : Words). first_end w.end (option_map (λ wire. Wire wire) second.fault)) joined in
    carry (talk_is tables peer old words None refl was)
    (talk_is tables peer new (words_behind words more) end joined is)
    (ap (λ (e : Option Ending). piece_of setup seated (stage_at tables peer old e) piece) was
    ∙ talking_piece setup seated piece peer old words refl)
    (ap (stage_at tables peer new) is
    ∙ stage_is_for tables peer new (words_behind words more) end joined)
    (more_gives setup peer (decoder_of second) words more end)

-- a reading that goes on
reading_gives : (setup : Setup) (seated : Bool) (piece : List ℕ) (peer : ℕ) (ms : List Message)
    (fault : Option WireCause) (rest : List ℕ)
    → (let old : Reading = record { messages = ms; fault = fault; rest = rest } in
    Gives setup (talk_read setup.tables peer old) (talk_read setup.tables peer (goes_on old piece))
    (piece_of setup seated (stage_at setup.tables peer old (end_read setup.tables peer old)) piece)
    (stage_at setup.tables peer (goes_on old piece)
    (end_read setup.tables peer (goes_on old piece))))
reading_gives setup seated piece peer ms fault rest =
    let tables = setup.tables in
    elim (some_of (words_of tables peer [] ms).end) [
      | inl goes ↦ open_gives setup seated piece peer ms fault rest goes
      | inr over ↦
          let old : Reading = record { messages = ms; fault = fault; rest = rest } in
          let new = goes_on old piece in
          let same : words_read tables peer new ≡ words_read tables peer old =
          words_end tables peer [] ms (fed (decoder_of old) piece).messages over.0 over.1 in
          ended_gives setup seated piece peer old new over.0 same
          (ap (λ (o : Option Ending). first_end o (option_map (λ wire. Wire wire) fault))
          over.1)
          (ap (λ (o : Option Ending). first_end o (option_map (λ wire. Wire wire) new.fault))
          (ap (λ (w : Words). w.end) same ∙ over.1))
    ]

-- ---- all bytes

by_hello : (setup : Setup) (seated : Bool) (taken piece : List ℕ)
    (hello later : Result (Option (ℕ × List ℕ)) Status)
    → hello_of setup.me setup.peers seated (taken ++ piece) ≡ later → Longer hello later piece
    → Gives setup (talk_after setup.tables hello) (talk_after setup.tables later)
    (piece_of setup seated (stage_after setup.tables taken hello) piece)
    (stage_after setup.tables (taken ++ piece) later)
unfolding piece_of
by_hello setup seated taken piece (Err status) later is longer =
    rw longer (refused_gives setup seated taken piece status)
by_hello setup seated taken piece (Ok None) later is longer =
    rw is (greeting_gives setup (taken ++ piece) later)
by_hello setup seated taken piece (Ok (Some hello)) later is longer =
    let read = reading_of hello.1 in
    rw (longer, reading_more hello.1 piece) (reading_gives setup seated piece hello.0 read.messages
    read.fault read.rest)

pub piece_gives : (setup : Setup) (seated : Bool) (taken piece : List ℕ)
    → Gives setup (talk setup seated taken) (talk setup seated (taken ++ piece))
    (piece_of setup seated (stage_of setup seated taken) piece)
    (stage_of setup seated (taken ++ piece))
unfolding talk stage_of
piece_gives setup seated taken piece =
    by_hello setup seated taken piece (hello_of setup.me setup.peers seated taken)
    (hello_of setup.me setup.peers seated (taken ++ piece)) refl
    (hello_longer setup.me setup.peers seated taken piece)
