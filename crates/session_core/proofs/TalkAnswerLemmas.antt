-- What a call answers, against the talk of all the bytes.
use Rattle.std.proofs.Common.{◌≡◌, ℕ, Bool, List, [], ◌++◌, Option, Some, None, Result, Ok, Err}
use Rattle.std.proofs.Common.{refl, sym, ap, ◌∙◌, append-nil}
use Rattle.std.specs.Option.{option_map}
use Rattle.session_core.specs.declared.batch.SessionFault.{SessionFault}
use Rattle.session_core.specs.declared.cause.SessionCause.{SessionCause}
use Rattle.session_core.specs.declared.cause.SessionCause.TheVariants as cause
use Rattle.session_core.specs.declared.cause.Status.{Status}
use Rattle.session_core.specs.declared.stage.Stage.{Stage}
use Rattle.session_core.specs.declared.stage.Stage.TheVariants.{Greeting, Over}
use Rattle.session_core.specs.declared.stage.StageOutcome.{StageOutcome}
use Rattle.session_core.specs.Batched.{Batched}
use Rattle.session_core.specs.Cause.{cause_of}
use Rattle.session_core.specs.Hello.{hello_of, line_at}
use Rattle.session_core.specs.Piece.{Setup, nothing, piece_of}
use Rattle.session_core.specs.State.{Answers, Ends, FaultAnswers, SessionState}
use Rattle.session_core.specs.Silence.{peer_of}
use Rattle.session_core.specs.Talk.{end_read, stage_after, stage_at, stage_of, talk, talk_after}
use Rattle.session_core.specs.TalkAnswers.{FaultAnswersTalk, OpensWith, ContinuesTalk, AnswersTalk}
use Rattle.session_core.proofs.FitLemmas.{some_same}
use Rattle.session_core.proofs.MeaningLemmas.{none_some}
use Rattle.session_core.proofs.PieceTalk.{Gives, piece_gives}
use Rattle.peers_msg.specs.Message.{Reading, reading_of}
use Rattle.agg_types.specs.declared.config.Shape.{Shape}
use Rattle.agg_types.specs.declared.event.What.TheVariants.{Open}
use Rattle.session_core.specs.declared.cause.End.{End as Ending}

stands_for : (setup : Setup) (seated : Bool) (taken piece : List ℕ) (x : StageOutcome)
    (batch : Batched) (end : Option SessionCause) (stage : Stage)
    → Gives setup (talk setup seated taken) (talk setup seated (taken ++ piece)) x
    (stage_of setup seated (taken ++ piece)) → option_map cause_of x.end ≡ end → batch ≡ x.batch
    → stage ≡ x.stage → ContinuesTalk setup seated taken piece batch end stage
stands_for setup seated taken piece x batch end stage gives is_end is_batch is_stage =
    record {
      grows = rw is_batch gives.grows;
      ends = ap (option_map cause_of) gives.end ∙ is_end;
      stands = is_stage ∙ gives.stage_is;
    }

ends_tell : (setup : Setup) (taken piece : List ℕ) (now : ℕ) (old new : SessionState)
    (cause : SessionCause) (batch : Batched) → old.stage ≡ stage_of setup old.seated taken
    → Ends cause batch old new piece now (piece_of setup old.seated old.stage piece)
    → ContinuesTalk setup old.seated taken piece batch (Some cause) new.stage
ends_tell setup taken piece now old new cause batch stands h =
    let gives = piece_gives setup old.seated taken piece in
    let same = ap (λ (s : Stage). piece_of setup old.seated s piece) stands in
    stands_for setup old.seated taken piece
    (piece_of setup old.seated (stage_of setup old.seated taken) piece) batch (Some cause)
    new.stage gives
    (ap (λ (x : StageOutcome). option_map cause_of x.end) (sym same) ∙ h.0) (h.1
    ∙ ap (λ (x : StageOutcome). x.batch) same) (ap (λ (s : SessionState). s.stage) h.2
    ∙ ap (λ (x : StageOutcome). x.stage) same)

fault_tells : (setup : Setup) (taken piece : List ℕ) (now : ℕ) (old new : SessionState)
    (cause : SessionCause) (batch : Batched) → old.stage ≡ stage_of setup old.seated taken
    → FaultAnswers cause batch old new piece now (piece_of setup old.seated old.stage piece)
    → FaultAnswersTalk cause batch setup old.seated taken piece new.stage
fault_tells setup taken piece now old new cause.NoMemory batch stands h =
    ap (λ (s : SessionState). s.stage) h.1 ∙ stands
fault_tells setup taken piece now old new (cause.Refused status) batch stands h =
    ends_tell setup taken piece now old new (cause.Refused status) batch stands h
fault_tells setup taken piece now old new (cause.Wire wire) batch stands h =
    ends_tell setup taken piece now old new (cause.Wire wire) batch stands h
fault_tells setup taken piece now old new cause.PeerError batch stands h =
    ends_tell setup taken piece now old new cause.PeerError batch stands h
fault_tells setup taken piece now old new cause.TimedOut batch stands h =
    ends_tell setup taken piece now old new cause.TimedOut batch stands h

pub tells : (setup : Setup) (taken piece : List ℕ) (now : ℕ) (old new : SessionState)
    (result : Result Batched SessionFault)
    → Answers result old new piece now (piece_of setup old.seated old.stage piece)
    → old.stage ≡ stage_of setup old.seated taken
    → AnswersTalk result setup old.seated taken piece new.stage
tells setup taken piece now old new (Ok batch) h stands =
    let gives = piece_gives setup old.seated taken piece in
    let same = ap (λ (s : Stage). piece_of setup old.seated s piece) stands in
    stands_for setup old.seated taken piece
    (piece_of setup old.seated (stage_of setup old.seated taken) piece) batch None
    new.stage gives
    (ap (λ (x : StageOutcome). option_map cause_of x.end) (sym same) ∙ ap (option_map cause_of) h.0)
    (h.1 ∙ ap (λ (x : StageOutcome). x.batch) same) (ap (λ (s : SessionState). s.stage) h.2
    ∙ ap (λ (x : StageOutcome). x.stage) same)
tells setup taken piece now old new (Err fault) h stands =
    fault_tells setup taken piece now old new fault.cause fault.batch stands h

-- a session that has taken no byte
pub stage_of_none : (setup : Setup) (seated : Bool) → Greeting [] ≡ stage_of setup seated []
unfolding stage_of hello_of line_at
stage_of_none setup seated = refl

peer_at : (tables : List Shape) (peer : ℕ) (reading : Reading) (end : Option Ending)
    → Some peer ≡ peer_of (stage_at tables peer reading end)
peer_at tables peer reading None = refl
peer_at tables peer reading (Some end) = refl

opens_after : (tables : List Shape) (bytes : List ℕ) (hello : Result (Option (ℕ × List ℕ)) Status)
    → OpensWith (peer_of (stage_after tables bytes hello)) (talk_after tables hello).facts
opens_after tables bytes (Ok None) = refl
opens_after tables bytes (Err status) = refl
opens_after tables bytes (Ok (Some hello)) =
    ap (option_map (λ p. Open p)) (peer_at tables hello.0 (reading_of hello.1)
    (end_read tables hello.0 (reading_of hello.1)))

pub opens_with : (setup : Setup) (seated : Bool) (taken : List ℕ)
    → OpensWith (peer_of (stage_of setup seated taken)) (talk setup seated taken).facts
unfolding stage_of talk
opens_with setup seated taken =
    opens_after setup.tables taken (hello_of setup.me setup.peers seated taken)

pub opens : (setup : Setup) (seated : Bool) (taken : List ℕ) (peer : Option ℕ) (stage : Stage)
    → peer ≡ peer_of stage → stage ≡ stage_of setup seated taken
    → OpensWith peer (talk setup seated taken).facts
opens setup seated taken peer stage is stands = opens_with setup seated taken
    ∙ ap (option_map (λ p. Open p)) (ap peer_of (sym stands) ∙ sym is)

-- ---- behind the end

stage_ended : (tables : List Shape) (peer : ℕ) (reading : Reading) (last : Option Ending)
    (end : Ending) → last ≡ Some end → (peer' : Option ℕ)
    × (stage_at tables peer reading last ≡ Over end peer')
stage_ended tables peer reading last end is = (Some peer, ap (stage_at tables peer reading) is)

stage_over : (tables : List Shape) (bytes : List ℕ) (hello : Result (Option (ℕ × List ℕ)) Status)
    (end : Ending) → (talk_after tables hello).end ≡ Some end → (peer : Option ℕ)
    × (stage_after tables bytes hello ≡ Over end peer)
stage_over tables bytes (Ok None) end is = elim (none_some end is) [ ]
stage_over tables bytes (Err status) end is =
    (None, ap (λ (e : Ending). Over e None) (some_same is))
stage_over tables bytes (Ok (Some hello)) end is =
    stage_ended tables hello.0 (reading_of hello.1) (end_read tables hello.0 (reading_of hello.1))
    end is

over_piece : (setup : Setup) (seated : Bool) (end : Ending) (peer : Option ℕ) (piece : List ℕ)
    → piece_of setup seated (Over end peer) piece ≡ record {
      stage = Over end peer;
      batch =
          nothing;
      end = Some end;
    }
unfolding piece_of
over_piece setup seated end peer piece = refl

stage_of_over : (setup : Setup) (seated : Bool) (bytes : List ℕ) (end : Ending)
    → (talk setup seated bytes).end ≡ Some end → (peer : Option ℕ)
    × (stage_of setup seated bytes ≡ Over end peer)
unfolding talk stage_of
stage_of_over setup seated bytes end is =
    stage_over setup.tables bytes (hello_of setup.me setup.peers seated bytes) end is

pub ended_stays : (setup : Setup) (seated : Bool) (bytes more : List ℕ) (end : Ending)
    → (talk setup seated bytes).end ≡ Some end
    → ((talk setup seated (bytes ++ more)).end ≡ Some end)
    × ((talk setup seated (bytes ++ more)).facts ≡ (talk setup seated bytes).facts)
    × ((talk setup seated (bytes ++ more)).replies ≡ (talk setup seated bytes).replies)
ended_stays setup seated bytes more end is =
    let over = stage_of_over setup seated bytes end is in
    let gives = piece_gives setup seated bytes more in
    let piece = ap (λ (s : Stage). piece_of setup seated s more) over.1
    ∙ over_piece setup seated end over.0 more in (
      gives.end ∙ ap (λ (x : StageOutcome). x.end) piece,
      gives.grows.facts ∙ ap (λ (x : StageOutcome). (talk setup seated bytes).facts
          ++ x.batch.facts) piece ∙ append-nil (talk setup seated bytes).facts,
      gives.grows.replies ∙ ap (λ (x : StageOutcome). (talk setup seated bytes).replies
          ++ x.batch.replies) piece ∙ append-nil (talk setup seated bytes).replies,
    )
