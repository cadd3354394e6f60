-- A session that is over stays so, with its cause.
use Rattle.std.proofs.Common.{◌≡◌, ◌≢◌, ℕ, Bool, List, ◌++◌, Option, Some, None, Result, Ok}
use Rattle.std.proofs.Common.{Err, IfErr, refl, ap, ◌∙◌}
use Rattle.std.specs.Option.{option_map}
use Rattle.peers_msg.specs.DecoderState.{DecoderState}
use Rattle.peers_msg.specs.Message.{Reading, reading_of}
use Rattle.peers_msg.specs.Feed.{fed, decoder_of}
use Rattle.agg_types.specs.declared.config.Shape.{Shape}
use Rattle.session_core.specs.declared.batch.SessionFault.{SessionFault}
use Rattle.session_core.specs.declared.cause.End.{End}
use Rattle.session_core.specs.declared.cause.End.TheVariants as ends
use Rattle.session_core.specs.declared.cause.SessionCause.{SessionCause}
use Rattle.session_core.specs.declared.cause.SessionCause.TheVariants as causes
use Rattle.session_core.specs.declared.cause.Status.{Status}
use Rattle.session_core.specs.declared.stage.Stage.{Stage}
use Rattle.session_core.specs.declared.stage.Stage.TheVariants.{Greeting, Talking, Over}
use Rattle.session_core.specs.declared.stage.StageOutcome.{StageOutcome}
use Rattle.session_core.specs.Batched.{Batched}
use Rattle.session_core.specs.Cause.{cause_of}
use Rattle.session_core.specs.Hello.{hello_of}
use Rattle.session_core.specs.Piece.{Setup, end_of, hello_outcome, messages_outcome, piece_of}
use Rattle.session_core.specs.Piece.{run_outcome, untracked}
use Rattle.session_core.specs.Run.{Run, run}
use Rattle.session_core.specs.Silence.{over_with}
use Rattle.session_core.specs.State.{Answers, Ends, FaultAnswers, SessionState}
use Rattle.session_core.specs.Tracked.{Tracked}

-- where an outcome has an end, the session is over with it
abbrev pub EndsOver : StageOutcome → SessionCause → Type 0
EndsOver x cause = option_map cause_of x.end ≡ Some cause → over_with x.stage ≡ Some cause

run_over : (peer : ℕ) (kept : DecoderState) (run : Run) (end : Option End) (cause : SessionCause)
    → EndsOver (run_outcome peer kept run end) cause
run_over peer kept run None cause is = absurd cc
run_over peer kept run (Some end) cause is = is

messages_over : (tables : List Shape) (peer : ℕ) (track : Tracked) (reading : Reading)
    (cause : SessionCause) → EndsOver (messages_outcome tables peer track reading) cause
unfolding messages_outcome
messages_over tables peer track reading cause is =
    run_over peer (decoder_of reading) (run tables peer track reading.messages)
    (end_of (run tables peer track reading.messages) reading) cause is

hello_over : (tables : List Shape) (bytes : List ℕ) (hello : Result (Option (ℕ × List ℕ)) Status)
    (cause : SessionCause) → EndsOver (hello_outcome tables bytes hello) cause
hello_over tables bytes (Ok None) cause is = absurd cc
hello_over tables bytes (Err status) cause is = is
hello_over tables bytes (Ok (Some hello)) cause is =
    messages_over tables hello.0 untracked (reading_of hello.1) cause is

piece_over : (setup : Setup) (seated : Bool) (stage : Stage) (piece : List ℕ) (cause : SessionCause)
    → EndsOver (piece_of setup seated stage piece) cause
unfolding piece_of
piece_over setup seated (Greeting bytes) piece cause is =
    hello_over setup.tables (bytes ++ piece) (hello_of setup.me setup.peers seated (bytes ++ piece))
    cause is
piece_over setup seated (Talking dialogue) piece cause is =
    messages_over setup.tables dialogue.peer dialogue.track (fed dialogue.feed piece) cause is
piece_over setup seated (Over end peer) piece cause is = is

ends_over : (setup : Setup) (old new : SessionState) (piece : List ℕ) (now : ℕ)
    (cause : SessionCause) (batch : Batched)
    → Ends cause batch old new piece now (piece_of setup old.seated old.stage piece)
    → over_with new.stage ≡ Some cause
ends_over setup old new piece now cause batch h =
    ap (λ (s : SessionState). over_with s.stage) h.2
    ∙ piece_over setup old.seated old.stage piece cause h.0

fault_over : (setup : Setup) (old new : SessionState) (piece : List ℕ) (now : ℕ)
    (cause : SessionCause) (batch : Batched)
    → FaultAnswers cause batch old new piece now (piece_of setup old.seated old.stage piece)
    → cause ≢ causes.NoMemory → over_with new.stage ≡ Some cause
fault_over setup old new piece now causes.NoMemory batch h not = absurd (not refl)
fault_over setup old new piece now (causes.Refused status) batch h not =
    ends_over setup old new piece now (causes.Refused status) batch h
fault_over setup old new piece now (causes.Wire wire) batch h not =
    ends_over setup old new piece now (causes.Wire wire) batch h
fault_over setup old new piece now causes.PeerError batch h not =
    ends_over setup old new piece now causes.PeerError batch h
fault_over setup old new piece now causes.TimedOut batch h not =
    ends_over setup old new piece now causes.TimedOut batch h

pub answer_over : (setup : Setup) (old new : SessionState) (piece : List ℕ) (now : ℕ)
    (result : Result Batched SessionFault)
    → Answers result old new piece now (piece_of setup old.seated old.stage piece)
    → IfErr result (λ fault. fault.cause ≢ causes.NoMemory → over_with new.stage ≡ Some fault.cause)
answer_over setup old new piece now (Ok batch) h = tt
answer_over setup old new piece now (Err fault) h =
    fault_over setup old new piece now fault.cause fault.batch h

-- ---- a piece after the end

no_memory_end : (end : End) → cause_of end ≢ causes.NoMemory
no_memory_end (ends.Refused status) e = absurd cc
no_memory_end (ends.Wire wire) e = absurd cc
no_memory_end ends.PeerError e = absurd cc
no_memory_end ends.TimedOut e = absurd cc

pub no_memory_over : (stage : Stage) (cause : SessionCause)
    → over_with stage ≡ Some cause → cause ≢ causes.NoMemory
no_memory_over (Greeting bytes) cause is = absurd cc
no_memory_over (Talking dialogue) cause is = absurd cc
no_memory_over (Over end peer) cause is =
    let same : cause_of end ≡ cause = cc in
    λ e. no_memory_end end (same ∙ e)

over_piece_stage : (setup : Setup) (seated : Bool) (stage : Stage) (piece : List ℕ)
    (cause : SessionCause) → over_with stage
    ≡ Some cause → (piece_of setup seated stage piece).stage ≡ stage
unfolding piece_of
over_piece_stage setup seated (Greeting bytes) piece cause is = absurd cc
over_piece_stage setup seated (Talking dialogue) piece cause is = absurd cc
over_piece_stage setup seated (Over end peer) piece cause is = refl

fault_stage : (old new : SessionState) (piece : List ℕ) (now : ℕ) (x : StageOutcome)
    (cause : SessionCause) (batch : Batched) → x.stage ≡ old.stage
    → FaultAnswers cause batch old new piece now x → new.stage ≡ old.stage
fault_stage old new piece now x causes.NoMemory batch same h =
    ap (λ (s : SessionState). s.stage) h.1
fault_stage old new piece now x (causes.Refused status) batch same h =
    ap (λ (s : SessionState). s.stage) h.2 ∙ same
fault_stage old new piece now x (causes.Wire wire) batch same h =
    ap (λ (s : SessionState). s.stage) h.2 ∙ same
fault_stage old new piece now x causes.PeerError batch same h =
    ap (λ (s : SessionState). s.stage) h.2 ∙ same
fault_stage old new piece now x causes.TimedOut batch same h =
    ap (λ (s : SessionState). s.stage) h.2 ∙ same

answer_stage : (old new : SessionState) (piece : List ℕ) (now : ℕ) (x : StageOutcome)
    (result : Result Batched SessionFault) → x.stage ≡ old.stage
    → Answers result old new piece now x → new.stage ≡ old.stage
answer_stage old new piece now x (Ok batch) same h = ap (λ (s : SessionState). s.stage) h.2 ∙ same
answer_stage old new piece now x (Err fault) same h =
    fault_stage old new piece now x fault.cause fault.batch same h

pub stays_over : (setup : Setup) (old new : SessionState) (piece : List ℕ) (now : ℕ)
    (result : Result Batched SessionFault) (cause : SessionCause)
    → over_with old.stage ≡ Some cause → Answers result old new piece now
    (piece_of setup old.seated old.stage piece) → new.stage ≡ old.stage
stays_over setup old new piece now result cause is h =
    answer_stage old new piece now (piece_of setup old.seated old.stage piece) result
    (over_piece_stage setup old.seated old.stage piece cause is) h
