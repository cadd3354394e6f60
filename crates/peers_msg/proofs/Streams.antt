-- What a piece gives from what is kept is what the whole stream's reading has beyond the earlier
-- one.
use Rattle.std.proofs.Common.{◌≡◌, ◌≢◌, ℕ, List, [], ◌++◌, Option, Some, None, Result, Ok, Err}
use Rattle.std.proofs.Common.{refl, sym, ap, ◌∙◌}
use Rattle.peers_msg.specs.declared.message.Message.{Message}
use Rattle.peers_msg.specs.declared.fault.WireCause.{WireCause}
use Rattle.peers_msg.specs.declared.fault.WireCause.TheVariants.{TooLong, BadInteger, BadField}
use Rattle.peers_msg.specs.declared.fault.WireCause.TheVariants.{NoMemory}
use Rattle.peers_msg.specs.declared.fault.WireFault.{WireFault}
use Rattle.peers_msg.specs.Message.{Short, frame_at, Reading, with_front, reading_of}
use Rattle.peers_msg.specs.DecoderState.{DecoderState, IsKept}
use Rattle.peers_msg.specs.Feed.{feed_of, fed, kept_after, kept_after_fault, Answers, FaultAnswers}
use Rattle.peers_msg.specs.Feed.{GoesOn, FaultGoesOn}
use Rattle.peers_msg.proofs.Appended.{reading_more}
use Rattle.peers_msg.proofs.Bounds.{frame_short}
use Rattle.peers_msg.proofs.Readings.{reading_short}

fault_goes_on : (cause : WireCause) (before : List Message) (earlier next : Reading)
    → FaultAnswers cause before next
    → FaultGoesOn cause before earlier (with_front earlier.messages next)
fault_goes_on TooLong before earlier next h =
    (h.0, ap (λ (ms : List Message). earlier.messages ++ ms) (sym h.1))
fault_goes_on BadInteger before earlier next h =
    (h.0, ap (λ (ms : List Message). earlier.messages ++ ms) (sym h.1))
fault_goes_on BadField before earlier next h =
    (h.0, ap (λ (ms : List Message). earlier.messages ++ ms) (sym h.1))
fault_goes_on NoMemory before earlier next h = h

answer_goes_on : (result : Result (List Message) WireFault) (earlier next : Reading)
    → Answers result next → GoesOn result earlier (with_front earlier.messages next)
answer_goes_on (Ok messages) earlier next h =
    (h.0, ap (λ (ms : List Message). earlier.messages ++ ms) (sym h.1))
answer_goes_on (Err fault) earlier next h = fault_goes_on fault.cause fault.before earlier next h

whole_stream : (old : DecoderState) (taken piece : List ℕ) → old ≡ feed_of taken
    → reading_of (taken ++ piece) ≡ with_front (reading_of taken).messages (fed old piece)
whole_stream old taken piece is = reading_more taken piece
    ∙ ap (λ (kept : DecoderState). with_front (reading_of taken).messages (fed kept piece)) (sym is)

pub goes_on_stream : (result : Result (List Message) WireFault) (old : DecoderState)
    (piece : List ℕ) → Answers result (fed old piece) → (taken : List ℕ) → old ≡ feed_of taken
    → GoesOn result (reading_of taken) (reading_of (taken ++ piece))
goes_on_stream result old piece h taken is =
    rw (whole_stream old taken piece is)
    (answer_goes_on result (reading_of taken) (fed old piece) h)

kept_fault_same : (cause : WireCause) (old : DecoderState) (front : List Message) (next : Reading)
    → kept_after_fault cause old next ≡ kept_after_fault cause old (with_front front next)
kept_fault_same TooLong old front next = refl
kept_fault_same BadInteger old front next = refl
kept_fault_same BadField old front next = refl
kept_fault_same NoMemory old front next = refl

kept_same : (result : Result (List Message) WireFault) (old : DecoderState) (front : List Message)
    (next : Reading) → kept_after result old next ≡ kept_after result old (with_front front next)
kept_same (Ok messages) old front next = refl
kept_same (Err fault) old front next = kept_fault_same fault.cause old front next

pub stands_for_stream : (result : Result (List Message) WireFault) (old new : DecoderState)
    (piece : List ℕ)
    → new ≡ kept_after result old (fed old piece) → (taken : List ℕ) → old ≡ feed_of taken
    → new ≡ kept_after result (feed_of taken) (reading_of (taken ++ piece))
stands_for_stream result old new piece h taken is =
    h ∙ kept_same result old (reading_of taken).messages (fed old piece)
    ∙ ap (kept_after result old) (sym (whole_stream old taken piece is))
    ∙ ap (λ (kept : DecoderState). kept_after result kept (reading_of (taken ++ piece))) is

-- bytes that are less than a message and hold no fault
pub short_read : (old : DecoderState) (piece kept : List ℕ) → old.fault ≡ None
    → kept ≡ old.rest ++ piece → frame_at kept ≡ Short
    → fed old piece ≡ record { messages = []; fault = None; rest = kept }
short_read old piece kept none is short = rw (none, ← is) (reading_short kept short)

pub short_kept : (fault : Option WireCause) (kept : List ℕ) → fault ≡ None
    → frame_at kept ≡ Short → IsKept kept fault
short_kept fault kept none short = rw none (frame_short kept short)

-- a feed that has ended with a fault stays as it is
faulty_stays : (rest piece : List ℕ) (cause : WireCause) → IsKept rest (Some cause)
    → (cause ≢ NoMemory) × (kept_after_fault cause (record { rest = rest; fault = Some cause })
    (fed (record { rest = rest; fault = Some cause }) piece) ≡ record {
      rest =
          rest;
      fault = Some cause;
    })
faulty_stays rest piece TooLong h = (λ e. absurd cc, rw h refl)
faulty_stays rest piece BadInteger h = (λ e. absurd cc, rw h refl)
faulty_stays rest piece BadField h = (λ e. absurd cc, rw h refl)
faulty_stays rest piece NoMemory h = absurd h

kept_stays : (rest piece : List ℕ) (fault : Option WireCause) (new : DecoderState)
    (cause : WireCause) → IsKept rest fault → fault ≡ Some cause → new
    ≡ kept_after_fault cause (record { rest = rest; fault = fault })
    (fed (record { rest = rest; fault = fault }) piece) → (cause ≢ NoMemory)
    × (new ≡ record { rest = rest; fault = fault })
kept_stays rest piece fault new cause h is after =
    let kept = rw is at h in
    let stays = faulty_stays rest piece cause kept in
    (stays.0, rw is (rw is at after ∙ stays.1))

pub feed_stays : (old new : DecoderState) (piece : List ℕ)
    (result : Result (List Message) WireFault)
    (cause : WireCause) → IsKept old.rest old.fault → old.fault ≡ Some cause → result
    ≡ Err (record { cause = cause; before = [] }) → new ≡ kept_after result old (fed old piece)
    → (cause ≢ NoMemory) × (new ≡ old) × (result ≡ Err (record { cause = cause; before = [] }))
feed_stays old new piece result cause h is err after =
    let stays = kept_stays old.rest piece old.fault new cause h is (rw err at after) in
    (stays.0, stays.1, err)
