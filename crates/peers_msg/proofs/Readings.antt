-- A reading is the first message and the reading of what follows it.
use Rattle.std.proofs.Common.{◌≡◌, ℕ, zero, suc, ◌≤◌, List, [], ◌∷◌, ◌++◌, length, Some, None, refl}
use Rattle.std.proofs.Common.{sym, ap, ◌∙◌, append_assoc, arith}
use Rattle.std.proofs.lemmas.List.{append-nil}
use Rattle.peers_msg.specs.declared.message.Message.{Message}
use Rattle.peers_msg.specs.declared.fault.WireCause.{WireCause}
use Rattle.peers_msg.specs.declared.fault.WireCause.TheVariants.{TooLong, BadInteger, BadField}
use Rattle.peers_msg.specs.declared.fault.WireCause.TheVariants.{NoMemory}
use Rattle.peers_msg.specs.Message.{Short, frame_at, First, Unfinished, Faulty, Whole, first_in}
use Rattle.peers_msg.specs.Message.{first_of, Reading, with_front, after_message, reading_by}
use Rattle.peers_msg.specs.Message.{reading_within, reading_of}
use Rattle.peers_msg.specs.Decoded.{FaultIsFirst, IsWireFault}
use Rattle.peers_msg.proofs.Frames.{first_shorter}

same_reading : (next other : List ℕ → Reading) (bytes : List ℕ) (f : First)
    → ((message : Message) (rest : List ℕ) → f ≡ Whole message rest → next rest ≡ other rest)
    → reading_by next bytes f ≡ reading_by other bytes f
same_reading next other bytes Unfinished h = refl
same_reading next other bytes (Faulty cause) h = refl
same_reading next other bytes (Whole message rest) h =
    ap (after_message message) (h message rest refl)

reading_nil : (bytes : List ℕ) (next : List ℕ → Reading) → length bytes ≤ 0
    → reading_within zero bytes ≡ reading_by next bytes (first_of bytes)
unfolding reading_within first_of frame_at
reading_nil [] next le = refl
reading_nil (b ∷ bytes) next le = absurd (omega arith)

-- enough is enough
reading_enough : (n m : ℕ) (bytes : List ℕ) → length bytes ≤ n → length bytes ≤ m
    → reading_within n bytes ≡ reading_within m bytes
unfolding reading_within
reading_enough zero zero bytes p q = refl
reading_enough zero (suc m) bytes p q = reading_nil bytes (reading_within m) p
reading_enough (suc n) zero bytes p q = sym (reading_nil bytes (reading_within n) q)
reading_enough (suc n) (suc m) bytes p q =
    same_reading (reading_within n) (reading_within m) bytes (first_of bytes)
    (λ message rest e. reading_enough n m rest
    (omega (arith, first_shorter bytes message rest e))
    (omega (arith, first_shorter bytes message rest e)))

pub reading_step : (bytes : List ℕ) → reading_of bytes ≡ reading_by reading_of bytes
    (first_of bytes)
unfolding reading_of reading_within
reading_step bytes =
    reading_enough (length bytes) (suc (length bytes)) bytes (omega arith) (omega arith)
    ∙ same_reading (reading_within (length bytes)) (λ rest. reading_within (length rest) rest)
    bytes (first_of bytes) (λ message rest e. reading_enough (length bytes) (length rest) rest
    (omega (arith, first_shorter bytes message rest e)) (omega arith))

-- the messages, and the reading of the rest behind them, are the reading of the bytes
abbrev pub IsSoFar : List ℕ → List ℕ → List Message → Type 0
IsSoFar bytes rest messages = with_front messages (reading_of rest) ≡ reading_of bytes

pub so_far_more : (bytes rest after : List ℕ) (messages : List Message) (message : Message)
    → IsSoFar bytes rest messages → first_of rest ≡ Whole message after
    → IsSoFar bytes after (messages ++ message ∷ [])
so_far_more bytes rest after messages message h e =
    let s : reading_of rest ≡ after_message message (reading_of after) = reading_step rest
    ∙ ap (reading_by reading_of rest) e in
    let regrouped : with_front (messages ++ message ∷ []) (reading_of after) ≡ with_front messages
    (after_message message (reading_of after)) =
    ap (λ (ms : List Message). record {
      messages = ms;
      fault = (reading_of after).fault;
      rest =
          (reading_of after).rest;
    }) (append_assoc messages (message ∷ [])
    (reading_of after).messages) in
    regrouped ∙ ap (with_front messages) (sym s) ∙ h

pub so_far_done : (bytes rest : List ℕ) (messages : List Message) → IsSoFar bytes rest messages
    → first_of rest ≡ Unfinished → reading_of bytes ≡ record {
      messages = messages;
      fault =
          None;
      rest = rest;
    }
so_far_done bytes rest messages h e =
    let s : reading_of rest ≡ record { messages = []; fault = None; rest = rest } =
    reading_step rest ∙ ap (reading_by reading_of rest) e in
    sym h ∙ ap (with_front messages) s
    ∙ ap (λ (ms : List Message). record { messages = ms; fault = None; rest = rest })
    (append-nil messages)

faulty : (cause : WireCause) (f : First) → FaultIsFirst cause f → (cause ≡ NoMemory → ⊥)
    → f ≡ Faulty cause
faulty TooLong f h not = h
faulty BadInteger f h not = h
faulty BadField f h not = h
faulty NoMemory f h not = absurd (not refl)

pub wire_fault : (cause : WireCause) → (cause ≡ NoMemory → ⊥) → IsWireFault cause
wire_fault TooLong not = tt
wire_fault BadInteger not = tt
wire_fault BadField not = tt
wire_fault NoMemory not = not refl

pub so_far_faulty : (bytes rest : List ℕ) (messages : List Message) (cause : WireCause)
    → IsSoFar bytes rest messages → FaultIsFirst cause (first_of rest) → (cause ≡ NoMemory → ⊥)
    → reading_of bytes ≡ record { messages = messages; fault = Some cause; rest = [] }
so_far_faulty bytes rest messages cause h is not =
    let e = faulty cause (first_of rest) is not in
    let s : reading_of rest ≡ record { messages = []; fault = Some cause; rest = [] } =
    reading_step rest ∙ ap (reading_by reading_of rest) e in
    sym h ∙ ap (with_front messages) s
    ∙ ap (λ (ms : List Message). record { messages = ms; fault = Some cause; rest = [] })
    (append-nil messages)

-- bytes that are less than a message and hold no fault are the rest
pub reading_short : (bytes : List ℕ) → frame_at bytes ≡ Short
    → reading_of bytes ≡ record { messages = []; fault = None; rest = bytes }
unfolding first_of
reading_short bytes e =
    let f : first_of bytes ≡ Unfinished = ap first_in e in
    reading_step bytes ∙ ap (reading_by reading_of bytes) f
