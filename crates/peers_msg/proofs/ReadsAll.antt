-- The reading by the function on bytes is the one reading that there is.
use Rattle.std.proofs.Common.{◌≡◌, ℕ, zero, suc, ◌≤◌, Bool, true, false, cond, ltb, List, [], ◌∷◌}
use Rattle.std.proofs.Common.{◌++◌, length, take, drop, Option, Some, None, Result, Ok, Err, refl}
use Rattle.std.proofs.Common.{sym, ap, subst, ◌∙◌, append_assoc, length-append, length-take, arith}
use Rattle.std.proofs.Common.{inl, inr}
use Rattle.std.proofs.lemmas.Bool.{ltb-true, ltb-false, le-ltb, lt-ltb}
use Rattle.std.proofs.lemmas.List.{take_at, drop_at, take-append-drop}
use Rattle.std.proofs.lemmas.Option.{none-some}
use Rattle.agg_types.specs.declared.limits.TheConstants.{LONGEST_PAYLOAD}
use Rattle.peers_msg.specs.declared.integer.IntTooLarge.{IntTooLarge}
use Rattle.peers_msg.specs.declared.message.Message.{Message}
use Rattle.peers_msg.specs.declared.fault.WireCause.{WireCause}
use Rattle.peers_msg.specs.declared.fault.WireCause.TheVariants.{TooLong, BadInteger, BadField}
use Rattle.peers_msg.specs.declared.fault.WireCause.TheVariants.{NoMemory}
use Rattle.peers_msg.specs.Numeral.{integer_at, IsIntegerAt}
use Rattle.peers_msg.specs.Message.{Frame, Short, Wrong, Framed, framed, frame_at, First}
use Rattle.peers_msg.specs.Message.{Unfinished, Faulty, Whole, whole_or_bad, first_in, first_of}
use Rattle.peers_msg.specs.Message.{message_of, Reading, after_message, reading_by, reading_within}
use Rattle.peers_msg.specs.Message.{reading_of}
use Rattle.peers_msg.specs.Reads.{AreBytes, Says, Frames, SpellsMessage, IsRest, IsFaultAt, Reads}
use Rattle.peers_msg.proofs.Numerals.{integer_spelled}
use Rattle.peers_msg.proofs.Exact.{found_is, cut_is, is_cut, over_is, is_over, is_found}
use Rattle.peers_msg.proofs.Says.{rest_bytes, take_bytes}
use Rattle.peers_msg.proofs.SaysAll.{message_says, says_message}
use Rattle.peers_msg.proofs.Frames.{first_shorter}
use Rattle.peers_msg.proofs.Readings.{reading_step}

-- ---- from the function to what is said

-- what a frame says of the bytes at whose front it stands
abbrev FrameSaid : List ℕ → Frame → Type 0
FrameSaid bytes Short = IsRest bytes
FrameSaid bytes (Wrong cause) = IsFaultAt cause bytes
FrameSaid bytes (Framed class kind payload rest) = (text : List ℕ) × (bytes ≡ text ++ rest)
    × Frames text class kind payload

after_text : (bytes : List ℕ) (n len : ℕ) (h : IsIntegerAt bytes n len) → h.1 ≡ drop len bytes
after_text bytes n len h = sym (drop_at h.0 h.1 len h.5) ∙ ap (drop len) (sym h.2)

payload_said : (class kind : ℕ) (bytes : List ℕ) (n len : ℕ) → 128 ≤ kind → IsIntegerAt bytes n len
    → (long cut : Bool) → ltb LONGEST_PAYLOAD n ≡ long → ltb (length (drop len bytes)) n ≡ cut
    → FrameSaid (class ∷ kind ∷ bytes)
    (cond long (Wrong TooLong) (cond cut Short (Framed class kind (take n (drop len bytes))
    (drop n (drop len bytes)))))
payload_said class kind bytes n len high f true cut p q =
    (high, (n, len, f, ltb-true LONGEST_PAYLOAD n p))
payload_said class kind bytes n len high f false true p q =
    let r = ap length (after_text bytes n len f) in (
      high,
      inr (
        f.0,
        f.1,
        n,
        f.2,
        (f.3, f.4, f.6),
        ltb-false LONGEST_PAYLOAD n p,
        omega (arith, r, ltb-true (length (drop len bytes)) n q),
      ),
    )
payload_said class kind bytes n len high f false false p q =
    let after = drop len bytes in
    let fits : n ≤ length after = ltb-false _ _ q in
    let k : length (take n after) ≡ n = omega (arith, length-take n after, fits) in
    let whole : bytes ≡ (f.0 ++ take n after) ++ drop n after = f.2
    ∙ ap (λ (bs : List ℕ). f.0 ++ bs) (after_text bytes n len f
    ∙ sym (take-append-drop n after)) ∙ sym (append_assoc f.0 (take n after) (drop n after)) in (
      class ∷ kind ∷ (f.0 ++ take n after),
      ap (λ (bs : List ℕ). class ∷ kind ∷ bs) whole,
      inr (
        high,
        omega (arith, k, ltb-false LONGEST_PAYLOAD n p),
        (f.0, (f.3, f.4 ∙ sym k, omega (arith, f.6, k)), refl),
      ),
    )

frame_said_by : (class kind : ℕ) (bytes : List ℕ) → AreBytes bytes
    → (low : Bool) (r : Result (Option (ℕ × ℕ)) IntTooLarge) → ltb kind 128 ≡ low
    → integer_at bytes ≡ r
    → FrameSaid (class ∷ kind ∷ bytes)
    (cond low (Framed class kind [] bytes) (framed class kind bytes r))
frame_said_by class kind bytes fits true r p is =
    (class ∷ kind ∷ [], refl, inl (ltb-true kind 128 p, refl, refl))
frame_said_by class kind bytes fits false (Ok None) p is =
    (ltb-false kind 128 p, inl (cut_is bytes fits is))
frame_said_by class kind bytes fits false (Err over) p is =
    (ltb-false kind 128 p, over_is bytes over fits is)
frame_said_by class kind bytes fits false (Ok (Some size)) p is =
    payload_said class kind bytes size.0 size.1 (ltb-false kind 128 p)
    (found_is bytes fits size.0 size.1 is) (ltb LONGEST_PAYLOAD size.0)
    (ltb (length (drop size.1 bytes)) size.0) refl refl

frame_said : (bytes : List ℕ) → AreBytes bytes → FrameSaid bytes (frame_at bytes)
unfolding frame_at
frame_said [] fits = tt
frame_said (class ∷ []) fits = tt
frame_said (class ∷ kind ∷ bytes) fits = frame_said_by class kind bytes (λ i. fits (suc (suc i)))
    (ltb kind 128) (integer_at bytes) refl refl

abbrev FirstSaid : List ℕ → First → Type 0
FirstSaid bytes Unfinished = IsRest bytes
FirstSaid bytes (Faulty cause) = IsFaultAt cause bytes
FirstSaid bytes (Whole message rest) = (text : List ℕ) × (bytes ≡ text ++ rest)
    × SpellsMessage text message

front_bytes : (front rest : List ℕ) → AreBytes (front ++ rest) → AreBytes front
front_bytes front rest fits = subst AreBytes (take_at front rest (length front) refl)
    (take_bytes (length front) (front ++ rest) fits)

none_bytes : AreBytes []
none_bytes i = omega arith

payload_bytes : (text more payload : List ℕ) (class kind : ℕ) → Frames text class kind payload
    → AreBytes (text ++ more) → AreBytes payload
payload_bytes text more payload class kind (inl h) fits = subst AreBytes (sym h.1) none_bytes
payload_bytes text more payload class kind (inr h) fits =
    rest_bytes (class ∷ kind ∷ h.2.0) payload text h.2.2 (front_bytes text more fits)

first_said_by : (bytes : List ℕ) (class kind : ℕ) (payload rest text : List ℕ) → AreBytes bytes
    → bytes ≡ text ++ rest → Frames text class kind payload → (o : Option Message)
    → message_of class kind payload ≡ o → FirstSaid bytes (whole_or_bad o rest)
first_said_by bytes class kind payload rest text fits e frames None is =
    let payload_fits = payload_bytes text rest payload class kind frames
    (subst AreBytes e fits) in (
      text,
      rest,
      class,
      kind,
      payload,
      e,
      frames,
      λ message said. none-some message (sym is
          ∙ says_message class kind payload message payload_fits said),
    )
first_said_by bytes class kind payload rest text fits e frames (Some message) is =
    let payload_fits = payload_bytes text rest payload class kind frames
    (subst AreBytes e fits) in (
      text,
      e,
      (
        class,
        kind,
        payload,
        frames,
        message_says class kind payload message payload_fits is,
      ),
    )

first_in_said : (bytes : List ℕ) (frame : Frame) → AreBytes bytes → FrameSaid bytes frame
    → FirstSaid bytes (first_in frame)
first_in_said bytes Short fits h = h
first_in_said bytes (Wrong cause) fits h = h
first_in_said bytes (Framed class kind payload rest) fits h =
    first_said_by bytes class kind payload rest h.0 fits h.1 h.2
    (message_of class kind payload) refl

first_said : (bytes : List ℕ) → AreBytes bytes → FirstSaid bytes (first_of bytes)
unfolding first_of
first_said bytes fits = first_in_said bytes (frame_at bytes) fits (frame_said bytes fits)

reads_by : (next : List ℕ → Reading) (bytes : List ℕ) (f : First) → AreBytes bytes
    → FirstSaid bytes f → ((message : Message) (rest : List ℕ) → f ≡ Whole message rest
    → AreBytes rest → Reads rest (next rest).messages (next rest).fault)
    → Reads bytes (reading_by next bytes f).messages (reading_by next bytes f).fault
reads_by next bytes Unfinished fits said h = said
reads_by next bytes (Faulty cause) fits said h = said
reads_by next bytes (Whole message rest) fits said h =
    (said.0, rest, said.1, said.2, h message rest refl (rest_bytes said.0 rest bytes said.1 fits))

reads_within : (n : ℕ) (bytes : List ℕ) → length bytes ≤ n → AreBytes bytes
    → Reads bytes (reading_within n bytes).messages (reading_within n bytes).fault
unfolding reading_within
reads_within zero [] le fits = tt
reads_within zero (b ∷ bytes) le fits = absurd (omega arith)
reads_within (suc n) bytes le fits =
    reads_by (reading_within n) bytes (first_of bytes) fits (first_said bytes fits)
    (λ message rest e rest_fits. reads_within n rest
    (omega (arith, first_shorter bytes message rest e)) rest_fits)

pub reading_reads : (bytes : List ℕ) → AreBytes bytes
    → Reads bytes (reading_of bytes).messages (reading_of bytes).fault
unfolding reading_of
reading_reads bytes fits = reads_within (length bytes) bytes (omega arith) fits

-- ---- from what is said to the function

frames_frame : (text more payload : List ℕ) (class kind : ℕ) → Frames text class kind payload
    → frame_at (text ++ more) ≡ Framed class kind payload more
unfolding frame_at
frames_frame text more payload class kind (inl h) = ap (λ (bs : List ℕ). frame_at (bs ++ more)) h.2
    ∙ rw (lt-ltb kind 128 h.0, h.1) refl
frames_frame text more payload class kind (inr h) =
    let size = h.2.0 in
    let s = h.2.1 in
    let k : ltb kind 128 ≡ false = le-ltb kind 128 h.0 in
    let n : integer_at (size ++ (payload ++ more)) ≡ Ok (Some (length payload, length size)) =
    integer_spelled size (payload ++ more) s.0 (omega (arith, s.1, s.2))
    ∙ ap (λ v. Ok (Some (v, length size))) s.1 in
    let d : drop (length size) (size ++ (payload ++ more)) ≡ payload ++ more =
    drop_at size (payload ++ more) (length size) refl in
    let a : ltb LONGEST_PAYLOAD (length payload) ≡ false = le-ltb _ _ h.1 in
    let b : ltb (length (payload ++ more)) (length payload) ≡ false =
    le-ltb _ _ (omega (arith, length-append payload more)) in
    ap (λ (bs : List ℕ). frame_at (bs ++ more)) h.2.2 ∙ rw (
      append_assoc size payload more,
      k,
      n,
      d,
      a,
      b,
      take_at payload more (length payload) refl,
      drop_at payload more (length payload) refl,
    ) refl

message_first : (text more : List ℕ) (message : Message) → AreBytes (text ++ more)
    → SpellsMessage text message → first_of (text ++ more) ≡ Whole message more
unfolding first_of
message_first text more message fits h =
    let payload_fits = payload_bytes text more h.2 h.0 h.1 h.3 fits in
    ap first_in (frames_frame text more h.2 h.0 h.1 h.3)
    ∙ ap (λ o. whole_or_bad o more) (says_message h.0 h.1 h.2 message payload_fits h.4)

rest_frame : (bytes : List ℕ) → IsRest bytes → frame_at bytes ≡ Short
unfolding frame_at
rest_frame [] h = refl
rest_frame (class ∷ []) h = refl
rest_frame (class ∷ kind ∷ bytes) (high, inl cut) = rw (le-ltb kind 128 high, is_cut bytes cut) refl
rest_frame (class ∷ kind ∷ bytes) (high, inr h) =
    let n : integer_at bytes ≡ Ok (Some (h.2, length h.0)) = ap integer_at h.3
    ∙ integer_spelled h.0 h.1 h.4.0 (omega (arith, h.4.1, h.4.2))
    ∙ ap (λ v. Ok (Some (v, length h.0))) h.4.1 in
    let d : drop (length h.0) bytes ≡ h.1 = ap (drop (length h.0)) h.3
    ∙ drop_at h.0 h.1 (length h.0) refl in
    rw (
      le-ltb kind 128 high,
      n,
      d,
      le-ltb LONGEST_PAYLOAD h.2 h.5,
      lt-ltb (length h.1) h.2 h.6,
    ) refl

rest_first : (bytes : List ℕ) → IsRest bytes → first_of bytes ≡ Unfinished
unfolding first_of
rest_first bytes h = ap first_in (rest_frame bytes h)

no_message : (class kind : ℕ) (payload : List ℕ) → AreBytes payload
    → ((message : Message) → Says class kind payload message → ⊥) → (o : Option Message)
    → message_of class kind payload ≡ o → o ≡ None
no_message class kind payload fits none None is = refl
no_message class kind payload fits none (Some message) is =
    absurd (none message (message_says class kind payload message fits is))

fault_first : (cause : WireCause) (bytes : List ℕ) → AreBytes bytes → IsFaultAt cause bytes
    → first_of bytes ≡ Faulty cause
unfolding first_of frame_at
fault_first TooLong [] fits h = absurd h
fault_first TooLong (class ∷ []) fits h = absurd h
fault_first TooLong (class ∷ kind ∷ bytes) fits h =
    rw (
      le-ltb kind 128 h.0,
      is_found bytes h.1.0 h.1.1 h.1.2,
      lt-ltb LONGEST_PAYLOAD h.1.0 h.1.3,
    ) refl
fault_first BadInteger [] fits h = absurd h
fault_first BadInteger (class ∷ []) fits h = absurd h
fault_first BadInteger (class ∷ kind ∷ bytes) fits h =
    rw (le-ltb kind 128 h.0, is_over bytes h.1) refl
fault_first BadField bytes fits h =
    let payload_fits = payload_bytes h.0 h.1 h.4 h.2 h.3 h.6 (subst AreBytes h.5 fits) in
    let none : message_of h.2 h.3 h.4 ≡ None =
    no_message h.2 h.3 h.4 payload_fits h.7 (message_of h.2 h.3 h.4) refl in
    ap (λ (bs : List ℕ). first_in (frame_at bs)) h.5
    ∙ ap first_in (frames_frame h.0 h.1 h.4 h.2 h.3 h.6) ∙ ap (λ o. whole_or_bad o h.1) none
fault_first NoMemory bytes fits h = absurd h

pub reads_reading : (bytes : List ℕ) (messages : List Message) (end : Option WireCause)
    → AreBytes bytes → Reads bytes messages end → (messages ≡ (reading_of bytes).messages)
    × (end ≡ (reading_of bytes).fault)
reads_reading bytes [] None fits h =
    let s : reading_of bytes ≡ record { messages = []; fault = None; rest = bytes } =
    reading_step bytes ∙ ap (reading_by reading_of bytes) (rest_first bytes h) in
    (sym (ap (λ (r : Reading). r.messages) s), sym (ap (λ (r : Reading). r.fault) s))
reads_reading bytes [] (Some cause) fits h =
    let s : reading_of bytes ≡ record { messages = []; fault = Some cause; rest = [] } =
    reading_step bytes ∙ ap (reading_by reading_of bytes) (fault_first cause bytes fits h) in
    (sym (ap (λ (r : Reading). r.messages) s), sym (ap (λ (r : Reading). r.fault) s))
reads_reading bytes (message ∷ others) end fits h =
    let f : first_of bytes ≡ Whole message h.1 = ap first_of h.2
    ∙ message_first h.0 h.1 message (subst AreBytes h.2 fits) h.3 in
    let s : reading_of bytes ≡ after_message message (reading_of h.1) = reading_step bytes
    ∙ ap (reading_by reading_of bytes) f in
    let rest = reads_reading h.1 others end (rest_bytes h.0 h.1 bytes h.2 fits) h.4 in (
      ap (λ (ms : List Message). message ∷ ms) rest.0 ∙ sym (ap (λ (r : Reading). r.messages) s),
      rest.1 ∙ sym (ap (λ (r : Reading). r.fault) s),
    )
