-- More bytes change neither the messages nor the fault that are read, and the reading goes on from
-- its rest.
use Rattle.std.proofs.Common.{◌≡◌, ℕ, zero, suc, ◌^◌, ◌≤◌, Bool, true, false, cond, ltb, leb, List}
use Rattle.std.proofs.Common.{[], ◌∷◌, ◌++◌, length, take, drop, Option, Some, None, Result, Ok}
use Rattle.std.proofs.Common.{Err, refl, sym, ap, subst, ◌∙◌, length-append, arith, inl, inr}
use Rattle.std.proofs.lemmas.Bool.{ltb-false, le-ltb, le-leb, lt-leb, cases_Bool}
use Rattle.std.proofs.lemmas.List.{take-append-le, drop-append-le, append-nil}
use Rattle.std.proofs.lemmas.Option.{none-some}
use Rattle.agg_types.specs.declared.limits.TheConstants.{LONGEST_PAYLOAD}
use Rattle.peers_msg.specs.declared.integer.IntTooLarge.{IntTooLarge}
use Rattle.peers_msg.specs.declared.message.Message.{Message}
use Rattle.peers_msg.specs.declared.fault.WireCause.{WireCause}
use Rattle.peers_msg.specs.declared.fault.WireCause.TheVariants.{TooLong}
use Rattle.peers_msg.specs.Numeral.{integer_at, value_from, value, tail_front, tail_ends}
use Rattle.peers_msg.specs.Numeral.{spelling_front, spelling_ends}
use Rattle.peers_msg.specs.Message.{Frame, Short, Wrong, Framed, framed, frame_at, First}
use Rattle.peers_msg.specs.Message.{Unfinished, Faulty, Whole, whole_or_bad, first_in, first_of}
use Rattle.peers_msg.specs.Message.{message_of, Reading, with_front, after_message, reading_by}
use Rattle.peers_msg.specs.Message.{reading_within, reading_of}
use Rattle.peers_msg.specs.Feed.{fed_after, goes_on}
use Rattle.peers_msg.proofs.Frames.{first_shorter}
use Rattle.peers_msg.proofs.Bounds.{integer_found, integer_over}
use Rattle.peers_msg.proofs.Readings.{reading_step}

-- ---- integers

tail_more : (a b : List ℕ) → tail_ends a ≡ true → (tail_front (a ++ b) ≡ tail_front a)
    × (tail_ends (a ++ b) ≡ true)
tail_more [] b e = absurd cc
tail_more (x ∷ a) b e =
    elim (cases_Bool (ltb x 128)) [
      | inl low ↦ (rw low refl, rw low refl)
      | inr high ↦
          let t = tail_more a b (let q : tail_ends a ≡ true = rw high at e in q) in
          (rw (high, t.0) refl, rw (high, t.1) refl)
    ]

tail_grows : (place : ℕ) (a b : List ℕ) → value_from place (tail_front a) ≤ value_from place
    (tail_front (a ++ b))
tail_grows place [] b = omega arith
tail_grows place (x ∷ a) b =
    elim (cases_Bool (ltb x 128)) [
      | inl low ↦ rw low (omega arith)
      | inr high ↦ rw high (omega (arith, tail_grows (suc place) a b))
    ]

spelling_more : (a b : List ℕ) → spelling_ends a ≡ true
    → (spelling_front (a ++ b) ≡ spelling_front a) × (spelling_ends (a ++ b) ≡ true)
spelling_more [] b e = absurd cc
spelling_more (x ∷ a) b e =
    elim (cases_Bool (ltb x 240)) [
      | inl low ↦ (rw low refl, rw low refl)
      | inr high ↦
          let t = tail_more a b (let q : tail_ends a ≡ true = rw high at e in q) in
          (rw (high, t.0) refl, rw (high, t.1) refl)
    ]

pub spelling_grows : (a b : List ℕ) → value (spelling_front a) ≤ value (spelling_front (a ++ b))
spelling_grows [] b = omega arith
spelling_grows (x ∷ a) b =
    elim (cases_Bool (ltb x 240)) [
      | inl low ↦ rw low (omega arith)
      | inr high ↦ rw high (omega (arith, tail_grows 1 a b))
    ]

tail_fits : (a : List ℕ) → length (tail_front a) ≤ length a
tail_fits [] = omega arith
tail_fits (x ∷ a) =
    elim (cases_Bool (ltb x 128)) [
      | inl low ↦ rw low (omega arith)
      | inr high ↦
          rw high (omega (arith, tail_fits a))
    ]

spelling_fits : (a : List ℕ) → length (spelling_front a) ≤ length a
spelling_fits [] = omega arith
spelling_fits (x ∷ a) =
    elim (cases_Bool (ltb x 240)) [
      | inl low ↦ rw low (omega arith)
      | inr high ↦
          rw high (omega (arith, tail_fits a))
    ]

pub integer_more : (a b : List ℕ) (x : ℕ × ℕ) → integer_at a ≡ Ok (Some x)
    → (integer_at (a ++ b) ≡ Ok (Some x)) × (x.1 ≤ length a)
unfolding integer_at
integer_more a b x e =
    let f = integer_found a x e in
    let s = spelling_more a b f.1 in
    let over : leb (2 ^ 64) (value (spelling_front a)) ≡ false = lt-leb _ _ f.0 in
    let n : length (spelling_front a) ≡ x.1 = ap (λ (p : ℕ × ℕ). p.1) f.2 in
    (rw (s.0, s.1, over) (ap (λ (p : ℕ × ℕ). Ok (Some p)) f.2), omega (arith, n, spelling_fits a))

pub integer_still_over : (a b : List ℕ) (x : IntTooLarge) → integer_at a ≡ Err x
    → integer_at (a ++ b) ≡ Err x
unfolding integer_at
integer_still_over a b x e =
    let over : leb (2 ^ 64) (value (spelling_front (a ++ b))) ≡ true =
    le-leb _ _ (omega (arith, integer_over a x e, spelling_grows a b)) in
    rw over refl

-- ---- frames

-- the same frame, with more bytes after it; one that was short says nothing
abbrev pub FrameGoesOn : Frame → Frame → List ℕ → Type 0
FrameGoesOn Short later more = Unit {0}
FrameGoesOn (Wrong cause) later more = later ≡ Wrong cause
FrameGoesOn (Framed class kind payload rest) later more =
    later ≡ Framed class kind payload (rest ++ more)

payload_more : (class kind len : ℕ) (after b : List ℕ) (long cut : Bool) → long
    ≡ ltb LONGEST_PAYLOAD len
    → cut ≡ ltb (length after) len
    → FrameGoesOn (cond long (Wrong TooLong)
    (cond cut Short (Framed class kind (take len after) (drop len after))))
    (cond (ltb LONGEST_PAYLOAD len) (Wrong TooLong) (cond (ltb (length (after ++ b)) len) Short
    (Framed class kind (take len (after ++ b)) (drop len (after ++ b))))) b
payload_more class kind len after b true cut p q = rw (← p) refl
payload_more class kind len after b false true p q = tt
payload_more class kind len after b false false p q =
    let fits : len ≤ length after = ltb-false _ _ (sym q) in
    let c : ltb (length (after ++ b)) len ≡ false =
    le-ltb _ _ (omega (arith, length-append after b)) in
    rw (← p, c, take-append-le len after b fits, drop-append-le len after b fits) refl

framed_more : (class kind : ℕ) (a b : List ℕ) (low : Bool) (r : Result (Option (ℕ × ℕ)) IntTooLarge)
    → integer_at a ≡ r
    → FrameGoesOn (cond low (Framed class kind [] a) (framed class kind a r))
    (cond low (Framed class kind [] (a ++ b))
    (framed class kind (a ++ b) (integer_at (a ++ b)))) b
framed_more class kind a b true r is = refl
framed_more class kind a b false (Ok None) is = tt
framed_more class kind a b false (Err over) is = rw (integer_still_over a b over is) refl
framed_more class kind a b false (Ok (Some size)) is =
    let m = integer_more a b size is in
    let d : drop size.1 (a ++ b) ≡ drop size.1 a ++ b = drop-append-le size.1 a b m.1 in
    rw (m.0, d) (payload_more class kind size.0 (drop size.1 a) b (ltb LONGEST_PAYLOAD size.0)
    (ltb (length (drop size.1 a)) size.0) refl refl)

frame_more : (a b : List ℕ) → FrameGoesOn (frame_at a) (frame_at (a ++ b)) b
unfolding frame_at
frame_more [] b = tt
frame_more (class ∷ []) b = tt
frame_more (class ∷ kind ∷ a) b = framed_more class kind a b (ltb kind 128) (integer_at a) refl

-- ---- messages

abbrev pub FirstGoesOn : First → First → List ℕ → Type 0
FirstGoesOn Unfinished later more = Unit {0}
FirstGoesOn (Faulty cause) later more = later ≡ Faulty cause
FirstGoesOn (Whole message rest) later more = later ≡ Whole message (rest ++ more)

whole_more : (o : Option Message) (rest more : List ℕ)
    → FirstGoesOn (whole_or_bad o rest) (whole_or_bad o (rest ++ more)) more
whole_more None rest more = refl
whole_more (Some message) rest more = refl

first_in_more : (frame later : Frame) (more : List ℕ) → FrameGoesOn frame later more
    → FirstGoesOn (first_in frame) (first_in later) more
first_in_more Short later more h = tt
first_in_more (Wrong cause) later more h = ap first_in h
first_in_more (Framed class kind payload rest) later more h =
    subst (λ (f : Frame). FirstGoesOn (whole_or_bad (message_of class kind payload) rest)
    (first_in f) more) (sym h) (whole_more (message_of class kind payload) rest more)

pub first_more : (a b : List ℕ) → FirstGoesOn (first_of a) (first_of (a ++ b)) b
unfolding first_of
first_more a b = first_in_more (frame_at a) (frame_at (a ++ b)) b (frame_more a b)

-- ---- readings

by_first : (next : List ℕ → Reading) (a b : List ℕ) (f : First) → first_of a ≡ f
    → FirstGoesOn f (first_of (a ++ b)) b
    → ((message : Message) (rest : List ℕ) → f ≡ Whole message rest
    → reading_of (rest ++ b) ≡ goes_on (next rest) b)
    → reading_of (a ++ b) ≡ goes_on (reading_by next a f) b
by_first next a b Unfinished is later h = refl
by_first next a b (Faulty cause) is later h = reading_step (a ++ b)
    ∙ ap (reading_by reading_of (a ++ b)) later
by_first next a b (Whole message rest) is later h =
    reading_step (a ++ b) ∙ ap (reading_by reading_of (a ++ b)) later
    ∙ ap (after_message message) (h message rest refl)

within_more : (n : ℕ) (a b : List ℕ) → length a ≤ n
    → reading_of (a ++ b) ≡ goes_on (reading_within n a) b
unfolding reading_within
within_more zero a b le = refl
within_more (suc n) a b le =
    by_first (reading_within n) a b (first_of a) refl (first_more a b)
    (λ message rest e. within_more n rest b (omega (arith, first_shorter a message rest e)))

pub reading_more : (a b : List ℕ) → reading_of (a ++ b) ≡ goes_on (reading_of a) b
unfolding reading_of
reading_more a b = within_more (length a) a b (omega arith)

-- the rest behind a fault is nothing
fault_by : (next : List ℕ → Reading) (bytes : List ℕ) (f : First)
    → ((message : Message) (rest : List ℕ) → f ≡ Whole message rest → (cause : WireCause)
    → (next rest).fault ≡ Some cause → (next rest).rest ≡ []) → (cause : WireCause)
    → (reading_by next bytes f).fault ≡ Some cause → (reading_by next bytes f).rest ≡ []
fault_by next bytes Unfinished h cause e = absurd (none-some cause e)
fault_by next bytes (Faulty other) h cause e = refl
fault_by next bytes (Whole message rest) h cause e = h message rest refl cause e

fault_within : (n : ℕ) (bytes : List ℕ) → length bytes ≤ n → (cause : WireCause)
    → (reading_within n bytes).fault ≡ Some cause → (reading_within n bytes).rest ≡ []
unfolding reading_within
fault_within zero bytes le cause e = absurd (none-some cause e)
fault_within (suc n) bytes le cause e =
    fault_by (reading_within n) bytes (first_of bytes) (λ message rest f c is. fault_within n rest
    (omega (arith, first_shorter bytes message rest f)) c is) cause e

pub fault_rest : (bytes : List ℕ) (cause : WireCause)
    → (reading_of bytes).fault ≡ Some cause → (reading_of bytes).rest ≡ []
unfolding reading_of
fault_rest bytes cause e = fault_within (length bytes) bytes (omega arith) cause e

-- behind a fault, more bytes change nothing
pub reading_ended : (bytes more : List ℕ) (cause : WireCause)
    → (reading_of bytes).fault ≡ Some cause → reading_of (bytes ++ more) ≡ reading_of bytes
reading_ended bytes more cause e =
    let r = reading_of bytes in
    let next : fed_after r.fault (r.rest ++ more) ≡ record {
      messages = [];
      fault =
          Some cause;
      rest = [];
    } = ap (λ (f : Option WireCause). fed_after f (r.rest ++ more)) e in
    reading_more bytes more ∙ ap (with_front r.messages) next
    ∙ ap (λ (ms : List Message). record { messages = ms; fault = Some cause; rest = [] })
    (append-nil r.messages) ∙ ap (λ (f : Option WireCause). record {
      messages =
          r.messages;
      fault = f;
      rest = [];
    }) (sym e)
    ∙ ap (λ (bs : List ℕ). record { messages = r.messages; fault = r.fault; rest = bs })
    (sym (fault_rest bytes cause e))

pub reading_keeps : (bytes more : List ℕ) → (others : List Message)
    × ((reading_of (bytes ++ more)).messages ≡ (reading_of bytes).messages ++ others)
reading_keeps bytes more = (
  (fed_after (reading_of bytes).fault ((reading_of bytes).rest
      ++ more)).messages,
  ap (λ (r : Reading). r.messages) (reading_more bytes more),
)
