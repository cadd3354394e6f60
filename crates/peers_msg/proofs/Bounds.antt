-- How long a spelling that isn't over can be, and how long the rest of a reading.
use Rattle.std.proofs.Common.{◌≡◌, ℕ, zero, suc, ◌+◌, ◌*◌, ◌^◌, ◌<◌, ◌≤◌, Bool, true, false, cond}
use Rattle.std.proofs.Common.{ltb, leb, List, [], ◌∷◌, length, take, drop, Option, Some, None}
use Rattle.std.proofs.Common.{Result, Ok, Err, refl, ap, ◌∙◌, length-drop, arith, inl, inr}
use Rattle.std.proofs.Math.Nat.{mul-le-mul_right}
use Rattle.std.proofs.lemmas.Bool.{ltb-true, ltb-false, leb-true, leb-false, cases_Bool, cases_lt}
use Rattle.std.proofs.lemmas.Bool.{or_parts}
use Rattle.agg_types.specs.declared.limits.TheConstants.{LONGEST_PAYLOAD}
use Rattle.peers_msg.specs.declared.integer.IntTooLarge.{IntTooLarge}
use Rattle.peers_msg.specs.declared.message.Message.{Message}
use Rattle.peers_msg.specs.declared.fault.WireCause.TheVariants.{TooLong}
use Rattle.peers_msg.specs.Numeral.{integer_at, weight, value_from, value, tail_front, tail_ends}
use Rattle.peers_msg.specs.Numeral.{spelling_front, spelling_ends}
use Rattle.peers_msg.specs.Message.{Frame, Short, Wrong, Framed, framed, frame_at, First}
use Rattle.peers_msg.specs.Message.{Unfinished, Faulty, Whole, whole_or_bad, first_in, first_of}
use Rattle.peers_msg.specs.Message.{message_of, Reading, reading_by, reading_within, reading_of}
use Rattle.peers_msg.proofs.Frames.{first_shorter}

high_front : (b : ℕ) (bytes : List ℕ) → ltb b 128 ≡ false
    → tail_front (b ∷ bytes) ≡ b ∷ tail_front bytes
high_front b bytes e = rw e refl

low_front : (b : ℕ) (bytes : List ℕ) → ltb b 128 ≡ true → tail_front (b ∷ bytes) ≡ b ∷ []
low_front b bytes e = rw e refl

-- bytes that don't end a spelling stand for at least what the last of them does
long_tail : (k place last : ℕ) (bytes : List ℕ) → last ≡ place + k
    → suc k < length (tail_front bytes) → 128 * weight last ≤ value_from place (tail_front bytes)
long_tail k place last [] is more = absurd (omega arith)
long_tail zero place last (b ∷ bytes) is more =
    elim (cases_Bool (ltb b 128)) [
      | inl e ↦ let n : length (tail_front (b ∷ bytes)) ≡ 1 = ap length (low_front b bytes e) in
          absurd (omega (arith, more, n))
      | inr e ↦
          let v : value_from place (tail_front (b ∷ bytes)) ≡ b * weight place + value_from
          (suc place) (tail_front bytes) = ap (value_from place) (high_front b bytes e) in
          let w : weight last ≡ weight place =
          ap weight (let q : last ≡ place = omega arith in q) in
          omega (arith, v, w, mul-le-mul_right (weight place) (ltb-false b 128 e))
    ]
long_tail (suc k) place last (b ∷ bytes) is more =
    elim (cases_Bool (ltb b 128)) [
      | inl e ↦ let n : length (tail_front (b ∷ bytes)) ≡ 1 = ap length (low_front b bytes e) in
          absurd (omega (arith, more, n))
      | inr e ↦
          let v : value_from place (tail_front (b ∷ bytes)) ≡ b * weight place + value_from
          (suc place) (tail_front bytes) = ap (value_from place) (high_front b bytes e) in
          let n : length (tail_front (b ∷ bytes)) ≡ suc (length (tail_front bytes)) =
          ap length (high_front b bytes e) in
          omega (
            arith,
            v,
            long_tail k (suc place) last bytes (omega arith)
                (omega (arith, more, n)),
          )
    ]

pub spelling_short : (bytes : List ℕ) → value (spelling_front bytes) < 2 ^ 64
    → length (spelling_front bytes) ≤ 10
spelling_short [] small = omega arith
spelling_short (b ∷ bytes) small =
    elim (cases_Bool (ltb b 240)) [
      | inl e ↦ let n : length (spelling_front (b ∷ bytes)) ≡ 1 = rw e refl in omega (arith, n)
      | inr e ↦
          let n : length (spelling_front (b ∷ bytes)) ≡ suc (length (tail_front bytes)) =
          rw e refl in
          let v : value (spelling_front (b ∷ bytes)) ≡ b * 1 + value_from 1 (tail_front bytes) =
          rw e refl in
          elim (cases_lt 9 (length (tail_front bytes))) [
            | inl long ↦ absurd (omega (arith, v, small, long_tail 8 1 9 bytes refl long))
            | inr le ↦ omega (arith, n)
          ]
    ]

tail_whole : (bytes : List ℕ) → tail_ends bytes ≡ false → tail_front bytes ≡ bytes
tail_whole [] e = refl
tail_whole (b ∷ bytes) e =
    let p = or_parts (ltb b 128) (tail_ends bytes) e in
    high_front b bytes p.0 ∙ ap (λ bs. b ∷ bs) (tail_whole bytes p.1)

pub spelling_whole : (bytes : List ℕ) → spelling_ends bytes ≡ false → spelling_front bytes ≡ bytes
spelling_whole [] e = refl
spelling_whole (b ∷ bytes) e =
    let p = or_parts (ltb b 240) (tail_ends bytes) e in
    let f : spelling_front (b ∷ bytes) ≡ b ∷ tail_front bytes = rw p.0 refl in
    f ∙ ap (λ bs. b ∷ bs) (tail_whole bytes p.1)

abbrev answer : Bool → Bool → ℕ → ℕ → Result (Option (ℕ × ℕ)) IntTooLarge
answer over ends n len = cond over (Err (record {})) (cond ends (Ok (Some (n, len))) (Ok None))

answer_cut : (over ends : Bool) (n len : ℕ) → answer over ends n len ≡ Ok None → (over ≡ false)
    × (ends ≡ false)
answer_cut true ends n len e = absurd cc
answer_cut false true n len e = absurd cc
answer_cut false false n len e = (refl, refl)

answer_found : (over ends : Bool) (n len : ℕ) (x : ℕ × ℕ) → answer over ends n len ≡ Ok (Some x)
    → (over ≡ false) × (ends ≡ true) × ((n, len) ≡ x)
answer_found true ends n len x e = absurd cc
answer_found false true n len x e = (refl, refl, cc)
answer_found false false n len x e = absurd cc

answer_over : (over ends : Bool) (n len : ℕ) (x : IntTooLarge)
    → answer over ends n len ≡ Err x → over ≡ true
answer_over true ends n len x e = refl
answer_over false true n len x e = absurd cc
answer_over false false n len x e = absurd cc

-- what each answer says of the bytes
pub integer_cut : (bytes : List ℕ) → integer_at bytes ≡ Ok None
    → (value (spelling_front bytes) < 2 ^ 64) × (spelling_ends bytes ≡ false)
unfolding integer_at
integer_cut bytes e =
    let a = answer_cut (leb (2 ^ 64) (value (spelling_front bytes))) (spelling_ends bytes)
    (value (spelling_front bytes)) (length (spelling_front bytes)) e in
    (leb-false _ _ a.0, a.1)

pub integer_found : (bytes : List ℕ) (x : ℕ × ℕ) → integer_at bytes ≡ Ok (Some x)
    → (value (spelling_front bytes) < 2 ^ 64) × (spelling_ends bytes ≡ true)
    × ((value (spelling_front bytes), length (spelling_front bytes)) ≡ x)
unfolding integer_at
integer_found bytes x e =
    let a = answer_found (leb (2 ^ 64) (value (spelling_front bytes))) (spelling_ends bytes)
    (value (spelling_front bytes)) (length (spelling_front bytes)) x e in
    (leb-false _ _ a.0, a.1, a.2)

pub integer_over : (bytes : List ℕ) (x : IntTooLarge) → integer_at bytes ≡ Err x
    → 2 ^ 64 ≤ value (spelling_front bytes)
unfolding integer_at
integer_over bytes x e =
    leb-true _ _ (answer_over (leb (2 ^ 64) (value (spelling_front bytes))) (spelling_ends bytes)
    (value (spelling_front bytes)) (length (spelling_front bytes)) x e)

cut_short : (bytes : List ℕ) → integer_at bytes ≡ Ok None → length bytes ≤ 10
cut_short bytes e =
    let a = integer_cut bytes e in
    omega (arith, spelling_short bytes a.0, ap length (spelling_whole bytes a.1))

found_short : (bytes : List ℕ) (x : ℕ × ℕ) → integer_at bytes ≡ Ok (Some x) → x.1 ≤ 10
found_short bytes x e =
    let a = integer_found bytes x e in
    let n : length (spelling_front bytes) ≡ x.1 = ap (λ (p : ℕ × ℕ). p.1) a.2 in
    omega (arith, spelling_short bytes a.0, n)

short_framed : (class kind : ℕ) (payload rest : List ℕ) (long cut : Bool)
    → cond long (Wrong TooLong) (cond cut Short (Framed class kind payload rest)) ≡ Short
    → (long ≡ false) × (cut ≡ true)
short_framed class kind payload rest true cut e = absurd cc
short_framed class kind payload rest false true e = (refl, refl)
short_framed class kind payload rest false false e = absurd cc

short_bound : (class kind : ℕ) (bytes : List ℕ) (low : Bool)
    (r : Result (Option (ℕ × ℕ)) IntTooLarge) → integer_at bytes ≡ r
    → cond low (Framed class kind [] bytes) (framed class kind bytes r) ≡ Short
    → length bytes < 10 + LONGEST_PAYLOAD
short_bound class kind bytes true r is e = absurd cc
short_bound class kind bytes false (Ok None) is e = omega (arith, cut_short bytes is)
short_bound class kind bytes false (Err over) is e = absurd cc
short_bound class kind bytes false (Ok (Some size)) is e =
    let a = short_framed class kind (take size.0 (drop size.1 bytes))
    (drop size.0 (drop size.1 bytes)) (ltb LONGEST_PAYLOAD size.0)
    (ltb (length (drop size.1 bytes)) size.0) e in
    omega (
      arith,
      ltb-false _ _ a.0,
      ltb-true _ _ a.1,
      length-drop size.1 bytes,
      found_short bytes size is,
    )

pub frame_short : (bytes : List ℕ) → frame_at bytes ≡ Short → length bytes < 12 + LONGEST_PAYLOAD
unfolding frame_at
frame_short [] e = omega arith
frame_short (class ∷ []) e = omega arith
frame_short (class ∷ kind ∷ bytes) e =
    omega (arith, short_bound class kind bytes (ltb kind 128) (integer_at bytes) refl e)

whole_not : (o : Option Message) (rest : List ℕ) → whole_or_bad o rest ≡ Unfinished → ⊥
whole_not None rest e = cc
whole_not (Some message) rest e = cc

short_frame : (frame : Frame) → first_in frame ≡ Unfinished → frame ≡ Short
short_frame Short e = refl
short_frame (Wrong cause) e = absurd cc
short_frame (Framed class kind payload rest) e =
    absurd (whole_not (message_of class kind payload) rest e)

pub unfinished_short : (bytes : List ℕ) → first_of bytes ≡ Unfinished
    → length bytes < 12 + LONGEST_PAYLOAD
unfolding first_of
unfinished_short bytes e = frame_short bytes (short_frame (frame_at bytes) e)

rest_by : (next : List ℕ → Reading) (bytes : List ℕ) (f : First) → first_of bytes ≡ f
    → ((message : Message) (rest : List ℕ) → f ≡ Whole message rest
    → length (next rest).rest < 12 + LONGEST_PAYLOAD)
    → length (reading_by next bytes f).rest < 12 + LONGEST_PAYLOAD
rest_by next bytes Unfinished is h = unfinished_short bytes is
rest_by next bytes (Faulty cause) is h = omega arith
rest_by next bytes (Whole message rest) is h = h message rest refl

rest_within : (n : ℕ) (bytes : List ℕ) → length bytes ≤ n
    → length (reading_within n bytes).rest < 12 + LONGEST_PAYLOAD
unfolding reading_within
rest_within zero bytes le = omega arith
rest_within (suc n) bytes le =
    rest_by (reading_within n) bytes (first_of bytes) refl
    (λ message rest e. rest_within n rest (omega (arith, first_shorter bytes message rest e)))

-- what is left of a reading is less than a message
pub reading_rest : (bytes : List ℕ) → length (reading_of bytes).rest < 12 + LONGEST_PAYLOAD
unfolding reading_of
reading_rest bytes = rest_within (length bytes) bytes (omega arith)

-- what is kept after a reading that ends with its rest
pub kept_short : (messages : List Message) (left bytes : List ℕ)
    → reading_of bytes ≡ record { messages = messages; fault = None; rest = left }
    → length left < 12 + LONGEST_PAYLOAD
kept_short messages left bytes e =
    let r : (reading_of bytes).rest ≡ left = ap (λ (reading : Reading). reading.rest) e in
    omega (arith, reading_rest bytes, ap length r)
