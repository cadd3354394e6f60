-- The head of a whole message says what its frame is, and a message takes a byte or more.
use Rattle.std.proofs.Common.{◌≡◌, ℕ, ◌+◌, ◌-◌, ◌<◌, ◌≤◌, Bool, true, false, cond, ltb, List, []}
use Rattle.std.proofs.Common.{◌∷◌, length, get_or, take, drop, Option, Some, None, Result, Ok, Err}
use Rattle.std.proofs.Common.{refl, ap, length-drop, arith}
use Rattle.std.proofs.lemmas.Bool.{le-ltb}
use Rattle.std.proofs.lemmas.List.{drop-drop}
use Rattle.agg_types.specs.declared.limits.TheConstants.{LONGEST_PAYLOAD}
use Rattle.peers_msg.specs.declared.integer.IntTooLarge.{IntTooLarge}
use Rattle.peers_msg.specs.declared.message.Message.{Message}
use Rattle.peers_msg.specs.declared.fault.WireCause.TheVariants.{TooLong}
use Rattle.peers_msg.specs.Numeral.{integer_at}
use Rattle.peers_msg.specs.Message.{Short, Wrong, Framed, framed, frame_at, First, Unfinished}
use Rattle.peers_msg.specs.Message.{Faulty, Whole, whole_or_bad, first_in, first_of, message_of}

pub whole_head : (bytes : List ℕ) (len taken : ℕ) → 2 ≤ length bytes → 128 ≤ get_or bytes 1 0
    → integer_at (drop 2 bytes) ≡ Ok (Some (len, taken)) → len ≤ LONGEST_PAYLOAD
    → len ≤ length (drop 2 bytes) - taken
    → frame_at bytes ≡ Framed (get_or bytes 0 0) (get_or bytes 1 0)
    (take len (drop (2 + taken) bytes)) (drop len (drop (2 + taken) bytes))
unfolding frame_at
whole_head [] len taken two high is small long = absurd (omega arith)
whole_head (class ∷ []) len taken two high is small long = absurd (omega arith)
whole_head (class ∷ kind ∷ bytes) len taken two high is small long =
    let k : ltb kind 128 ≡ false = le-ltb kind 128 high in
    let a : ltb LONGEST_PAYLOAD len ≡ false = le-ltb LONGEST_PAYLOAD len small in
    let b : ltb (length (drop taken bytes)) len ≡ false =
    le-ltb (length (drop taken bytes)) len (omega (arith, length-drop taken bytes)) in
    let d : drop taken bytes ≡ drop (2 + taken) (class ∷ kind ∷ bytes) =
    drop-drop taken 2 (class ∷ kind ∷ bytes) in
    rw (← d, k, is, a, b) refl

abbrev pub left_of : First → List ℕ
left_of Unfinished = []
left_of (Faulty cause) = []
left_of (Whole message rest) = rest

left_whole : (o : Option Message) (rest : List ℕ)
    → length (left_of (whole_or_bad o rest)) ≤ length rest
left_whole None rest = omega arith
left_whole (Some message) rest = omega arith

left_framed : (class kind len : ℕ) (bytes : List ℕ) (long cut : Bool)
    → length (left_of (first_in (cond long (Wrong TooLong)
    (cond cut Short (Framed class kind (take len bytes) (drop len bytes)))))) ≤ length bytes
left_framed class kind len bytes true cut = omega arith
left_framed class kind len bytes false true = omega arith
left_framed class kind len bytes false false =
    omega (
      arith,
      left_whole (message_of class kind (take len bytes)) (drop len bytes),
      length-drop len bytes,
    )

left_le : (class kind : ℕ) (bytes : List ℕ) (low : Bool) (r : Result (Option (ℕ × ℕ)) IntTooLarge)
    → length (left_of (first_in (cond low (Framed class kind [] bytes)
    (framed class kind bytes r)))) ≤ length bytes
left_le class kind bytes true r = left_whole (message_of class kind []) bytes
left_le class kind bytes false (Ok None) = omega arith
left_le class kind bytes false (Err over) = omega arith
left_le class kind bytes false (Ok (Some size)) =
    omega (
      arith,
      left_framed class kind size.0 (drop size.1 bytes) (ltb LONGEST_PAYLOAD size.0)
          (ltb (length (drop size.1 bytes)) size.0),
      length-drop size.1 bytes,
    )

pub first_shorter : (bytes : List ℕ) (message : Message) (rest : List ℕ)
    → first_of bytes ≡ Whole message rest → length rest < length bytes
unfolding first_of frame_at
first_shorter [] message rest e = absurd cc
first_shorter (class ∷ []) message rest e = absurd cc
first_shorter (class ∷ kind ∷ bytes) message rest e =
    let l : left_of (first_in (cond (ltb kind 128) (Framed class kind [] bytes)
    (framed class kind bytes (integer_at bytes)))) ≡ rest = ap left_of e in
    rw (← l) (omega (arith, left_le class kind bytes (ltb kind 128) (integer_at bytes)))
