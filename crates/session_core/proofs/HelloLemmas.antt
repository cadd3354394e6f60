-- A hello's verdict stands, whatever follows.
use Rattle.std.proofs.Common.{inl, inr, ◌≡◌, ℕ, ◌+◌, ◌<◌, ◌≤◌, Bool, true, false, ◌==◌, not}
use Rattle.std.proofs.Common.{if◌then◌else◌, List, [], ◌∷◌, ◌++◌, length, take, drop, Option, Some}
use Rattle.std.proofs.Common.{None, Result, Ok, Err, refl, ap, arith, length-append}
use Rattle.std.specs.List.{position_or_len, prefix_len}
use Rattle.std.specs.Str.{bytes_eq}
use Rattle.std.proofs.lemmas.Bool.{lt-ltb}
use Rattle.std.proofs.lemmas.List.{take-append-le, drop-append-le}
use Rattle.agg_types.specs.declared.limits.TheConstants.{LONGEST_HELLO_LINE}
use Rattle.session_core.specs.declared.cause.Status.{Status}
use Rattle.session_core.specs.declared.cause.Status.TheVariants.{LocalName}
use Rattle.session_core.specs.Hello.{◌>>=◌, admitted, hello_of, line_at, peer_of, receiver_line}
use Rattle.session_core.specs.Hello.{sender_line, sender_of, split_line, unless, version_fault}
use Rattle.session_core.proofs.TrackLemmas.{lt_tells}
use Rattle.session_core.proofs.MeaningLemmas.{bool_tells}

-- what was read stays, with more bytes behind what is left, and so does a refusal
abbrev pub Longer : {A : Type 0} → Result (Option (A × List ℕ)) Status
    → Result (Option (A × List ℕ)) Status → List ℕ → Type 0
Longer (Ok (Some x)) later more = later ≡ Ok (Some (x.0, x.1 ++ more))
Longer (Ok None) later more = Unit {0}
Longer (Err status) later more = later ≡ Err status

prefix_stays : (q : ℕ → Bool) (a b : List ℕ) → prefix_len q a < length a
    → prefix_len q (a ++ b) ≡ prefix_len q a
prefix_stays q [] b lt = absurd (omega arith)
prefix_stays q (x ∷ a) b lt =
    elim (bool_tells (q x)) [
      | inl e ↦ let lt' = rw e at lt in rw e (ap (λ n. 1 + n) (prefix_stays q a b (omega arith)))
      | inr e ↦ rw e refl
    ]

pub prefix_past : (q : ℕ → Bool) (a b : List ℕ) → length a ≤ prefix_len q a
    → length a ≤ prefix_len q (a ++ b)
prefix_past q [] b le = omega arith
prefix_past q (x ∷ a) b le =
    elim (bool_tells (q x)) [
      | inl e ↦ let le' = rw e at le in rw e (let h : length a ≤ prefix_len q (a ++ b) =
          prefix_past q a b (omega arith) in omega arith)
      | inr e ↦ let le' = rw e at le in absurd (omega arith)
    ]

-- a line that is whole
whole_longer : (a b : List ℕ) (n : ℕ) → n < length a
    → Longer (split_line a (Some n)) (split_line (a ++ b) (Some n)) b
whole_longer a b n lt =
    elim (lt_tells LONGEST_HELLO_LINE n) [
      | inl p ↦ rw p.0 refl
      | inr p ↦
          let front : take n (a ++ b) ≡ take n a = take-append-le n a b (omega arith) in
          let back : drop (n + 1) (a ++ b) ≡ drop (n + 1) a ++ b =
          drop-append-le (n + 1) a b (omega arith) in
          rw (p.0, front, back) refl
    ]

-- and one that is too long without an LF
long_longer : (a b : List ℕ) → length a ≤ position_or_len (λ byte. byte == 10) a
    → Longer (split_line a None) (line_at (a ++ b)) b
unfolding line_at
long_longer a b le =
    let past : length a ≤ position_or_len (λ byte. byte == 10) (a ++ b) =
    prefix_past (λ byte. not (byte == 10)) a b le in
    let len : length a ≤ length (a ++ b) = omega (arith, length-append a b) in
    elim (lt_tells LONGEST_HELLO_LINE (length a)) [
      | inl p ↦
          rw p.0 (elim (lt_tells (position_or_len (λ byte. byte == 10) (a ++ b))
          (length (a ++ b))) [
            | inl q ↦ rw (
              q.0,
              lt-ltb LONGEST_HELLO_LINE (position_or_len (λ byte. byte == 10) (a ++ b))
                  (omega (arith, p.1)),
            ) refl
            | inr q ↦
                rw (q.0, lt-ltb LONGEST_HELLO_LINE (length (a ++ b)) (omega (arith, p.1))) refl
          ])
      | inr p ↦ rw p.0 tt
    ]

line_longer : (a b : List ℕ) → Longer (line_at a) (line_at (a ++ b)) b
unfolding line_at
line_longer a b =
    elim (lt_tells (position_or_len (λ byte. byte == 10) a) (length a)) [
      | inl p ↦
          let same : position_or_len (λ byte. byte == 10) (a ++ b)
          ≡ position_or_len (λ byte. byte == 10) a =
          prefix_stays (λ byte. not (byte == 10)) a b p.1 in
          let lt : position_or_len (λ byte. byte == 10) a < length (a ++ b) =
          omega (arith, length-append a b, p.1) in
          rw (p.0, same, lt-ltb _ _ lt) (whole_longer a b (position_or_len (λ byte. byte == 10) a)
          p.1)
      | inr p ↦ rw p.0 (long_longer a b p.1)
    ]

bind_longer : {A B : Type 0} (first later : Result (Option (A × List ℕ)) Status) (more : List ℕ)
    (f : A × List ℕ → Result (Option (B × List ℕ)) Status) → Longer first later more
    → ((x : A × List ℕ) → Longer (f x) (f (x.0, x.1 ++ more)) more)
    → Longer (first >>= f) (later >>= f) more
bind_longer (Ok (Some x)) later more f is each = rw is (each x)
bind_longer (Ok None) later more f is each = tt
bind_longer (Err status) later more f is each = rw is refl

admitted_longer : (seated : Bool) (rest more : List ℕ) (peer : Option ℕ)
    → Longer (admitted seated rest peer) (admitted seated (rest ++ more) peer) more
admitted_longer seated rest more None = refl
admitted_longer false rest more (Some peer) = refl
admitted_longer true rest more (Some peer) = refl

sender_longer : (peers : List (List ℕ)) (seated : Bool) (a b : List ℕ)
    → Longer (sender_line peers seated a) (sender_line peers seated (a ++ b)) b
unfolding sender_line
sender_longer peers seated a b =
    bind_longer (line_at a) (line_at (a ++ b)) b
    (λ line. admitted seated line.1 (peer_of peers (sender_of line.0))) (line_longer a b)
    (λ line. admitted_longer seated line.1 b (peer_of peers (sender_of line.0)))

chosen_longer : (named : Bool) (first later : Result (Option (ℕ × List ℕ)) Status) (more : List ℕ)
    → Longer first later more → Longer (if named then first else Err LocalName)
    (if named then later else Err LocalName) more
chosen_longer true first later more h = h
chosen_longer false first later more h = refl

receiver_longer : (me : List ℕ) (peers : List (List ℕ)) (seated : Bool) (a b : List ℕ)
    → Longer (receiver_line me peers seated a) (receiver_line me peers seated (a ++ b)) b
unfolding receiver_line
receiver_longer me peers seated a b =
    bind_longer (line_at a) (line_at (a ++ b)) b (λ line. if bytes_eq me line.0
    then sender_line peers seated line.1 else Err LocalName) (line_longer a b)
    (λ line. chosen_longer (bytes_eq me line.0) (sender_line peers seated line.1)
    (sender_line peers seated (line.1 ++ b)) b (sender_longer peers seated line.1 b))

unless_longer : (fault : Option Status) (first later : Result (Option (ℕ × List ℕ)) Status)
    (more : List ℕ) → Longer first later more
    → Longer (unless fault first) (unless fault later) more
unless_longer None first later more h = h
unless_longer (Some fault) first later more h = refl

pub hello_longer : (me : List ℕ) (peers : List (List ℕ)) (seated : Bool) (a b : List ℕ)
    → Longer (hello_of me peers seated a) (hello_of me peers seated (a ++ b)) b
unfolding hello_of
hello_longer me peers seated a b =
    bind_longer (line_at a) (line_at (a ++ b)) b
    (λ line. unless (version_fault line.0) (receiver_line me peers seated line.1))
    (line_longer a b)
    (λ line. unless_longer (version_fault line.0) (receiver_line me peers seated line.1)
    (receiver_line me peers seated (line.1 ++ b)) b (receiver_longer me peers seated line.1 b))
