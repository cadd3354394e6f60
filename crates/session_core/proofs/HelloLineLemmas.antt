-- A hello's verdict as a relation on its whole lines.
use Rattle.std.proofs.Common.{inl, inr, ◌≡◌, ℕ, suc, ◌+◌, ◌<◌, ◌≤◌, Bool, true, false}
use Rattle.std.proofs.Common.{◌==◌, not, if◌then◌else◌, List, [], ◌∷◌, ◌++◌, length, take, drop}
use Rattle.std.proofs.Common.{MatchOption, Option, Some, None, Result, Ok, Err, refl, sym, ap}
use Rattle.std.proofs.Common.{arith, append-nil, length-append}
use Rattle.std.specs.List.{position_or_len}
use Rattle.std.specs.Str.{bytes_eq}
use Rattle.std.proofs.lemmas.Bool.{lt-ltb, le-ltb, ne_eqb}
use Rattle.std.proofs.lemmas.Bool.Decides.{eqb_tells}
use Rattle.std.proofs.lemmas.List.{take-append-drop, length-take-le}
use Rattle.std.proofs.Math.Seq.{take-append_seam, drop-append-add}
use Rattle.agg_types.specs.declared.limits.TheConstants.{LONGEST_HELLO_LINE}
use Rattle.session_core.specs.declared.cause.Status.{Status}
use Rattle.session_core.specs.declared.cause.Status.TheVariants.{TryLater, Protocol, LocalName}
use Rattle.session_core.specs.declared.cause.Status.TheVariants.{RemoteName}
use Rattle.session_core.specs.Hello.{◌>>=◌, admitted, hello_of, line_at, peer_of, receiver_line}
use Rattle.session_core.specs.Hello.{sender_line, sender_of, split_line, unless, version_fault}
use Rattle.session_core.specs.HelloLines.{Decides, HasLine, HasLongLine, HasNoLf, HelloDecides}
use Rattle.session_core.specs.HelloLines.{IsCutLine, SenderDecides, Verdict, receiver_fault}
use Rattle.session_core.proofs.HelloLemmas.{prefix_past}
use Rattle.session_core.proofs.TrackLemmas.{lt_tells}

-- where the first LF is
abbrev pub lf_place : List ℕ → ℕ
lf_place bytes = position_or_len (λ byte. byte == 10) bytes

front_has_none : (bytes : List ℕ) → HasNoLf (take (lf_place bytes) bytes)
front_has_none [] = tt
front_has_none (x ∷ bytes) =
    elim (eqb_tells x 10) [
      | inl p ↦ rw p.0 tt
      | inr p ↦
          let n : 1 + lf_place bytes ≡ suc (lf_place bytes) = omega arith in
          rw (p.0, n) (p.1, front_has_none bytes)
    ]

first_lf : (x : ℕ) (bytes : List ℕ) → x ≡ 10 → x ∷ bytes ≡ [] ++ 10 ∷ bytes
first_lf x bytes e = ap (λ y. y ∷ bytes) e

split_at_lf : (bytes : List ℕ) → lf_place bytes < length bytes → bytes ≡ take (lf_place bytes) bytes
    ++ 10 ∷ drop (lf_place bytes + 1) bytes
split_at_lf [] lt = absurd (omega arith)
split_at_lf (x ∷ bytes) lt =
    elim (eqb_tells x 10) [
      | inl p ↦ rw p.0 (first_lf x bytes p.1)
      | inr p ↦
          let lt' = rw p.0 at lt in
          let n : 1 + lf_place bytes ≡ suc (lf_place bytes) = omega arith in
          let m : suc (lf_place bytes) + 1 ≡ suc (lf_place bytes + 1) = omega arith in
          rw (p.0, n, m) (ap (λ more. x ∷ more) (split_at_lf bytes (omega arith)))
    ]

none_in_all : (bytes : List ℕ) → length bytes ≤ lf_place bytes → HasNoLf bytes
none_in_all [] le = tt
none_in_all (x ∷ bytes) le =
    elim (eqb_tells x 10) [
      | inl p ↦ let le' = rw p.0 at le in absurd (omega arith)
      | inr p ↦ let le' = rw p.0 at le in (p.1, none_in_all bytes (omega arith))
    ]

place_past : (bytes : List ℕ) → HasNoLf bytes → length bytes ≤ lf_place bytes
place_past [] h = omega arith
place_past (x ∷ bytes) h =
    let le : length bytes ≤ lf_place bytes = place_past bytes h.1 in
    rw (ne_eqb x 10 h.0) (omega arith)

place_at : (sent rest : List ℕ) → HasNoLf sent → lf_place (sent ++ 10 ∷ rest) ≡ length sent
place_at [] rest h = refl
place_at (x ∷ sent) rest h = rw (ne_eqb x 10 h.0) (omega (arith, place_at sent rest h.1))

-- ---- one line

-- what is read of the line at the front
abbrev pub LineIs : List ℕ → Result (Option (List ℕ × List ℕ)) Status → Type 0
LineIs bytes (Ok (Some found)) = HasLine bytes found.0 found.1
LineIs bytes (Ok None) = IsCutLine bytes
LineIs bytes (Err status) = HasLongLine bytes × (status ≡ Protocol)

whole_line_is : (bytes : List ℕ) → lf_place bytes < length bytes
    → LineIs bytes (split_line bytes (Some (lf_place bytes)))
whole_line_is bytes lt =
    elim (lt_tells LONGEST_HELLO_LINE (lf_place bytes)) [
      | inl p ↦
          let len : length (take (lf_place bytes) bytes) ≡ lf_place bytes =
          length-take-le (lf_place bytes) bytes (omega arith) in
          rw p.0 (
            (
              take (lf_place bytes) bytes,
              drop (lf_place bytes) bytes,
              sym (take-append-drop (lf_place bytes) bytes),
              front_has_none bytes,
              omega (arith, len, p.1),
            ),
            refl,
          )
      | inr p ↦
          let len : length (take (lf_place bytes) bytes) ≡ lf_place bytes =
          length-take-le (lf_place bytes) bytes (omega arith) in
          rw p.0 (
            take (lf_place bytes) bytes,
            split_at_lf bytes lt,
            front_has_none bytes,
            omega (arith, len, p.1),
            refl,
          )
    ]

open_line_is : (bytes : List ℕ) → length bytes ≤ lf_place bytes
    → LineIs bytes (split_line bytes None)
open_line_is bytes le =
    elim (lt_tells LONGEST_HELLO_LINE (length bytes)) [
      | inl p ↦ rw p.0 ((bytes, [], sym (append-nil bytes), none_in_all bytes le, p.1), refl)
      | inr p ↦ rw p.0 (none_in_all bytes le, p.1)
    ]

pub line_is : (bytes : List ℕ) → LineIs bytes (line_at bytes)
unfolding line_at
line_is bytes =
    elim (lt_tells (lf_place bytes) (length bytes)) [
      | inl p ↦ rw p.0 (whole_line_is bytes p.1)
      | inr p ↦ rw p.0 (open_line_is bytes p.1)
    ]

is_line : (bytes line rest : List ℕ) → HasLine bytes line rest
    → line_at bytes ≡ Ok (Some (line, rest))
unfolding line_at
is_line bytes line rest h =
    let sent = h.0 in
    let at : lf_place (sent ++ 10 ∷ rest) ≡ length sent = place_at sent rest h.2 in
    let len : length (sent ++ 10 ∷ rest) ≡ length sent + suc (length rest) =
    length-append sent (10 ∷ rest) in
    let front : take (length sent) (sent ++ 10 ∷ rest) ≡ sent = take-append_seam sent (10 ∷ rest) in
    let back : drop (length sent + 1) (sent ++ 10 ∷ rest) ≡ rest =
    drop-append-add sent (10 ∷ rest) 1 in
    rw (
      h.1,
      at,
      lt-ltb (length sent) (length (sent ++ 10 ∷ rest)) (omega (arith, len)),
      le-ltb LONGEST_HELLO_LINE (length sent) h.3,
      front,
      back,
      h.4,
    ) refl

is_cut_line : (bytes : List ℕ) → IsCutLine bytes → line_at bytes ≡ Ok None
unfolding line_at
is_cut_line bytes h =
    rw (
      le-ltb (lf_place bytes) (length bytes) (place_past bytes h.0),
      le-ltb LONGEST_HELLO_LINE (length bytes) h.1,
    ) refl

is_long_line : (bytes : List ℕ) → HasLongLine bytes → line_at bytes ≡ Err Protocol
unfolding line_at
is_long_line bytes h =
    let front = h.0 in
    let more = h.1 in
    let past : length front ≤ lf_place (front ++ more) =
    prefix_past (λ byte. not (byte == 10)) front more (place_past front h.3) in
    let len : length (front ++ more) ≡ length front + length more = length-append front more in
    rw h.2 (elim (lt_tells (lf_place (front ++ more)) (length (front ++ more))) [
      | inl p ↦
          rw (
            p.0,
            lt-ltb LONGEST_HELLO_LINE (lf_place (front ++ more))
                (omega (arith, past, h.4)),
          ) refl
      | inr p ↦
          rw (
            p.0,
            lt-ltb LONGEST_HELLO_LINE (length (front ++ more))
                (omega (arith, len, h.4)),
          ) refl
    ])

-- ---- the line at the front, and what follows it

decides_by : (fault : List ℕ → Option Status) (next : List ℕ → List ℕ → Verdict → Type 0)
    (goes : List ℕ × List ℕ → Verdict) (bytes : List ℕ)
    (r : Result (Option (List ℕ × List ℕ)) Status) → LineIs bytes r
    → ((line rest : List ℕ) → MatchOption (fault line) (next line rest (goes (line, rest)))
    (λ status. goes (line, rest) ≡ Err status)) → Decides fault next bytes (r >>= goes)
decides_by fault next goes bytes (Ok (Some found)) h each =
    inr (inr (found.0, found.1, h, each found.0 found.1))
decides_by fault next goes bytes (Ok None) h each = inr (inl (h, refl))
decides_by fault next goes bytes (Err status) h each = inl (h.0, ap Err h.1)

decided_by : (fault : List ℕ → Option Status) (next : List ℕ → List ℕ → Verdict → Type 0)
    (goes : List ℕ × List ℕ → Verdict) (bytes : List ℕ) (verdict : Verdict)
    → ((line rest : List ℕ) → MatchOption (fault line) (next line rest verdict)
    (λ status. verdict ≡ Err status) → verdict ≡ goes (line, rest))
    → Decides fault next bytes verdict → verdict ≡ (line_at bytes >>= goes)
decided_by fault next goes bytes verdict each (inl h) = rw (is_long_line bytes h.0) h.1
decided_by fault next goes bytes verdict each (inr (inl h)) = rw (is_cut_line bytes h.0) h.1
decided_by fault next goes bytes verdict each (inr (inr h)) =
    rw (is_line bytes h.0 h.1 h.2) (each h.0 h.1 h.3)

-- ---- the third line

admitted_is : (peer : Option ℕ) (seated : Bool) (rest : List ℕ)
    → MatchOption peer (admitted seated rest peer ≡ Err RemoteName) (λ p. admitted seated rest peer
    ≡ (if seated then Ok (Some (p, rest)) else Err TryLater))
admitted_is None seated rest = refl
admitted_is (Some peer) true rest = refl
admitted_is (Some peer) false rest = refl

is_admitted : (peer : Option ℕ) (seated : Bool) (rest : List ℕ) (verdict : Verdict)
    → MatchOption peer (verdict ≡ Err RemoteName)
    (λ p. verdict ≡ (if seated then Ok (Some (p, rest)) else Err TryLater))
    → verdict ≡ admitted seated rest peer
is_admitted None seated rest verdict h = h
is_admitted (Some peer) true rest verdict h = h
is_admitted (Some peer) false rest verdict h = h

abbrev pub ThirdDecides : List (List ℕ) → Bool → List ℕ → Verdict → Type 0
ThirdDecides peers seated bytes verdict =
    Decides (λ third. None) (SenderDecides peers seated) bytes verdict

sender_decides : (peers : List (List ℕ)) (seated : Bool) (bytes : List ℕ)
    → ThirdDecides peers seated bytes (sender_line peers seated bytes)
unfolding sender_line
sender_decides peers seated bytes =
    decides_by (λ third. None) (SenderDecides peers seated)
    (λ line. admitted seated line.1 (peer_of peers (sender_of line.0))) bytes (line_at bytes)
    (line_is bytes)
    (λ line rest. admitted_is (peer_of peers (sender_of line)) seated rest)

sender_decided : (peers : List (List ℕ)) (seated : Bool) (bytes : List ℕ) (verdict : Verdict)
    → ThirdDecides peers seated bytes verdict → verdict ≡ sender_line peers seated bytes
unfolding sender_line
sender_decided peers seated bytes verdict h =
    decided_by (λ third. None) (SenderDecides peers seated)
    (λ line. admitted seated line.1 (peer_of peers (sender_of line.0))) bytes verdict
    (λ line rest is. is_admitted (peer_of peers (sender_of line)) seated rest verdict is) h

-- ---- the second line

abbrev pub SecondDecides : List ℕ → List (List ℕ) → Bool → List ℕ → Verdict → Type 0
SecondDecides me peers seated bytes verdict =
    Decides (receiver_fault me) (λ second others. ThirdDecides peers seated others) bytes verdict

named_is : (named : Bool) (P : Verdict → Type 0) (goes : Verdict) → P goes
    → MatchOption (if named then None else Some LocalName)
    (P (if named then goes else Err LocalName))
    (λ status. (if named then goes else Err LocalName) ≡ Err status)
named_is true P goes h = h
named_is false P goes h = refl

is_named : (named : Bool) (P : Verdict → Type 0) (goes verdict : Verdict)
    → (P verdict → verdict ≡ goes) → MatchOption (if named then None else Some LocalName)
    (P verdict) (λ status. verdict ≡ Err status) → verdict ≡ (if named then goes else Err LocalName)
is_named true P goes verdict is h = is h
is_named false P goes verdict is h = h

receiver_decides : (me : List ℕ) (peers : List (List ℕ)) (seated : Bool) (bytes : List ℕ)
    → SecondDecides me peers seated bytes (receiver_line me peers seated bytes)
unfolding receiver_line
receiver_decides me peers seated bytes =
    decides_by (receiver_fault me) (λ second others. ThirdDecides peers seated others)
    (λ line. if bytes_eq me line.0 then sender_line peers seated line.1 else Err LocalName)
    bytes (line_at bytes) (line_is bytes)
    (λ line rest. named_is (bytes_eq me line) (ThirdDecides peers seated rest)
    (sender_line peers seated rest) (sender_decides peers seated rest))

receiver_decided : (me : List ℕ) (peers : List (List ℕ)) (seated : Bool) (bytes : List ℕ)
    (verdict : Verdict) → SecondDecides me peers seated bytes verdict
    → verdict ≡ receiver_line me peers seated bytes
unfolding receiver_line
receiver_decided me peers seated bytes verdict h =
    decided_by (receiver_fault me) (λ second others. ThirdDecides peers seated others)
    (λ line. if bytes_eq me line.0 then sender_line peers seated line.1 else Err LocalName)
    bytes verdict
    (λ line rest is. is_named (bytes_eq me line) (ThirdDecides peers seated rest)
    (sender_line peers seated rest) verdict (sender_decided peers seated rest verdict) is) h

-- ---- the first line

unless_is : (fault : Option Status) (P : Verdict → Type 0) (goes : Verdict) → P goes
    → MatchOption fault (P (unless fault goes)) (λ status. unless fault goes ≡ Err status)
unless_is None P goes h = h
unless_is (Some status) P goes h = refl

is_unless : (fault : Option Status) (P : Verdict → Type 0) (goes verdict : Verdict)
    → (P verdict → verdict ≡ goes) → MatchOption fault (P verdict) (λ status. verdict ≡ Err status)
    → verdict ≡ unless fault goes
is_unless None P goes verdict is h = is h
is_unless (Some status) P goes verdict is h = h

pub hello_decides : (me : List ℕ) (peers : List (List ℕ)) (seated : Bool) (bytes : List ℕ)
    → HelloDecides me peers seated bytes (hello_of me peers seated bytes)
unfolding hello_of
hello_decides me peers seated bytes =
    decides_by version_fault (λ first more. SecondDecides me peers seated more)
    (λ line. unless (version_fault line.0) (receiver_line me peers seated line.1)) bytes
    (line_at bytes) (line_is bytes)
    (λ line rest. unless_is (version_fault line) (SecondDecides me peers seated rest)
    (receiver_line me peers seated rest) (receiver_decides me peers seated rest))

pub hello_decided : (me : List ℕ) (peers : List (List ℕ)) (seated : Bool) (bytes : List ℕ)
    (verdict : Verdict) → HelloDecides me peers seated bytes verdict
    → verdict ≡ hello_of me peers seated bytes
unfolding hello_of
hello_decided me peers seated bytes verdict h =
    decided_by version_fault (λ first more. SecondDecides me peers seated more)
    (λ line. unless (version_fault line.0) (receiver_line me peers seated line.1)) bytes verdict
    (λ line rest is. is_unless (version_fault line) (SecondDecides me peers seated rest)
    (receiver_line me peers seated rest) verdict (receiver_decided me peers seated rest verdict)
    is) h
