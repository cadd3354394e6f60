-- How far the loop has come that reads an integer of two bytes or more.
use Rattle.std.proofs.Common.{◌≡◌, ℕ, suc, ◌+◌, ◌*◌, ◌^◌, ◌<◌, ◌≤◌, true, false, ltb, List, [], ◌∷◌}
use Rattle.std.proofs.Common.{length, get_or, drop, leb, Some, None, Ok, Err, inl, inr, refl, sym}
use Rattle.std.proofs.Common.{ap, ◌∙◌, arith, add-one}
use Rattle.std.proofs.lemmas.Bool.{le-ltb, lt-ltb, le-leb, lt-leb, cases_lt}
use Rattle.std.proofs.lemmas.List.{at_drop_more, at_drop_all}
use Rattle.std.proofs.lemmas.Nat.{pow-add}
use Rattle.peers_msg.specs.Numeral.{integer_at, weight, value_from, tail_front, tail_ends}

-- the first i bytes of rest are read, which stand for so_far with the first byte; at_place is the
-- weight of the next
pub record IsRead (first : ℕ) (rest : List ℕ) (i so_far at_place : ℕ) : Type 0 where
  pub sum : so_far + value_from (i + 1) (tail_front (drop i rest)) ≡ first + value_from 1
      (tail_front rest)
  pub place : at_place ≡ weight (i + 1)
  pub len : i + length (tail_front (drop i rest)) ≡ length (tail_front rest)
  pub ends : tail_ends (drop i rest) ≡ tail_ends rest
  pub fits : so_far < 2 ^ 64

weight-suc : (i : ℕ) → weight (i + 1 + 1) ≡ weight (i + 1) * 128
weight-suc i = rw (add-one, add-one) (ap (λ n. 2 ^ n) (let e : 7 * suc i + 4 ≡ 7 * i + 4 + 7 =
    omega arith in e) ∙ pow-add 2 (7 * i + 4) 7)

pub front_more : (rest : List ℕ) (i byte : ℕ) → i < length rest → byte ≡ get_or rest i 0
    → 128 ≤ byte → tail_front (drop i rest) ≡ byte ∷ tail_front (drop (i + 1) rest)
front_more rest i byte lt is high = at_drop_more tail_front rest i 0 lt
    ∙ rw (← is, le-ltb byte 128 high) refl

pub front_last : (rest : List ℕ) (i byte : ℕ) → i < length rest → byte ≡ get_or rest i 0
    → byte < 128 → tail_front (drop i rest) ≡ byte ∷ []
front_last rest i byte lt is low = at_drop_more tail_front rest i 0 lt
    ∙ rw (← is, lt-ltb byte 128 low) refl

ends_more : (rest : List ℕ) (i byte : ℕ) → i < length rest → byte ≡ get_or rest i 0 → 128 ≤ byte
    → tail_ends (drop i rest) ≡ tail_ends (drop (i + 1) rest)
ends_more rest i byte lt is high = at_drop_more tail_ends rest i 0 lt
    ∙ rw (← is, le-ltb byte 128 high) refl

ends_last : (rest : List ℕ) (i byte : ℕ) → i < length rest → byte ≡ get_or rest i 0 → byte < 128
    → tail_ends (drop i rest) ≡ true
ends_last rest i byte lt is low = at_drop_more tail_ends rest i 0 lt
    ∙ rw (← is, lt-ltb byte 128 low) refl

pub read_more : (first : ℕ) (rest : List ℕ) (i byte so_far at_place : ℕ)
    → IsRead first rest i so_far at_place → i < length rest → byte ≡ get_or rest i 0 → 128 ≤ byte
    → so_far + byte * at_place < 2 ^ 64 → IsRead first rest (i + 1) (so_far + byte * at_place)
    (at_place * 128)
read_more first rest i byte so_far at_place h lt is high small =
    let f = front_more rest i byte lt is high in
    let s : value_from (i + 1) (tail_front (drop i rest)) ≡ byte * weight (i + 1) + value_from
    (suc (i + 1)) (tail_front (drop (i + 1) rest)) = ap (value_from (i + 1)) f in
    let n : length (tail_front (drop i rest)) ≡ suc (length (tail_front (drop (i + 1) rest))) =
    ap length f in
    let w : byte * at_place ≡ byte * weight (i + 1) = ap (λ p. byte * p) h.place in
    let z : value_from (suc (i + 1)) (tail_front (drop (i + 1) rest)) ≡ value_from (i + 1 + 1)
    (tail_front (drop (i + 1) rest)) = ap (λ p. value_from p (tail_front (drop (i + 1) rest)))
    (sym (add-one (i + 1))) in
    record {
      sum = omega (arith, h.sum, s, w, z);
      place = ap (λ w. w * 128) h.place ∙ sym (weight-suc i);
      len = omega (arith, h.len, n);
      ends = sym (ends_more rest i byte lt is high) ∙ h.ends;
      fits = small;
    }

-- what the whole spelling is, once its last byte is read
pub record IsWhole (first : ℕ) (rest : List ℕ) (i total : ℕ) : Type 0 where
  pub sum : first + value_from 1 (tail_front rest) ≡ total
  pub len : length (tail_front rest) ≡ i + 1
  pub ends : tail_ends rest ≡ true

pub read_last : (first : ℕ) (rest : List ℕ) (i byte so_far at_place : ℕ)
    → IsRead first rest i so_far at_place → i < length rest → byte ≡ get_or rest i 0 → byte < 128
    → IsWhole first rest i (so_far + byte * at_place)
read_last first rest i byte so_far at_place h lt is low =
    let f = front_last rest i byte lt is low in
    let s : value_from (i + 1) (tail_front (drop i rest)) ≡ byte * weight (i + 1) + 0 =
    ap (value_from (i + 1)) f in
    let n : length (tail_front (drop i rest)) ≡ 1 = ap length f in
    let w : byte * at_place ≡ byte * weight (i + 1) = ap (λ p. byte * p) h.place in
    record {
      sum = omega (arith, h.sum, s, w);
      len = omega (arith, h.len, n);
      ends = sym h.ends ∙ ends_last rest i byte lt is low;
    }

-- whichever byte comes next, it counts in the whole
pub read_part : (first : ℕ) (rest : List ℕ) (i byte so_far at_place : ℕ)
    → IsRead first rest i so_far at_place → i < length rest → byte ≡ get_or rest i 0
    → so_far + byte * at_place ≤ first + value_from 1 (tail_front rest)
read_part first rest i byte so_far at_place h lt is =
    elim (cases_lt byte 128) [
      | inl low ↦ omega (arith, (read_last first rest i byte so_far at_place h lt is low).sum)
      | inr high ↦
          let s : value_from (i + 1) (tail_front (drop i rest)) ≡ byte * weight (i + 1) + value_from
          (suc (i + 1)) (tail_front (drop (i + 1) rest)) =
          ap (value_from (i + 1)) (front_more rest i byte lt is high) in
          let w : byte * at_place ≡ byte * weight (i + 1) = ap (λ p. byte * p) h.place in
          omega (arith, h.sum, s, w)
    ]

-- all bytes are read, and none ended the spelling
pub read_all : (first : ℕ) (rest : List ℕ) (i so_far at_place : ℕ)
    → IsRead first rest i so_far at_place → length rest ≤ i
    → (first + value_from 1 (tail_front rest) ≡ so_far) × (tail_ends rest ≡ false)
read_all first rest i so_far at_place h le =
    let s : value_from (i + 1) (tail_front (drop i rest)) ≡ 0 =
    at_drop_all (λ xs. value_from (i + 1) (tail_front xs)) rest i le in
    (omega (arith, h.sum, s), sym h.ends ∙ at_drop_all tail_ends rest i le)

over_is : (first : ℕ) (rest : List ℕ) → 240 ≤ first
    → 2 ^ 64 ≤ first + value_from 1 (tail_front rest) → integer_at (first ∷ rest) ≡ Err (record {})
unfolding integer_at
over_is first rest high over =
    let b : ltb first 240 ≡ false = le-ltb first 240 high in
    let o : leb (2 ^ 64) (first * 1 + value_from 1 (tail_front rest)) ≡ true =
    le-leb _ _ (omega arith) in
    rw (b, o) refl

pub over_at : (first : ℕ) (rest : List ℕ) (i byte so_far at_place : ℕ) → 240 ≤ first
    → IsRead first rest i so_far at_place → i < length rest → byte ≡ get_or rest i 0
    → 2 ^ 64 ≤ so_far + byte * at_place → integer_at (first ∷ rest) ≡ Err (record {})
over_at first rest i byte so_far at_place high h lt is over =
    over_is first rest high (omega (arith, read_part first rest i byte so_far at_place h lt is))

pub found_at : (first : ℕ) (rest : List ℕ) (i byte so_far at_place : ℕ) → 240 ≤ first
    → IsRead first rest i so_far at_place → i < length rest → byte ≡ get_or rest i 0 → byte < 128
    → so_far + byte * at_place < 2 ^ 64 → integer_at (first ∷ rest)
    ≡ Ok (Some (so_far + byte * at_place, i + 2))
unfolding integer_at
found_at first rest i byte so_far at_place high h lt is low fits =
    let w = read_last first rest i byte so_far at_place h lt is low in
    let b : ltb first 240 ≡ false = le-ltb first 240 high in
    let o : leb (2 ^ 64) (first * 1 + value_from 1 (tail_front rest)) ≡ false =
    lt-leb _ _ (omega (arith, w.sum)) in
    let s : first * 1 + value_from 1 (tail_front rest) ≡ so_far + byte * at_place =
    omega (arith, w.sum) in
    let n : suc (length (tail_front rest)) ≡ i + 2 = omega (arith, w.len) in
    rw (b, o, w.ends, s, n) refl

pub cut_at : (first : ℕ) (rest : List ℕ) (i so_far at_place : ℕ) → 240 ≤ first
    → IsRead first rest i so_far at_place → length rest ≤ i → integer_at (first ∷ rest) ≡ Ok None
unfolding integer_at
cut_at first rest i so_far at_place high h le =
    let a = read_all first rest i so_far at_place h le in
    let b : ltb first 240 ≡ false = le-ltb first 240 high in
    let o : leb (2 ^ 64) (first * 1 + value_from 1 (tail_front rest)) ≡ false =
    lt-leb _ _ (omega (arith, a.0, h.fits)) in
    rw (b, o, a.1) refl

-- ---- integers of two and of three bytes

two_bytes : (first second : ℕ) (rest : List ℕ) → 240 ≤ first → first < 256 → second < 128
    → integer_at (first ∷ second ∷ rest) ≡ Ok (Some (first + 16 * second, 2))
unfolding integer_at
two_bytes first second rest high byte low =
    let a : ltb first 240 ≡ false = le-ltb first 240 high in
    let b : ltb second 128 ≡ true = lt-ltb second 128 low in
    let same : first * 1 + (second * 16 + 0) ≡ first + 16 * second = omega arith in
    let fits : leb (2 ^ 64) (first + 16 * second) ≡ false =
    lt-leb (2 ^ 64) (first + 16 * second) (omega arith) in
    rw (a, b, same, fits) refl

three_bytes : (first second third : ℕ) (rest : List ℕ) → 240 ≤ first → first < 256
    → 128 ≤ second → second < 256 → third < 128
    → integer_at (first ∷ second ∷ third ∷ rest)
    ≡ Ok (Some (first + 16 * second + 2048 * third, 3))
unfolding integer_at
three_bytes first second third rest high byte more other low =
    let a : ltb first 240 ≡ false = le-ltb first 240 high in
    let b : ltb second 128 ≡ false = le-ltb second 128 more in
    let d : ltb third 128 ≡ true = lt-ltb third 128 low in
    let same : first * 1 + (second * 16 + (third * 2048 + 0))
    ≡ first + 16 * second + 2048 * third = omega arith in
    let fits : leb (2 ^ 64) (first + 16 * second + 2048 * third) ≡ false =
    lt-leb (2 ^ 64) (first + 16 * second + 2048 * third) (omega arith) in
    rw (a, b, d, same, fits) refl

pub two_front : (first second : ℕ) (rest : List ℕ) → 240 ≤ first → first < 256
    → 1 ≤ length rest → second ≡ get_or rest 0 0 → second < 128
    → integer_at (first ∷ rest) ≡ Ok (Some (first + 16 * second, 2))
two_front first second [] high byte one is low = absurd (omega arith)
two_front first second (b ∷ rest) high byte one is low =
    rw is (two_bytes first b rest high byte (omega (arith, is, low)))

pub three_front : (first second third : ℕ) (rest : List ℕ) → 240 ≤ first → first < 256
    → 2 ≤ length rest → second ≡ get_or rest 0 0 → third ≡ get_or rest 1 0 → 128 ≤ second
    → second < 256 → third < 128
    → integer_at (first ∷ rest) ≡ Ok (Some (first + 16 * second + 2048 * third, 3))
three_front first second third [] high byte two is_b is_c more other low = absurd (omega arith)
three_front first second third (b ∷ []) high byte two is_b is_c more other low =
    absurd (omega arith)
three_front first second third (b ∷ d ∷ rest) high byte two is_b is_c more other low =
    rw (is_b, is_c) (three_bytes first b d rest high byte (omega (arith, is_b, more))
    (omega (arith, is_b, other)) (omega (arith, is_c, low)))
