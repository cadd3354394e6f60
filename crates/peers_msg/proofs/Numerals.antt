-- The spelling of an integer is one, it is the only one, and it is read back whatever follows.
use Rattle.std.proofs.Common.{◌≡◌, ℕ, zero, suc, ◌+◌, ◌-◌, ◌*◌, ◌/◌, ◌%◌, ◌^◌, ◌<◌, ◌≤◌, true}
use Rattle.std.proofs.Common.{false, ltb, leb, List, [], ◌∷◌, ◌++◌, length, Some, Ok, refl, sym, ap}
use Rattle.std.proofs.Common.{◌∙◌, arith, inl, inr}
use Rattle.std.proofs.Math.Nat.{mul_comm}
use Rattle.std.proofs.lemmas.Bool.{ltb-true, ltb-false, le-ltb, lt-ltb, lt-leb, cases_Bool}
use Rattle.std.proofs.lemmas.List.{drop_at, append-nil}
use Rattle.std.proofs.lemmas.Nat.{pow-add}
use Rattle.peers_msg.specs.Numeral.{weight, value_from, value, IsTail, IsSpelling, tail_front}
use Rattle.peers_msg.specs.Numeral.{tail_ends, spelling_front, spelling_ends, integer_at}
use Rattle.peers_msg.specs.Payload.{number_at}
use Rattle.peers_msg.specs.Spelling.{integer_spelling, tail_spelling}
use Rattle.peers_msg.proofs.Bounds.{spelling_short}

-- what bytes after the first stand for, of which one more in the first of them counts 1
abbrev pub digits : List ℕ → ℕ
digits [] = 0
digits (b ∷ bytes) = b + 128 * digits bytes

weight-suc : (place : ℕ) → weight (suc (suc place)) ≡ 128 * weight (suc place)
weight-suc place =
    ap (λ n. 2 ^ n) (let e : 7 * suc place + 4 ≡ 7 + (7 * place + 4) = omega arith in e)
    ∙ pow-add 2 7 (7 * place + 4)

scaled : (w b d more : ℕ) → more ≡ (128 * w) * d → b * w + more ≡ w * (b + 128 * d)
scaled w b d more e = grind (arith, mul_comm)

value-digits : (place : ℕ) (bytes : List ℕ) → value_from (suc place) bytes
    ≡ weight (suc place) * digits bytes
value-digits place [] = omega arith
value-digits place (b ∷ bytes) =
    scaled (weight (suc place)) b (digits bytes) (value_from (suc (suc place)) bytes)
    (value-digits (suc place) bytes ∙ ap (λ w. w * digits bytes) (weight-suc place))

pub value-long : (b : ℕ) (bytes : List ℕ) → value (b ∷ bytes) ≡ b + 16 * digits bytes
value-long b bytes = let e : value_from 1 bytes ≡ 16 * digits bytes = value-digits 0 bytes in
    omega (arith, e)

-- ---- the spelling of a number

pub cons_tail : (b : ℕ) (bytes : List ℕ) → 128 ≤ b → b < 256 → IsTail bytes → IsTail (b ∷ bytes)
cons_tail b [] high fits t = absurd t
cons_tail b (c ∷ bytes) high fits t = (high, fits, t)

pub cons_spelling : (b : ℕ) (bytes : List ℕ) → 240 ≤ b → b < 256 → IsTail bytes
    → IsSpelling (b ∷ bytes)
cons_spelling b [] high fits t = absurd t
cons_spelling b (c ∷ bytes) high fits t = (high, fits, t)

tail_spelled : (most n : ℕ) → n ≤ most → IsTail (tail_spelling most n)
    × (digits (tail_spelling most n) ≡ n)
unfolding tail_spelling
tail_spelled zero n le = (omega arith, omega arith)
tail_spelled (suc most) n le =
    elim (cases_Bool (ltb n 128)) [
      | inl low ↦ rw low (ltb-true n 128 low, omega arith)
      | inr high ↦
          let h = ltb-false n 128 high in
          let t = tail_spelled most ((n - 128) / 128) (omega arith) in
          rw high (
            cons_tail (128 + (n - 128) % 128) (tail_spelling most ((n - 128) / 128))
                (omega arith) (omega arith) t.0,
            omega (arith, t.1),
          )
    ]

pub spelled : (n : ℕ) → IsSpelling (integer_spelling n) × (value (integer_spelling n) ≡ n)
unfolding integer_spelling
spelled n =
    elim (cases_Bool (ltb n 240)) [
      | inl low ↦ rw low (ltb-true n 240 low, omega arith)
      | inr high ↦
          let h = ltb-false n 240 high in
          let t = tail_spelled n ((n - 240) / 16) (omega arith) in
          rw high (
            cons_spelling (240 + (n - 240) % 16) (tail_spelling n ((n - 240) / 16))
                (omega arith) (omega arith) t.0,
            omega (
              arith,
              t.1,
              value-long (240 + (n - 240) % 16)
                  (tail_spelling n ((n - 240) / 16)),
            ),
          )
    ]

-- ---- one spelling

tail_same : (a b : List ℕ) → IsTail a → IsTail b → digits a ≡ digits b → a ≡ b
tail_same [] b s t e = absurd s
tail_same (x ∷ a) [] s t e = absurd t
tail_same (x ∷ []) (y ∷ []) s t e = ap (λ n. n ∷ []) (let q : x ≡ y = omega (arith, e) in q)
tail_same (x ∷ []) (y ∷ d ∷ b) s t e = absurd (omega (arith, e, s, t.0))
tail_same (x ∷ c ∷ a) (y ∷ []) s t e = absurd (omega (arith, e, t, s.0))
tail_same (x ∷ c ∷ a) (y ∷ d ∷ b) s t e =
    let q : x ≡ y = omega (arith, e, s.0, s.1, t.0, t.1) in
    let r : digits (c ∷ a) ≡ digits (d ∷ b) = omega (arith, e, s.0, s.1, t.0, t.1) in
    let same = tail_same (c ∷ a) (d ∷ b) s.2 t.2 r in
    ap (λ n. n ∷ c ∷ a) q ∙ ap (λ (bs : List ℕ). y ∷ bs) same

pub spelling_same : (a b : List ℕ) → IsSpelling a → IsSpelling b → value a ≡ value b → a ≡ b
spelling_same [] b s t e = absurd s
spelling_same (x ∷ a) [] s t e = absurd t
spelling_same (x ∷ []) (y ∷ []) s t e = ap (λ n. n ∷ []) (let q : x ≡ y = omega (arith, e) in q)
spelling_same (x ∷ []) (y ∷ d ∷ b) s t e = absurd (omega (arith, e, s, t.0, value-long y (d ∷ b)))
spelling_same (x ∷ c ∷ a) (y ∷ []) s t e = absurd (omega (arith, e, t, s.0, value-long x (c ∷ a)))
spelling_same (x ∷ c ∷ a) (y ∷ d ∷ b) s t e =
    let v = value-long x (c ∷ a) in
    let w = value-long y (d ∷ b) in
    let q : x ≡ y = omega (arith, e, v, w, s.0, s.1, t.0, t.1) in
    let r : digits (c ∷ a) ≡ digits (d ∷ b) = omega (arith, e, v, w, s.0, s.1, t.0, t.1) in
    let same = tail_same (c ∷ a) (d ∷ b) s.2 t.2 r in
    ap (λ n. n ∷ c ∷ a) q ∙ ap (λ (bs : List ℕ). y ∷ bs) same

-- ---- a spelling at the front

tail_at_front : (s rest : List ℕ) → IsTail s → (tail_front (s ++ rest) ≡ s)
    × (tail_ends (s ++ rest) ≡ true)
tail_at_front [] rest t = absurd t
tail_at_front (b ∷ []) rest t = let low = lt-ltb b 128 t in (rw low refl, rw low refl)
tail_at_front (b ∷ c ∷ s) rest t =
    let high = le-ltb b 128 t.0 in
    let r = tail_at_front (c ∷ s) rest t.2 in
    (rw high (ap (λ (bs : List ℕ). b ∷ bs) r.0), rw high r.1)

pub spelling_at_front : (s rest : List ℕ) → IsSpelling s → (spelling_front (s ++ rest) ≡ s)
    × (spelling_ends (s ++ rest) ≡ true)
spelling_at_front [] rest t = absurd t
spelling_at_front (b ∷ []) rest t = let low = lt-ltb b 240 t in (rw low refl, rw low refl)
spelling_at_front (b ∷ c ∷ s) rest t =
    let high = le-ltb b 240 t.0 in
    let r = tail_at_front (c ∷ s) rest t.2 in
    (rw high (ap (λ (bs : List ℕ). b ∷ bs) r.0), rw high r.1)

-- no spelling begins another
pub spelling_alone : (a b x y : List ℕ) → IsSpelling a → IsSpelling b → a ++ x ≡ b ++ y → a ≡ b
spelling_alone a b x y s t e = sym (spelling_at_front a x s).0 ∙ ap spelling_front e
    ∙ (spelling_at_front b y t).0

pub integer_spelled : (s rest : List ℕ) → IsSpelling s → value s < 2 ^ 64
    → integer_at (s ++ rest) ≡ Ok (Some (value s, length s))
unfolding integer_at
integer_spelled s rest is small =
    let f = spelling_at_front s rest is in
    let over : leb (2 ^ 64) (value s) ≡ false = lt-leb _ _ small in
    rw (f.0, f.1, over) refl

pub number_again : (n : ℕ) (rest : List ℕ) → n < 2 ^ 64 → number_at (integer_spelling n ++ rest)
    ≡ Some (n, rest)
unfolding number_at
number_again n rest small =
    let s = spelled n in
    rw (
      integer_spelled (integer_spelling n) rest s.0 (omega (arith, s.1)),
      drop_at (integer_spelling n) rest (length (integer_spelling n)) refl,
    )
    (ap (λ k. Some (k, rest)) s.1)

pub spelling_len : (n : ℕ) → n < 2 ^ 64 → length (integer_spelling n) ≤ 10
spelling_len n small =
    let s = spelled n in
    let f : spelling_front (integer_spelling n) ≡ integer_spelling n =
    ap spelling_front (sym (append-nil (integer_spelling n)))
    ∙ (spelling_at_front (integer_spelling n) [] s.0).0 in
    let v : value (spelling_front (integer_spelling n)) ≡ n = ap value f ∙ s.1 in
    omega (arith, ap length f, spelling_short (integer_spelling n) (omega (arith, v)))
