-- The bytes of numbers and of the texts of keys.
use Rattle.std.proofs.Common.{◌≡◌, ℕ, zero, suc, ◌-◌, ◌/◌, ◌%◌, ◌^◌, ◌<◌, ◌≤◌, Bool, true}
use Rattle.std.proofs.Common.{false, eqb, ltb, ◌&&◌, not, List, [], ◌∷◌, ◌++◌, length, map}
use Rattle.std.proofs.Common.{codes, refl, ◌∙◌, arith, inl, inr}
use Rattle.std.proofs.lemmas.Bool.{cases_Bool}
use Rattle.std.proofs.lemmas.Bool.Decides.{nat_tests}
use Rattle.std.proofs.lemmas.List.Folds.{list_all-append}
use Rattle.std.specs.Fmt.{decimal, digit_glyph, digits, digits_onto}
use Rattle.std.specs.Int.{w32, from_be_bytes}
use Rattle.std.specs.List.{flat_map, join_with_byte, list_all}
use Rattle.agg_types.specs.Name.{is_printable}
use Rattle.agg_types.specs.declared.config.KeyKind.{KeyKind}
use Rattle.agg_types.specs.declared.config.KeyKind.TheVariants.{Integer, Ip, Ipv6, Str, Binary}
use Rattle.line_words.specs.Numbers.{is_decimal}
use Rattle.line_words.proofs.WordsBack.{both, decimal_prints, list_all-weaker}
use Rattle.key_text.specs.Printed.{escaped, groups, hex_of, integer_text, is_plain, key_text}
use Rattle.key_text.specs.Printed.{signed_text}

pub and_true : (a b : Bool) → a ≡ true → b ≡ true → (a && b) ≡ true
and_true true b front back = back
and_true false b front back = absurd cc

-- two lists whose elements pass
pub all_of : (p : ℕ → Bool) (a b : List ℕ) → list_all p a ≡ true → list_all p b ≡ true
    → list_all p (a ++ b) ≡ true
all_of p a b front back =
    list_all-append p a b ∙ and_true (list_all p a) (list_all p b) front back

-- ---- numbers

glyph_is_decimal : (n : ℕ) → n < 10 → is_decimal (digit_glyph false n) ≡ true
glyph_is_decimal n small = grind (arith, nat_tests)

digits_are : (k n : ℕ) (behind : List ℕ) → list_all is_decimal behind ≡ true
    → list_all is_decimal (digits_onto k 10 false n behind) ≡ true
digits_are zero n behind all = all
digits_are (suc k) n behind all =
    let more : list_all is_decimal (digit_glyph false (n % 10) ∷ behind) ≡ true =
    and_true _ _ (glyph_is_decimal (n % 10) (omega arith)) all in
    elim (cases_Bool (eqb (n / 10) 0)) [
      | inl last ↦ rw last more
      | inr next ↦ rw next (digits_are k (n / 10) (digit_glyph false (n % 10) ∷ behind) more)
    ]

digits_long : (k n : ℕ) (behind : List ℕ)
    → length behind ≤ length (digits_onto k 10 false n behind)
digits_long zero n behind = omega arith
digits_long (suc k) n behind =
    elim (cases_Bool (eqb (n / 10) 0)) [
      | inl last ↦ rw last (omega arith)
      | inr next ↦
          let more = digits_long k (n / 10) (digit_glyph false (n % 10) ∷ behind) in
          rw next (omega (arith, more))
    ]

-- one digit at least
digits_some : (k n : ℕ) → 1 ≤ length (digits_onto (suc k) 10 false n [])
digits_some k n =
    elim (cases_Bool (eqb (n / 10) 0)) [
      | inl last ↦ rw last (omega arith)
      | inr next ↦
          let more = digits_long k (n / 10) (digit_glyph false (n % 10) ∷ []) in
          rw next (omega (arith, more))
    ]

-- the digits of a number are digits
pub decimal_digits : (n : ℕ) → list_all is_decimal (decimal n) ≡ true
unfolding digits
decimal_digits n = digits_are 64 n [] refl

pub decimal_some : (n : ℕ) → 1 ≤ length (decimal n)
unfolding digits
decimal_some n = digits_some 63 n

-- ---- keys

-- the digits of bytes
abbrev pub lower_digits : List ℕ
lower_digits = codes "0123456789abcdef"

-- a test that printable bytes pass, and the digits of bytes that fit
pub record Prints (p fits : ℕ → Bool) : Type 0 where
  pub printed : (byte : ℕ) → is_printable byte ≡ true → p byte ≡ true
  pub hex : (byte : ℕ) → fits byte ≡ true → list_all p (hex_of byte) ≡ true

pub decimal_passes : (p fits : ℕ → Bool) → Prints p fits → (n : ℕ) → list_all p (decimal n) ≡ true
decimal_passes p fits h n =
    list_all-weaker is_decimal p (λ byte digit. h.printed byte (decimal_prints byte digit))
    (decimal n) (decimal_digits n)

signed_passes : (p fits : ℕ → Bool) → Prints p fits → (n : ℕ)
    → list_all p (signed_text n) ≡ true
signed_passes p fits h n =
    elim (cases_Bool (ltb n (2 ^ 31))) [
      | inl low ↦ rw low (decimal_passes p fits h n)
      | inr high ↦ rw high (and_true (p 45) (list_all p (decimal (2 ^ 32 - n)))
          (h.printed 45 refl) (decimal_passes p fits h (2 ^ 32 - n)))
    ]

integer_passes : (p fits : ℕ → Bool) → Prints p fits → (key : List ℕ)
    → list_all p (integer_text key) ≡ true
integer_passes p fits h [] = refl
integer_passes p fits h (a ∷ []) = refl
integer_passes p fits h (a ∷ b ∷ []) = refl
integer_passes p fits h (a ∷ b ∷ c ∷ []) = refl
integer_passes p fits h (a ∷ b ∷ c ∷ d ∷ []) =
    signed_passes p fits h (from_be_bytes w32 (a ∷ b ∷ c ∷ d ∷ []))
integer_passes p fits h (a ∷ b ∷ c ∷ d ∷ e ∷ rest) = refl

join_passes : (p : ℕ → Bool) (c : ℕ) → p c ≡ true → (texts : List (List ℕ))
    → list_all (list_all p) texts ≡ true → list_all p (join_with_byte c texts) ≡ true
join_passes p c between [] all = refl
join_passes p c between (text ∷ []) all = (both (list_all p text) true all).0
join_passes p c between (text ∷ next ∷ texts) all =
    let h = both (list_all p text) (list_all (list_all p) (next ∷ texts)) all in
    all_of p text (c ∷ join_with_byte c (next ∷ texts)) h.0
    (and_true (p c) (list_all p (join_with_byte c (next ∷ texts))) between
    (join_passes p c between (next ∷ texts) h.1))

octets_pass : (p fits : ℕ → Bool) → Prints p fits → (key : List ℕ)
    → list_all (list_all p) (map decimal key) ≡ true
octets_pass p fits h [] = refl
octets_pass p fits h (byte ∷ key) =
    and_true (list_all p (decimal byte)) (list_all (list_all p) (map decimal key))
    (decimal_passes p fits h byte) (octets_pass p fits h key)

groups_pass : (p fits : ℕ → Bool) → Prints p fits → (key : List ℕ) → list_all fits key ≡ true
    → list_all (list_all p) (groups key) ≡ true
groups_pass p fits h [] all = refl
groups_pass p fits h (last ∷ []) all =
    and_true (list_all p (hex_of last)) true (h.hex last (both (fits last) true all).0) refl
groups_pass p fits h (high ∷ low ∷ key) all =
    let a = both (fits high) (list_all fits (low ∷ key)) all in
    let b = both (fits low) (list_all fits key) a.1 in
    and_true (list_all p (hex_of high ++ hex_of low)) (list_all (list_all p) (groups key))
    (all_of p (hex_of high) (hex_of low) (h.hex high a.0) (h.hex low b.0))
    (groups_pass p fits h key b.1)

flat_passes : (p fits : ℕ → Bool) (text : ℕ → List ℕ)
    → ((byte : ℕ) → fits byte ≡ true → list_all p (text byte) ≡ true) → (key : List ℕ)
    → list_all fits key ≡ true → list_all p (flat_map text key) ≡ true
flat_passes p fits text each [] all = refl
flat_passes p fits text each (byte ∷ key) all =
    let h = both (fits byte) (list_all fits key) all in
    all_of p (text byte) (flat_map text key) (each byte h.0)
    (flat_passes p fits text each key h.1)

escaped_passes : (p fits : ℕ → Bool) → Prints p fits → (byte : ℕ) → fits byte ≡ true
    → list_all p (escaped byte) ≡ true
escaped_passes p fits h byte fit =
    elim (cases_Bool (is_plain byte)) [
      | inl plain ↦ rw plain (and_true (p byte) true
          (h.printed byte (both (is_printable byte) (not (eqb byte 37)) plain).0) refl)
      | inr other ↦ rw other (and_true (p 37) (list_all p (hex_of byte)) (h.printed 37 refl)
          (h.hex byte fit))
    ]

-- the bytes of a key's text
pub key_passes : (p fits : ℕ → Bool) → Prints p fits → (kind : KeyKind) (key : List ℕ)
    → list_all fits key ≡ true → list_all p (key_text kind key) ≡ true
key_passes p fits h Integer key all = integer_passes p fits h key
key_passes p fits h Ip key all =
    join_passes p 46 (h.printed 46 refl) (map decimal key) (octets_pass p fits h key)
key_passes p fits h Ipv6 key all =
    join_passes p 58 (h.printed 58 refl) (groups key) (groups_pass p fits h key all)
key_passes p fits h (Str len) key all = flat_passes p fits escaped (escaped_passes p fits h) key all
key_passes p fits h (Binary len) key all = flat_passes p fits hex_of h.hex key all
