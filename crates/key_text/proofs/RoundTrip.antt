-- What is printed of a key is read as the key.
use Rattle.std.proofs.Common.{◌≡◌, ℕ, zero, suc, ◌+◌, ◌*◌, ◌-◌, ◌/◌, ◌%◌, ◌^◌, ◌<◌, ◌≤◌, Bool, true}
use Rattle.std.proofs.Common.{false, eqb, leb, ltb, ◌&&◌, List, [], ◌∷◌, ◌++◌, length, map}
use Rattle.std.proofs.Common.{slice_index, Some, refl, ap, ◌∙◌, arith, inl, inr, lit<}
use Rattle.std.proofs.lemmas.Bool.{and_parts, cases_Bool, cases_lt, eqb-true}
use Rattle.std.proofs.lemmas.Bool.Decides.{nat_tests}
use Rattle.std.proofs.lemmas.Grind.{common_steps}
use Rattle.std.proofs.lemmas.Fmt.{decimal_is_IsNumeral, length-decimal-le}
use Rattle.std.proofs.lemmas.Nat.{be_bytes_2, be_bytes_4}
use Rattle.std.proofs.lemmas.Str.Parse.{digit_from_value}
use Rattle.std.specs.Char.{digit_value, is_digit}
use Rattle.std.specs.Fmt.{decimal}
use Rattle.std.specs.Int.{w32, to_be_bytes, from_be_bytes}
use Rattle.std.specs.List.{list_all, flat_map, join_with_byte}
use Rattle.std.specs.Option.{option_map}
use Rattle.std.specs.Result.{result_ok}
use Rattle.std.specs.Str.Parse.{AllDigits, digits_value}
use Rattle.hex.specs.Hex.{IsBytes, decode_of, encode_lower, encode_with, lower_digits}
use Rattle.hex.proofs.HexLemmas.{IsDigits-lower_digits, decode_of-encode_lower}
use Rattle.line_words.specs.Words.{parts}
use Rattle.line_words.proofs.WordsBack.{differs, parts-join}
use Rattle.key_text.specs.declared.parts.Part.TheVariants.{Octet, Group}
use Rattle.key_text.specs.Elided.{is_part}
use Rattle.key_text.specs.Printed.{escaped, groups, hex_of, integer_text, is_plain, signed_text}
use Rattle.key_text.specs.Read.{all_bytes, before, hex_byte, integer_of, number_up_to, octet}
use Rattle.key_text.specs.Read.{part_bytes, string_of}

-- ---- numbers

all_digits : (radix : ℕ) (ds : List ℕ) → AllDigits radix ds
    → list_all (λ c. is_digit c radix) ds ≡ true
all_digits radix [] h = refl
all_digits radix (c ∷ cs) h =
    let digit : is_digit c radix ≡ true = grind (arith, nat_tests) in
    rw digit (all_digits radix cs h.1)

no_dots : (ds : List ℕ) → AllDigits 10 ds → list_all (differs 46) ds ≡ true
no_dots [] h = refl
no_dots (c ∷ cs) h =
    let range = digit_from_value c h.0 in
    let other : eqb c 46 ≡ false = grind (arith, nat_tests) in
    rw other (no_dots cs h.1)

-- a number's digits are read as the number
pub number_up_to-decimal : (most n : ℕ) → n ≤ most → n < 2 ^ 64
    → number_up_to 10 most (decimal n) ≡ Some n
unfolding number_up_to
number_up_to-decimal most n within fits =
    let h = decimal_is_IsNumeral n fits in
    let some : leb 1 (length (decimal n)) ≡ true = grind (arith, nat_tests) in
    let small : leb n most ≡ true = grind (arith, nat_tests) in
    rw (some, all_digits 10 (decimal n) h.0.1, h.1, small) refl

-- ---- integers

-- digits don't begin with a minus
plain_number : (text : List ℕ) (n : ℕ) → 0 < length text → AllDigits 10 text
    → number_up_to 10 (2 ^ 32 - 1) text ≡ Some n → integer_of text ≡ Some n
plain_number [] n some digits h = absurd (omega arith)
plain_number (c ∷ cs) n some digits h =
    let range = digit_from_value c digits.0 in
    let other : eqb c 45 ≡ false = grind (arith, nat_tests) in
    rw other h

-- a signed number's text is read as its 32 bits
integer_of-signed : (n : ℕ) → n < 2 ^ 32 → integer_of (signed_text n) ≡ Some n
integer_of-signed n fits =
    elim (cases_lt n (2 ^ 31)) [
      | inl low ↦
          let small : ltb n (2 ^ 31) ≡ true = grind (arith, nat_tests) in
          let h = decimal_is_IsNumeral n (omega arith) in
          rw small (plain_number (decimal n) n h.0.0 h.0.1
          (number_up_to-decimal (2 ^ 32 - 1) n (omega arith) (omega arith)))
      | inr high ↦
          let large : ltb n (2 ^ 31) ≡ false = grind (arith, nat_tests) in
          let back : (2 ^ 32 - (2 ^ 32 - n)) % 2 ^ 32 ≡ n = omega arith in
          rw (large, number_up_to-decimal (2 ^ 31) (2 ^ 32 - n) (omega arith) (omega arith))
          (ap Some back)
    ]

-- four bytes are read back
pub integer_back : (key : List ℕ) → IsBytes key → length key ≡ 4
    → option_map (to_be_bytes w32) (integer_of (integer_text key)) ≡ Some key
integer_back [] bytes four = absurd (omega arith)
integer_back (a ∷ []) bytes four = absurd (omega arith)
integer_back (a ∷ b ∷ []) bytes four = absurd (omega arith)
integer_back (a ∷ b ∷ c ∷ []) bytes four = absurd (omega arith)
integer_back (a ∷ b ∷ c ∷ d ∷ e ∷ rest) bytes four = absurd (omega arith)
integer_back (a ∷ b ∷ c ∷ d ∷ []) bytes four =
    let n = from_be_bytes w32 (a ∷ b ∷ c ∷ d ∷ []) in
    let h0 : a < 256 = bytes 0 in
    let h1 : b < 256 = bytes 1 in
    let h2 : c < 256 = bytes 2 in
    let h3 : d < 256 = bytes 3 in
    let fits : n < 2 ^ 32 = omega arith in
    rw (integer_of-signed n fits) (ap Some (be_bytes_4 (a ∷ b ∷ c ∷ d ∷ []) n refl bytes refl))

-- ---- addresses

octet_back : (n : ℕ) → n < 256 → octet (decimal n) ≡ Some n
octet_back n fits =
    let short : leb (length (decimal n)) 3 ≡ true =
    grind (arith, nat_tests, length-decimal-le 3 n (omega arith) (omega arith) (omega arith)) in
    rw short (number_up_to-decimal 255 n (omega arith) (omega arith))

octets_read : (key : List ℕ) → IsBytes key → all_bytes Octet (map decimal key) ≡ Some key
octets_read [] bytes = refl
octets_read (b ∷ key) bytes = rw (octet_back b (bytes 0), octets_read key (λ i. bytes (suc i))) refl

octets_free : (key : List ℕ) → IsBytes key
    → list_all (list_all (differs 46)) (map decimal key) ≡ true
octets_free [] bytes = refl
octets_free (b ∷ key) bytes =
    let fits : b < 256 = bytes 0 in
    let h = decimal_is_IsNumeral b (omega arith) in
    rw (no_dots (decimal b) h.0.1, octets_free key (λ i. bytes (suc i))) refl

-- bytes joined by dots are read back
pub octets_back : (key : List ℕ) → IsBytes key → 0 < length key
    → all_bytes Octet (parts 46 (join_with_byte 46 (map decimal key))) ≡ Some key
octets_back [] bytes some = absurd (omega arith)
octets_back (b ∷ key) bytes some =
    rw (parts-join 46 (decimal b) (map decimal key) (octets_free (b ∷ key) bytes))
    (octets_read (b ∷ key) bytes)

-- ---- hexadecimal digits

-- the test of one digit, which computes
abbrev is_glyph : ℕ → Bool
is_glyph d = eqb (digit_value (slice_index lower_digits d)) d
    && differs 58 (slice_index lower_digits d)

abbrev are_glyphs : ℕ → Bool
are_glyphs zero = true
are_glyphs (suc n) = is_glyph n && are_glyphs n

glyph_at : (n d : ℕ) → are_glyphs n ≡ true → d < n → is_glyph d ≡ true
glyph_at zero d h lt = absurd (omega arith)
glyph_at (suc n) d h lt =
    let h2 = and_parts (is_glyph n) (are_glyphs n) h in
    elim (cases_lt d n) [
      | inl below ↦ glyph_at n d h2.1 below
      | inr top ↦
          let e : d ≡ n = omega arith in
          rw e h2.0
    ]

-- a digit's value, and that it is no colon
glyph : (d : ℕ) → d < 16 → (digit_value (slice_index lower_digits d) ≡ d)
    × (differs 58 (slice_index lower_digits d) ≡ true)
glyph d lt =
    let h = and_parts (eqb (digit_value (slice_index lower_digits d)) d)
    (differs 58 (slice_index lower_digits d)) (glyph_at 16 d refl lt) in
    (eqb-true (digit_value (slice_index lower_digits d)) d h.0, h.1)

-- the number of four digits
four_digits : (a b c d : ℕ) → a < 16 → b < 16 → c < 16 → d < 16
    → AllDigits 16 (slice_index lower_digits a ∷ slice_index lower_digits b ∷ slice_index
    lower_digits c ∷ slice_index lower_digits d ∷ [])
    × (digits_value 16 (slice_index lower_digits a ∷ slice_index lower_digits b ∷ slice_index
    lower_digits c ∷ slice_index lower_digits d ∷ []) ≡ ((a * 16 + b) * 16 + c) * 16 + d)
four_digits a b c d ha hb hc hd =
    let ga = (glyph a ha).0 in
    let gb = (glyph b hb).0 in
    let gc = (glyph c hc).0 in
    let gd = (glyph d hd).0 in (
      (omega arith, (omega arith, (omega arith, (omega arith, tt)))),
      rw (ga, gb, gc, gd) (omega arith),
    )

two_bytes : (high low : ℕ) → high < 256 → low < 256 → IsBytes (high ∷ low ∷ [])
two_bytes high low hh hl zero = hh
two_bytes high low hh hl (suc zero) = hl
two_bytes high low hh hl (suc (suc i)) = lit< tt

group_read : (high low : ℕ) → high < 256 → low < 256 → part_bytes Group (hex_of high ++ hex_of low)
    ≡ Some (high ∷ low ∷ [])
unfolding number_up_to
group_read high low hh hl =
    let h = four_digits (high / 16) (high % 16) (low / 16) (low % 16) (omega arith) (omega arith)
    (omega arith) (omega arith) in
    let value : ((high / 16 * 16 + high % 16) * 16 + low / 16) * 16 + low % 16 ≡ high * 256 + low =
    omega arith in
    let small : leb (high * 256 + low) 65535 ≡ true = grind (arith, nat_tests) in
    let text = hex_of high ++ hex_of low in
    rw (all_digits 16 text h.0, h.1 ∙ value, small)
    (ap Some (be_bytes_2 (high ∷ low ∷ []) (high * 256 + low) refl (two_bytes high low hh hl)
    (omega arith)))

-- groups are read as their bytes
pub groups_read : (key : List ℕ) (k : ℕ) → IsBytes key → length key ≡ 2 * k
    → all_bytes Group (groups key) ≡ Some key
groups_read [] k bytes even = refl
groups_read (high ∷ []) k bytes even = absurd (omega arith)
groups_read (high ∷ low ∷ key) k bytes even =
    rw (
      group_read high low (bytes 0) (bytes 1),
      groups_read key (k - 1) (λ i. bytes (suc (suc i)))
          (omega arith),
    ) refl

digits_free : (byte : ℕ) → byte < 256 → list_all (differs 58) (hex_of byte) ≡ true
digits_free byte fits = rw (
  (glyph (byte / 16) (omega arith)).1,
  (glyph (byte % 16) (omega arith)).1,
) refl

all_append : (p : ℕ → Bool) (a b : List ℕ) → list_all p a ≡ true → list_all p b ≡ true
    → list_all p (a ++ b) ≡ true
all_append p a b ha hb = grind (arith, common_steps)

-- groups have digits, and no colon
pub groups_free : (key : List ℕ) → IsBytes key → list_all is_part (groups key) ≡ true
groups_free [] bytes = refl
groups_free (last ∷ []) bytes = rw (digits_free last (bytes 0)) refl
groups_free (high ∷ low ∷ key) bytes =
    rw (
      all_append (differs 58) (hex_of high) (hex_of low) (digits_free high (bytes 0))
          (digits_free low (bytes 1)),
      groups_free key (λ i. bytes (suc (suc i))),
    ) refl

-- ---- strings

hex_byte-of : (byte : ℕ) → byte < 256 → hex_byte (slice_index lower_digits (byte / 16))
    (slice_index lower_digits (byte % 16)) ≡ Some byte
hex_byte-of byte fits =
    let whole : byte / 16 * 16 + byte % 16 ≡ byte = omega arith in
    rw (
      IsDigits-lower_digits (byte / 16) (omega arith),
      IsDigits-lower_digits (byte % 16) (omega arith),
    ) (ap Some whole)

not_percent : (byte : ℕ) → is_plain byte ≡ true → eqb byte 37 ≡ false
not_percent byte plain =
    elim (cases_Bool (eqb byte 37)) [
      | inl same ↦ absurd (let bad : is_plain byte ≡ false = rw (eqb-true byte 37 same) refl in cc)
      | inr other ↦ other
    ]

plain_read : (byte : ℕ) (rest : List ℕ) → is_plain byte ≡ true
    → string_of (byte ∷ rest) ≡ before (Some byte) (string_of rest)
plain_read byte [] plain = rw plain refl
plain_read byte (b ∷ []) plain = rw plain refl
plain_read byte (b ∷ c ∷ rest) plain =
    let other : eqb byte 37 ≡ false = not_percent byte plain in
    rw (plain, other) refl

-- escaped bytes are read back
pub string_back : (key : List ℕ) → IsBytes key → string_of (flat_map escaped key) ≡ Some key
string_back [] bytes = refl
string_back (b ∷ key) bytes =
    let rest = string_back key (λ i. bytes (suc i)) in
    elim (cases_Bool (is_plain b)) [
      | inl plain ↦ rw (plain, plain_read b (flat_map escaped key) plain, rest) refl
      | inr other ↦ rw (other, hex_byte-of b (bytes 0), rest) refl
    ]

-- ---- binary keys

hex_of-encode : (key : List ℕ) → flat_map hex_of key ≡ encode_lower key
unfolding encode_with
hex_of-encode [] = refl
hex_of-encode (b ∷ key) = ap (λ rest. hex_of b ++ rest) (hex_of-encode key)

-- hexadecimal digits are read back
pub binary_back : (key : List ℕ) → IsBytes key
    → result_ok (decode_of (flat_map hex_of key)) ≡ Some key
binary_back key bytes = rw (hex_of-encode key, decode_of-encode_lower key bytes) refl
