-- Words of decimal digits, and the bound on their value.
use Rattle.std.proofs.Common.{◌≡◌, ℕ, ◌+◌, ◌*◌, ◌-◌, ◌^◌, ◌<◌, ◌≤◌, true, List, [], ◌∷◌, length}
use Rattle.std.proofs.Common.{get_or, take, length-take, refl, arith}
use Rattle.std.specs.Char.{digit_value}
use Rattle.std.specs.List.{list_all}
use Rattle.std.specs.Str.Parse.{AllDigits, digits_value}
use Rattle.std.proofs.Math.Nat.{pow-le-pow_right}
use Rattle.std.proofs.lemmas.Int.Digits.{digits_more, digits_value_more, digits_value-lt}
use Rattle.std.proofs.lemmas.Str.Parse.{digit_at}
use Rattle.std.proofs.lemmas.Bool.{and_parts, leb-true}
use Rattle.line_words.specs.Numbers.{is_decimal}

-- a decimal digit's value, as its byte says
pub digit_value-decimal : (byte : ℕ) → 48 ≤ byte → byte ≤ 57 → digit_value byte ≡ byte - 48
digit_value-decimal byte low high = grind (arith)

pub digits-from_list_all : (word : List ℕ) → list_all is_decimal word ≡ true → AllDigits 10 word
digits-from_list_all [] h = tt
digits-from_list_all (byte ∷ word) h =
    let p = and_parts (is_decimal byte) (list_all is_decimal word) h in
    let q = and_parts _ _ p.0 in
    let low : 48 ≤ byte = leb-true 48 byte q.0 in
    let high : byte ≤ 57 = leb-true byte 57 q.1 in
    ((rw (digit_value-decimal byte low high) (omega arith)), digits-from_list_all word p.1)

-- the digits up to one more, and their value
pub digits_step : (word : List ℕ) (i : ℕ) → list_all is_decimal word ≡ true → i < length word
    → AllDigits 10 (take i word) → AllDigits 10 (take (i + 1) word)
    × (digits_value 10 (take (i + 1) word) ≡ digits_value 10 (take i word) * 10 +
    (get_or word i 0 - 48))
digits_step word i all h digits =
    let range = digit_at word i (digits-from_list_all word all) h in
    let value : digit_value (get_or word i 0) ≡ get_or word i 0 - 48 =
    digit_value-decimal (get_or word i 0) range.0 range.1 in (
      digits_more 10 word i h digits (rw value (omega (arith, range.0, range.1))),
      rw (digits_value_more 10 word i h, value) refl,
    )

-- fewer than 20 digits leave room for one more
pub digits_value-short : (word : List ℕ) (i : ℕ) → i < 20 → AllDigits 10 (take i word)
    → digits_value 10 (take i word) < 10 ^ 19
digits_value-short word i short digits =
    let below = digits_value-lt 10 (take i word) digits in
    let len : length (take i word) ≤ 19 = omega (arith, length-take i word) in
    omega (arith, below, pow-le-pow_right {n = 10} (omega arith) len)
