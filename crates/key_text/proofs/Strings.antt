-- Strings, byte by byte.
use Rattle.std.proofs.Common.{◌≡◌, ℕ, ◌+◌, ◌*◌, List, [], ◌∷◌, ◌++◌, Option, Some, None, Result, Ok}
use Rattle.std.proofs.Common.{Err, refl, sym, ap, append_assoc, slice_index}
use Rattle.std.specs.Option.{option_map, option_and_then}
use Rattle.hex.specs.Hex.{decode_pairs, decode_sized, digit_or_error, hex_digit_value}
use Rattle.hex.specs.declared.error.FromHexError.{FromHexError}
use Rattle.key_text.specs.Read.{before, hex_byte, put_behind}

-- one byte more that is read
pub put_behind_push : (bytes : List ℕ) (byte : ℕ) (rest : Option (List ℕ))
    → put_behind bytes (before (Some byte) rest) ≡ put_behind (bytes ++ byte ∷ []) rest
put_behind_push bytes byte None = refl
put_behind_push bytes byte (Some rest) = ap Some (sym (append_assoc bytes (byte ∷ []) rest))

-- ---- hexadecimal digits

-- the first of the bytes that digits say
abbrev pub first_byte : Result (List ℕ) FromHexError → Option ℕ
first_byte (Ok bytes) = Some (slice_index bytes 0)
first_byte (Err fault) = None

digits_read : (high low : ℕ) (h l : Option ℕ) → hex_digit_value high ≡ h → hex_digit_value low ≡ l
    → first_byte (decode_sized (high ∷ low ∷ []) 1)
    ≡ option_and_then (λ h. option_map (λ l. h * 16 + l) l) h
unfolding decode_pairs
digits_read high low None l first second =
    let a = ap (digit_or_error high 0) first in
    rw a refl
digits_read high low (Some h) None first second =
    let a = ap (digit_or_error high 0) first in
    let b = ap (digit_or_error low (0 + 1)) second in
    rw (a, b) refl
digits_read high low (Some h) (Some l) first second =
    let a = ap (digit_or_error high 0) first in
    let b = ap (digit_or_error low (0 + 1)) second in
    rw (a, b) refl

-- two digits say one byte, or none
pub pair_read : (high low : ℕ)
    → first_byte (decode_sized (high ∷ low ∷ []) 1) ≡ hex_byte high low
pair_read high low =
    digits_read high low (hex_digit_value high) (hex_digit_value low) refl refl
