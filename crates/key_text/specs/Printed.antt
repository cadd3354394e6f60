-- The texts that keys are printed as.
use Rattle.std.specs.Prelude.{ℕ, ◌-◌, ◌/◌, ◌%◌, ◌^◌, Bool, ◌&&◌, not, if◌then◌else◌, ◌==◌, nat_lt}
use Rattle.std.specs.Prelude.{List, [], ◌∷◌, ◌++◌, map, slice_index}
use Rattle.std.specs.Fmt.{decimal}
use Rattle.std.specs.Int.{w32, from_be_bytes}
use Rattle.std.specs.List.{flat_map, join_with_byte}
use Rattle.agg_types.specs.Name.{is_printable}
use Rattle.agg_types.specs.declared.config.KeyKind.{KeyKind}
use Rattle.agg_types.specs.declared.config.KeyKind.TheVariants.{Integer, Ip, Ipv6, Str, Binary}
use Rattle.hex.specs.Hex.{lower_digits}

-- a byte as two hexadecimal digits
abbrev pub hex_of : ℕ → List ℕ
hex_of byte = slice_index lower_digits (byte / 16) ∷ slice_index lower_digits (byte % 16) ∷ []

-- whether a byte of a string stands for itself: it prints, and is no space and no `%`
abbrev pub is_plain : ℕ → Bool
is_plain byte = is_printable byte && not (byte == 37)

-- a byte of a string: itself, or `%` and its two digits
abbrev pub escaped : ℕ → List ℕ
escaped byte = if is_plain byte then byte ∷ [] else 37 ∷ hex_of byte

-- 32 bits as a signed number
abbrev pub signed_text : ℕ → List ℕ
signed_text n = if nat_lt n (2 ^ 31) then decimal n else 45 ∷ decimal (2 ^ 32 - n)

-- four bytes, the highest first, as a signed number
abbrev pub integer_text : List ℕ → List ℕ
integer_text (a ∷ b ∷ c ∷ d ∷ []) = signed_text (from_be_bytes w32 (a ∷ b ∷ c ∷ d ∷ []))
integer_text _ = []

-- bytes in groups of two, each as four hexadecimal digits
abbrev pub groups : List ℕ → List (List ℕ)
groups (high ∷ low ∷ rest) = (hex_of high ++ hex_of low) ∷ groups rest
groups (last ∷ []) = hex_of last ∷ []
groups [] = []

-- the text of a key: a signed number; bytes joined by dots; groups joined by colons; the bytes of a
-- string, escaped; hexadecimal digits
abbrev pub key_text : KeyKind → List ℕ → List ℕ
key_text Integer key = integer_text key
key_text Ip key = join_with_byte 46 (map decimal key)
key_text Ipv6 key = join_with_byte 58 (groups key)
key_text (Str len) key = flat_map escaped key
key_text (Binary len) key = flat_map hex_of key
