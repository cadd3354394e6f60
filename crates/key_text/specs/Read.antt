-- The keys that texts are read as.
use Rattle.std.specs.Prelude.{ℕ, ◌+◌, ◌-◌, ◌*◌, ◌%◌, ◌^◌, ◌&&◌, if◌then◌else◌, ◌==◌, nat_le, List}
use Rattle.std.specs.Prelude.{[], ◌∷◌, ◌++◌, length, take, drop, replicate, Option, None, Some}
use Rattle.std.specs.Char.{is_digit}
use Rattle.std.specs.Int.{w16, w32, to_be_bytes}
use Rattle.std.specs.List.{list_all}
use Rattle.std.specs.Option.{option_map, option_and_then, option_or}
use Rattle.std.specs.Result.{result_ok}
use Rattle.std.specs.Str.Parse.{digits_value}
use Rattle.agg_types.specs.Fits.{key_fits}
use Rattle.agg_types.specs.declared.config.KeyKind.{KeyKind}
use Rattle.agg_types.specs.declared.config.KeyKind.TheVariants.{Integer, Ip, Ipv6, Str, Binary}
use Rattle.hex.specs.Hex.{decode_of, hex_digit_value}
use Rattle.line_words.specs.Words.{parts}
use Rattle.key_text.specs.Printed.{is_plain}
use Rattle.key_text.specs.declared.parts.Part.{Part}
use Rattle.key_text.specs.declared.parts.Part.TheVariants.{Octet, Group}

-- the number that one or more digits of a base write, up to a greatest one
unfoldable pub number_up_to : ℕ → ℕ → List ℕ → Option ℕ
number_up_to radix most text =
    if nat_le 1 (length text) && list_all (λ c. is_digit c radix) text
    && nat_le (digits_value radix text) most
    then Some (digits_value radix text)
    else None

-- 32 bits as a number: digits up to the greatest of 32 bits, or `-` and digits, for a negative one
abbrev pub integer_of : List ℕ → Option ℕ
integer_of [] = None
integer_of (first ∷ rest) =
    if first == 45
    then option_map (λ n. (2 ^ 32 - n) % 2 ^ 32) (number_up_to 10 (2 ^ 31) rest)
    else number_up_to 10 (2 ^ 32 - 1) (first ∷ rest)

-- a byte of an IPv4 address: a number of 1 to 3 decimal digits, up to 255
abbrev pub octet : List ℕ → Option ℕ
octet text = if nat_le (length text) 3 then number_up_to 10 255 text else None

-- two bytes of an IPv6 address: a number of 1 to 4 hexadecimal digits
abbrev pub group : List ℕ → Option ℕ
group text = if nat_le (length text) 4 then number_up_to 16 65535 text else None

-- the bytes of a part
abbrev pub part_bytes : Part → List ℕ → Option (List ℕ)
part_bytes Octet text = option_map (λ n. n ∷ []) (octet text)
part_bytes Group text = option_map (to_be_bytes w16) (group text)

-- the byte between parts
abbrev pub between : Part → ℕ
between Octet = 46
between Group = 58

-- both lists, joined
abbrev pub joined : Option (List ℕ) → Option (List ℕ) → Option (List ℕ)
joined None back = None
joined (Some front) None = None
joined (Some front) (Some back) = Some (front ++ back)

-- the bytes of all parts, if each has some
abbrev pub all_bytes : Part → List (List ℕ) → Option (List ℕ)
all_bytes part [] = Some []
all_bytes part (text ∷ texts) = joined (part_bytes part text) (all_bytes part texts)

-- a key that its kind allows
abbrev pub if_fits : KeyKind → Option (List ℕ) → Option (List ℕ)
if_fits kind None = None
if_fits kind (Some key) = if key_fits kind key then Some key else None

-- the bytes of an IPv4 address, which has four parts
abbrev pub octets_of : List ℕ → Option (List ℕ)
octets_of text = if_fits Ip (all_bytes Octet (parts 46 text))

-- the bytes of groups, the last of which may be an IPv4 address in the place of two
abbrev pub groups_of : List (List ℕ) → Option (List ℕ)
groups_of [] = Some []
groups_of (text ∷ []) = option_or (part_bytes Group text) (octets_of text)
groups_of (text ∷ texts) = joined (part_bytes Group text) (groups_of texts)

-- where the first `::` of a text stands
abbrev pub elision : List ℕ → Option ℕ
elision (a ∷ b ∷ rest) =
    if a == 58 && b == 58 then Some 0 else option_map (λ at. at + 1) (elision (b ∷ rest))
elision _ = None

-- the bytes of what stands before `::`: groups, or nothing
abbrev pub front_bytes : List ℕ → Option (List ℕ)
front_bytes [] = Some []
front_bytes (byte ∷ rest) = all_bytes Group (parts 58 (byte ∷ rest))

-- the bytes of what stands behind `::`: groups, or nothing
abbrev pub back_bytes : List ℕ → Option (List ℕ)
back_bytes [] = Some []
back_bytes (byte ∷ rest) = groups_of (parts 58 (byte ∷ rest))

-- the 16 bytes of an IPv6 address, with zeros in the middle for one or more groups
abbrev pub with_zeros : Option (List ℕ) → Option (List ℕ) → Option (List ℕ)
with_zeros None back = None
with_zeros (Some front) None = None
with_zeros (Some front) (Some back) =
    if nat_le (length front + length back) 14
    then Some (front ++ replicate (16 - (length front + length back)) 0 ++ back)
    else None

-- the bytes of an IPv6 address with `::` at a place, or without
abbrev pub elided_at : List ℕ → Option ℕ → Option (List ℕ)
elided_at text None = groups_of (parts 58 text)
elided_at text (Some at) = with_zeros (front_bytes (take at text)) (back_bytes (drop (at + 2) text))

-- the bytes of an IPv6 address (RFC 4291, 2.2): groups of hexadecimal digits, of which an IPv4
-- address may stand in the place of the last two. At most one `::` stands for one or more groups of
-- zeros
unfoldable pub ipv6_of : List ℕ → Option (List ℕ)
ipv6_of text = elided_at text (elision text)

-- bytes behind others, if there are any
abbrev pub put_behind : List ℕ → Option (List ℕ) → Option (List ℕ)
put_behind old None = None
put_behind old (Some bytes) = Some (old ++ bytes)

-- a byte before others, if there are both
abbrev pub before : Option ℕ → Option (List ℕ) → Option (List ℕ)
before None rest = None
before (Some byte) None = None
before (Some byte) (Some rest) = Some (byte ∷ rest)

-- a byte that stands for itself
abbrev pub plain_byte : ℕ → Option ℕ
plain_byte byte = if is_plain byte then Some byte else None

-- the byte of two hexadecimal digits
abbrev pub hex_byte : ℕ → ℕ → Option ℕ
hex_byte high low = option_and_then (λ h. option_map (λ l. h * 16 + l) (hex_digit_value low))
    (hex_digit_value high)

-- the bytes of a string: each plain, or `%` and two hexadecimal digits
abbrev pub string_of : List ℕ → Option (List ℕ)
string_of [] = Some []
string_of (a ∷ []) = before (plain_byte a) (Some [])
string_of (a ∷ b ∷ []) = before (plain_byte a) (string_of (b ∷ []))
string_of (a ∷ b ∷ c ∷ rest) =
    if a == 37 then before (hex_byte b c) (string_of rest)
    else before (plain_byte a) (string_of (b ∷ c ∷ rest))

-- the bytes that a text says, by the kind of keys
abbrev pub bytes_of : KeyKind → List ℕ → Option (List ℕ)
bytes_of Integer text = option_map (to_be_bytes w32) (integer_of text)
bytes_of Ip text = all_bytes Octet (parts 46 text)
bytes_of Ipv6 text = ipv6_of text
bytes_of (Str len) text = string_of text
bytes_of (Binary len) text = result_ok (decode_of text)

-- the key that a text is read as: the bytes that it says, as many as the kind of keys allows
abbrev pub key_of : KeyKind → List ℕ → Option (List ℕ)
key_of kind text = if_fits kind (bytes_of kind text)
