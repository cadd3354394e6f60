use Rattle.std.specs.Prelude.{ℕ, ◌^◌, Bool, ◌&&◌, not, ◌||◌, if◌then◌else◌, ◌==◌, nat_le, nat_lt}
use Rattle.std.specs.Prelude.{List, length, Result, Ok, Err}
use Rattle.std.specs.List.{list_all}
use Rattle.std.specs.Str.Parse.{digits_value}
use Rattle.line_words.specs.declared.numbers.NumberFault.{NumberFault}
use Rattle.line_words.specs.declared.numbers.NumberFault.TheVariants.{NotDigits, TooLong, TooLarge}

-- whether a byte is one of 0 to 9
abbrev pub is_decimal : ℕ → Bool
is_decimal byte = nat_le 48 byte && nat_le byte 57

-- the number that a word writes: 1 to 20 decimal digits, up to 2^64 - 1
unfoldable pub number_of : List ℕ → Result ℕ NumberFault
number_of word =
    if (length word == 0) || not (list_all is_decimal word) then Err NotDigits
    else if nat_lt 20 (length word) then Err TooLong
    else if nat_lt (digits_value 10 word) (2 ^ 64) then Ok (digits_value 10 word)
    else Err TooLarge
