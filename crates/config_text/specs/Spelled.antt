-- Numbers with units, where digits alone are read: what they are here.
use Rattle.std.specs.Prelude.{ℕ, ◌+◌, ◌-◌, ◌*◌, ◌/◌, ◌^◌, Bool, true, false, ◌&&◌, ◌||◌, not}
use Rattle.std.specs.Prelude.{if◌then◌else◌, ◌==◌, min, nat_le, nat_lt, List, [], ◌∷◌, ◌++◌, length}
use Rattle.std.specs.Prelude.{slice_index_or, codes, is_some, Option, None, Some}
use Rattle.std.specs.Fmt.{decimal}
use Rattle.std.specs.List.{list_all}
use Rattle.std.specs.Str.{bytes_eq}
use Rattle.line_words.specs.Numbered.{word_at}
use Rattle.line_words.specs.Numbers.{is_decimal}
use Rattle.line_words.specs.Words.{parts}
use Rattle.line_words.specs.declared.misread.Expected.{Expected}
use Rattle.line_words.specs.declared.misread.Expected.TheVariants as expected
use Rattle.line_words.specs.declared.misread.Misread.{Misread}
use Rattle.config_text.specs.declared.spelled.TheConstants.{MOST_BYTES, MOST_FIGURE}

-- a digit, or what may stand between two
abbrev pub is_figure : ℕ → Bool
is_figure byte = is_decimal byte || (byte == 95)

-- a value with one more digit, up to MOST_FIGURE
abbrev pub behind : ℕ → ℕ → ℕ
behind value byte = if is_decimal byte then min (value * 10 + (byte - 48)) MOST_FIGURE else value

-- the value of the digits that a word begins with, behind others of this value
abbrev pub figure_from : ℕ → List ℕ → ℕ
figure_from value [] = value
figure_from value (byte ∷ rest) =
    if is_figure byte then figure_from (behind value byte) rest else value

-- what stands behind them
abbrev pub unit_of : List ℕ → List ℕ
unit_of [] = []
unit_of (byte ∷ rest) = if is_figure byte then unit_of rest else byte ∷ rest

-- a number that a word can write
abbrev pub if_number : ℕ → Option ℕ
if_number number = if nat_lt number (2 ^ 64) then Some number else None

-- so much of a unit of time in ms, a part of one as a whole one
abbrev pub scaled_time : ℕ → List ℕ → Option ℕ
scaled_time figure unit =
    if bytes_eq unit (codes "us") then if_number ((figure + 999) / 1000)
    else if bytes_eq unit [] || bytes_eq unit (codes "ms") then if_number figure
    else if bytes_eq unit (codes "s") then if_number (figure * 1000)
    else if bytes_eq unit (codes "m") then if_number (figure * 60000)
    else if bytes_eq unit (codes "h") then if_number (figure * 3600000)
    else if bytes_eq unit (codes "d") then if_number (figure * 86400000)
    else None

-- so many of a unit of sizes
abbrev pub scaled_size : ℕ → List ℕ → Option ℕ
scaled_size figure unit =
    if bytes_eq unit [] then if_number figure
    else if bytes_eq unit (codes "k") || bytes_eq unit (codes "K") then if_number (figure * 1024)
    else if bytes_eq unit (codes "m") || bytes_eq unit (codes "M")
    then if_number (figure * 1048576)
    else if bytes_eq unit (codes "g") || bytes_eq unit (codes "G")
    then if_number (figure * 1073741824)
    else None

abbrev pub scaled : Bool → ℕ → List ℕ → Option ℕ
scaled true figure unit = scaled_time figure unit
scaled false figure unit = scaled_size figure unit

-- whether a word begins with a digit
abbrev pub begins : List ℕ → Bool
begins [] = false
begins (byte ∷ rest) = is_decimal byte

-- whether a word is a digit and up to 19 bytes behind it, not all of them digits
abbrev pub has_unit : List ℕ → Bool
has_unit word =
    begins word && nat_le (length word) MOST_BYTES && not (list_all is_decimal word)

-- the number that a word with a unit is here: a time in ms, or a size
abbrev pub spelled : Bool → List ℕ → Option ℕ
spelled is_time word =
    if has_unit word then scaled is_time (figure_from 0 word) (unit_of word) else None

-- what stands in an item's parentheses
abbrev pub in_parens : List ℕ → List ℕ
in_parens item = slice_index_or (parts 41 (slice_index_or (parts 40 item) 1 [])) 0 []

-- the first of these items' periods that is a time with a unit, empty where there is none
abbrev pub period_in : List (List ℕ) → List ℕ
period_in [] = []
period_in (item ∷ items) =
    if is_some (spelled true (in_parens item)) then in_parens item else period_in items

-- that a word with a unit is this number here
abbrev pub told_as : List ℕ → Option ℕ → List ℕ
told_as word None = []
told_as word (Some number) =
    codes "; " ++ word ++ codes " is " ++ decimal number ++ codes " here"

-- whether times stand behind a word
abbrev pub are_times : List ℕ → Bool
are_times before = bytes_eq before (codes "keep") || bytes_eq before (codes "hold")

-- the same of the word, or of the first period of a list of columns
abbrev pub hint : List ℕ → List ℕ → List ℕ
hint before word =
    if bytes_eq before (codes "store")
    then told_as (period_in (parts 44 word)) (spelled true (period_in (parts 44 word)))
    else told_as word (spelled (are_times before) word)

-- whether a number had to stand there
abbrev pub wants_number : Expected → Bool
wants_number expected.Number = true
wants_number _ = false

-- what a number with a unit is here, where a number had to stand
abbrev pub number_hint : Misread → List (List ℕ) → List ℕ
number_hint misread words =
    if wants_number misread.expected && not misread.is_missing
    then hint (word_at (misread.word - 1) words) (word_at misread.word words) else []
