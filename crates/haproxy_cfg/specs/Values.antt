-- The values of a line's words.
use Rattle.std.specs.Prelude.{ℕ, ◌+◌, ◌*◌, ◌/◌, ◌&&◌, ◌||◌, min, max, if◌then◌else◌, nat_le}
use Rattle.std.specs.Prelude.{nat_lt, List, [], ◌∷◌, take, drop, slice_index_or}
use Rattle.std.specs.Prelude.{codes, Option, None, Some}
use Rattle.std.specs.Option.{option_and_then}
use Rattle.std.specs.Result.{result_ok}
use Rattle.std.specs.Str.{bytes_eq}
use Rattle.agg_types.specs.declared.limits.TheConstants.{LARGEST_SIZE, PERIOD_END}
use Rattle.line_words.specs.Numbers.{is_decimal, number_of}

-- the word behind the first one that is this keyword; empty where there is none
abbrev pub behind_word : List ℕ → List (List ℕ) → List ℕ
behind_word key [] = []
behind_word key (first ∷ rest) =
    if bytes_eq first key then slice_index_or rest 0 [] else behind_word key rest

-- where the digits that a word begins with end
abbrev pub digits_end : List ℕ → ℕ
digits_end [] = 0
digits_end (byte ∷ rest) = if is_decimal byte then digits_end rest + 1 else 0

-- the number that the first bytes of a word write
abbrev pub number_before : ℕ → List ℕ → Option ℕ
number_before end word = result_ok (number_of (take end word))

-- a number of rows that a table may have, as near to this one as can be
abbrev pub as_size : ℕ → ℕ
as_size rows = min (max rows 1) LARGEST_SIZE

-- room for twice the entries that a number with this unit says
abbrev pub scaled_size : ℕ → List ℕ → Option ℕ
scaled_size entries unit =
    if bytes_eq unit [] then Some (as_size (2 * entries))
    else if bytes_eq unit (codes "k") || bytes_eq unit (codes "K")
    then Some (as_size (2 * entries * 1024))
    else if bytes_eq unit (codes "m") || bytes_eq unit (codes "M")
    then Some (as_size (2 * entries * 1048576))
    else if bytes_eq unit (codes "g") || bytes_eq unit (codes "G")
    then Some (as_size (2 * entries * 1073741824))
    else None

-- room for twice the entries that a word says
unfoldable pub room_of : List ℕ → Option ℕ
room_of word =
    option_and_then (λ entries. scaled_size entries (drop (digits_end word) word))
    (number_before (digits_end word) word)

-- a period that a rate may have
abbrev pub as_period : ℕ → Option ℕ
as_period ms = if nat_le 1 ms && nat_lt ms PERIOD_END then Some ms else None

-- the period in ms that a number with this unit says; without a unit it is in ms
abbrev pub scaled_ms : ℕ → List ℕ → Option ℕ
scaled_ms count unit =
    if bytes_eq unit (codes "us") then as_period ((count + 999) / 1000)
    else if bytes_eq unit [] || bytes_eq unit (codes "ms") then as_period count
    else if bytes_eq unit (codes "s") then as_period (count * 1000)
    else if bytes_eq unit (codes "m") then as_period (count * 60000)
    else if bytes_eq unit (codes "h") then as_period (count * 3600000)
    else if bytes_eq unit (codes "d") then as_period (count * 86400000)
    else None

-- the period in ms that a word says
unfoldable pub ms_of : List ℕ → Option ℕ
ms_of word =
    option_and_then (λ count. scaled_ms count (drop (digits_end word) word))
    (number_before (digits_end word) word)
