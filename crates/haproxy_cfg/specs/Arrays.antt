-- Arrays in a `store` list, `gpc(n)` and `gpc_rate(n,p)`: their first two elements are columns.
use Rattle.std.specs.Prelude.{ℕ, ◌-◌, Bool, true, false, ◌&&◌, if◌then◌else◌, ◌==◌, nat_le, nat_lt}
use Rattle.std.specs.Prelude.{List, [], ◌∷◌, length, take, drop, slice_index, slice_index_or, codes}
use Rattle.std.specs.Prelude.{Option, None, Some}
use Rattle.std.specs.Option.{option_and_then, option_or}
use Rattle.std.specs.Result.{result_ok}
use Rattle.std.specs.Str.{bytes_eq}
use Rattle.agg_types.specs.Col.{is_rate}
use Rattle.agg_types.specs.declared.column.Col.{Col}
use Rattle.agg_types.specs.declared.column.Col.TheVariants.{Gpc0, Gpc0Rate, Gpc1, Gpc1Rate}
use Rattle.line_words.specs.Numbers.{number_of}
use Rattle.line_words.specs.Words.{parts}
use Rattle.haproxy_cfg.specs.Values.{ms_of}
use Rattle.haproxy_cfg.specs.declared.arrays.TheConstants.{MOST_ELEMENTS}

-- which element of an array a column is
abbrev pub element_for : Col → Option ℕ
element_for Gpc0 = Some 0
element_for Gpc0Rate = Some 0
element_for Gpc1 = Some 1
element_for Gpc1Rate = Some 1
element_for col = None

-- a number of elements that an array may have
abbrev pub if_elements : ℕ → Option ℕ
if_elements count = if nat_le 1 count && nat_le count MOST_ELEMENTS then Some count else None

-- the elements that a word says
abbrev pub elements_of : List ℕ → Option ℕ
elements_of word = option_and_then if_elements (result_ok (number_of word))

-- a parenthesis ends the word
abbrev pub is_closed : List ℕ → Bool
is_closed word = nat_le 1 (length word) && (slice_index word (length word - 1) == 41)

-- what stands before the last byte
abbrev pub but_last : List ℕ → List ℕ
but_last word = take (length word - 1) word

-- the elements before a closing parenthesis
abbrev pub closed_elements : List ℕ → Option ℕ
closed_elements rest = if is_closed rest then elements_of (but_last rest) else None

-- the period before a closing parenthesis
abbrev pub closed_period : List ℕ → Option ℕ
closed_period rest = if is_closed rest then ms_of (but_last rest) else None

-- how many elements an item says of an array: of rates the item ends at the comma
abbrev pub array_len : Bool → List ℕ → Option ℕ
array_len true item =
    if bytes_eq (take 9 item) (codes "gpc_rate(") then elements_of (drop 9 item) else None
array_len false item =
    if bytes_eq (take 4 item) (codes "gpc(") then closed_elements (drop 4 item) else None

-- the period of an array's elements, 0 where they are counts: of rates the next item has it
abbrev pub array_period : Bool → List ℕ → Option ℕ
array_period true next = closed_period next
array_period false next = Some 0

-- the period of a column that is this element of an array of so many, if it has it
abbrev pub element_period : Col → List ℕ → ℕ → ℕ → Option ℕ
element_period col next element count =
    if nat_lt element count then array_period (is_rate col) next else None

-- the period of a column whose element an item's array has
abbrev pub array_item : Col → List ℕ → List ℕ → Option ℕ
array_item col item next =
    option_and_then (λ element. option_and_then (element_period col next element)
    (array_len (is_rate col) item)) (element_for col)

-- the period of the first array among these items that has the column's element
abbrev pub in_arrays : Col → List (List ℕ) → Option ℕ
in_arrays col [] = None
in_arrays col (item ∷ items) =
    option_or (array_item col item (slice_index_or items 0 [])) (in_arrays col items)

-- the same of all lists that stand behind a `store`
abbrev pub array_behind : Col → List (List ℕ) → Option ℕ
array_behind col [] = None
array_behind col (first ∷ rest) =
    if bytes_eq first (codes "store")
    then option_or (in_arrays col (parts 44 (slice_index_or rest 0 []))) (array_behind col rest)
    else array_behind col rest
