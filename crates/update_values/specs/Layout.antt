-- What a definition says of the values of its table's updates, and where a column is among them.
use Rattle.std.specs.Prelude.{ℕ, suc, ◌-◌, ◌*◌, ◌/◌, ◌%◌, ◌^◌, Bool, true, false, nat_lt, nat_le}
use Rattle.std.specs.Prelude.{not, ◌==◌, ◌&&◌, if◌then◌else◌, List, [], ◌∷◌, min, max, replicate}
use Rattle.std.specs.Prelude.{slice_get, slice_set, unwrap_or, Option, Some, None}
use Rattle.std.specs.List.{list_any}
use Rattle.std.specs.Option.{option_map_or}
use Rattle.agg_types.specs.Col.{all_cols, col_id, is_rate}
use Rattle.agg_types.specs.declared.column.Col.{Col}
use Rattle.agg_types.specs.declared.column.Col.TheVariants.{Gpc0, Gpc0Rate, Gpc1, Gpc1Rate}
use Rattle.agg_types.specs.declared.column.TheConstants.{LAST_BASIC_TYPE, LAST_TYPE}
use Rattle.peers_msg.specs.Payload.{◌>>=◌, is_array}
use Rattle.peers_msg.specs.declared.data_types.TheConstants.{SERVER_KEY, GPT_ARRAY, GPC_ARRAY}
use Rattle.peers_msg.specs.declared.data_types.TheConstants.{GPC_RATE_ARRAY}
use Rattle.peers_msg.specs.declared.message.ArrayParameter.{ArrayParameter}
use Rattle.peers_msg.specs.declared.message.Definition.{Definition}
use Rattle.update_values.specs.declared.layout.Layout.{Layout}
use Rattle.update_values.specs.declared.layout.Place.{Place}
use Rattle.update_values.specs.declared.layout.TheConstants.{MOST_ELEMENTS}

-- how many data types are known: those from 0 on
abbrev pub types : ℕ
types = suc LAST_TYPE

-- how many are read in any case
abbrev pub basic_types : ℕ
basic_types = suc LAST_BASIC_TYPE

-- the period of each data type, 0 where none is given; the last pair of an id holds
abbrev pub periods_after : List ℕ → List (ℕ × ℕ) → List ℕ
periods_after periods [] = periods
periods_after periods (pair ∷ pairs) = periods_after (slice_set periods pair.0 pair.1) pairs

-- and that of each array; the last one of an id holds
abbrev pub array_periods_after : List ℕ → List ArrayParameter → List ℕ
array_periods_after periods [] = periods
array_periods_after periods (array ∷ arrays) =
    array_periods_after (slice_set periods array.id (unwrap_or array.period 0)) arrays

-- how many elements each array has, from the first data type of arrays on, 0 where it isn't said
abbrev pub counts_after : List ℕ → List ArrayParameter → List ℕ
counts_after counts [] = counts
counts_after counts (array ∷ arrays) =
    counts_after
    (if is_array array.id then slice_set counts (array.id - GPT_ARRAY) array.count else counts)
    arrays

unfoldable pub periods_of : Definition → List ℕ
periods_of d = array_periods_after (periods_after (replicate types 0) d.periods) d.arrays

unfoldable pub counts_of : Definition → List ℕ
counts_of d = counts_after (0 ∷ 0 ∷ 0 ∷ []) d.arrays

abbrev pub layout_of : Definition → Layout
layout_of d = record { bits = d.bits; periods = periods_of d; counts = counts_of d }

-- whether a data type is among these bits
abbrev pub has_type : ℕ → ℕ → Bool
has_type bits kind = bits / 2 ^ kind % 2 == 1

-- whether a data type is a column's that is a rate
abbrev pub is_rate_type : ℕ → Bool
is_rate_type kind = list_any (λ col. is_rate col && (col_id col == kind)) all_cols

abbrev pub period_of : Layout → ℕ → ℕ
period_of layout kind = unwrap_or (slice_get layout.periods kind) 0

-- how many elements an array has
abbrev pub count_of : Layout → ℕ → ℕ
count_of layout kind = unwrap_or (slice_get layout.counts (kind - GPT_ARRAY)) 0

-- how many numbers the value of a data type is; of an array no more elements are read than it may
-- have. A server's name is no number
abbrev pub value_width : Layout → ℕ → ℕ
value_width layout kind =
    if kind == SERVER_KEY then 0
    else (if is_array kind
    then (if kind == GPC_RATE_ARRAY then 3 else 1) * min (count_of layout kind) MOST_ELEMENTS
    else (if is_rate_type kind then 3 else 1))

-- how many numbers an update has of a data type
abbrev pub width_of : Layout → ℕ → ℕ
width_of layout kind = if has_type layout.bits kind then value_width layout kind else 0

-- ---- where a column is

-- the element of an array that stands in a column's place: the array's data type, and which one
abbrev pub element_for : Col → Option Place
element_for Gpc0 = Some (record { kind = GPC_ARRAY; element = 0 })
element_for Gpc1 = Some (record { kind = GPC_ARRAY; element = 1 })
element_for Gpc0Rate = Some (record { kind = GPC_RATE_ARRAY; element = 0 })
element_for Gpc1Rate = Some (record { kind = GPC_RATE_ARRAY; element = 1 })
element_for col = None

-- an element, if the definition has its array with so many
abbrev pub if_element : Layout → Option Place → Option Place
if_element layout None = None
if_element layout (Some place) =
    if has_type layout.bits place.kind && nat_lt place.element (count_of layout place.kind)
    then Some place else None

-- where a definition has a column: its own data type, or else an array's, and there the element
abbrev pub place_of : Layout → Col → Option Place
place_of layout col =
    if has_type layout.bits (col_id col) then Some (record { kind = col_id col; element = 0 })
    else if_element layout (element_for col)

-- whether a data type has a column's period; counts have none
abbrev pub has_period : Layout → ℕ → Col × ℕ → Bool
has_period layout kind col = if is_rate col.0 then period_of layout kind == col.1 else true

-- where the value of a column is, if it becomes a cell
abbrev pub cell_place : Layout → Col × ℕ → Option Place
cell_place layout col = do
  place ← place_of layout col.0
  if has_period layout place.kind col then Some place else None

-- ---- which data types are read

-- whether reading ends at an array: how many elements it has isn't said, or is too much
abbrev pub ends_at : Layout → ℕ → Bool
ends_at layout kind =
    has_type layout.bits kind
    && not (nat_le 1 (count_of layout kind) && nat_le (count_of layout kind) MOST_ELEMENTS)

-- how many data types can be read: those before the first such array
abbrev pub readable : Layout → ℕ
readable layout =
    if ends_at layout GPT_ARRAY then GPT_ARRAY
    else (if ends_at layout GPC_ARRAY then GPC_ARRAY
    else (if ends_at layout GPC_RATE_ARRAY then GPC_RATE_ARRAY else types))

-- how many data types a column needs: those up to its own
abbrev pub needed : Layout → Col × ℕ → ℕ
needed layout col = option_map_or (λ place. suc place.kind) (cell_place layout col) 0

abbrev pub needed_by : Layout → List (Col × ℕ) → ℕ
needed_by layout [] = basic_types
needed_by layout (col ∷ cols) = max (needed layout col) (needed_by layout cols)

-- how many data types are read of a table's updates: up to the last one that a column needs, and
-- as far as reading goes
abbrev pub types_read : Layout → List (Col × ℕ) → ℕ
types_read layout cols = min (readable layout) (needed_by layout cols)
