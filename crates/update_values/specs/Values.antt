-- The key and the values of an update, as they stand behind its id and its life.
use Rattle.std.specs.Prelude.{ℕ, zero, suc, ◌-◌, ◌*◌, ◌%◌, ◌^◌, Bool, true, false, nat_lt, nat_le}
use Rattle.std.specs.Prelude.{◌==◌, ◌&&◌, if◌then◌else◌, List, [], ◌∷◌, length, take, drop}
use Rattle.std.specs.Prelude.{map, slice_get, unwrap_or, Option, Some, None}
use Rattle.std.specs.Option.{option_map_or}
use Rattle.peers_msg.specs.Payload.{◌>>=◌, number_at, string_at}
use Rattle.peers_msg.specs.declared.data_types.TheConstants.{SERVER_KEY}
use Rattle.agg_types.specs.Col.{is_rate, is_wide}
use Rattle.agg_types.specs.Kind.{kind_length}
use Rattle.agg_types.specs.declared.column.Col.{Col}
use Rattle.agg_types.specs.declared.config.KeyKind.{KeyKind}
use Rattle.agg_types.specs.declared.kind.KeyLength.{KeyLength}
use Rattle.agg_types.specs.declared.kind.KeyLength.TheVariants.{Exactly, AtMost}
use Rattle.agg_types.specs.declared.event.Cell.{Cell}
use Rattle.agg_types.specs.declared.event.Cell.TheVariants as cells
use Rattle.update_values.specs.declared.layout.Layout.{Layout}
use Rattle.update_values.specs.declared.layout.Place.{Place}
use Rattle.update_values.specs.Layout.{cell_place, has_type, types_read, width_of}

-- so many bytes, and those after them
abbrev pub bytes_at : ℕ → List ℕ → Option (List ℕ × List ℕ)
bytes_at len bytes =
    if nat_lt (length bytes) len then None else Some (take len bytes, drop len bytes)

-- a string key, cut to this length
unfoldable pub text_at : ℕ → List ℕ → Option (List ℕ × List ℕ)
text_at len bytes = do
  text ← string_at bytes
  Some (take len text.0, text.1)

-- a key of this length, and the bytes after it; where keys differ in length, theirs stands first
abbrev pub key_of_length : KeyLength → List ℕ → Option (List ℕ × List ℕ)
key_of_length (Exactly exact) bytes = bytes_at exact bytes
key_of_length (AtMost most) bytes = text_at most bytes

-- the key of a row, and the bytes after it
abbrev pub key_at : KeyKind → List ℕ → Option (List ℕ × List ℕ)
key_at kind bytes = key_of_length (kind_length kind) bytes

-- so many numbers, and the bytes after them; None where one is cut short or over
unfoldable pub numbers_at : ℕ → List ℕ → Option (List ℕ × List ℕ)
numbers_at zero bytes = Some ([], bytes)
numbers_at (suc n) bytes = do
  first ← number_at bytes
  others ← numbers_at n first.1
  Some (first.0 ∷ others.0, others.1)

-- the value of a data type, and the bytes after it: its numbers, none where it isn't sent. A
-- server's name is a length and so many bytes, and says nothing
unfoldable pub value_at : Layout → ℕ → List ℕ → Option (List ℕ × List ℕ)
value_at layout kind bytes =
    if has_type layout.bits kind && (kind == SERVER_KEY) then (do
      text ← string_at bytes
      Some ([], text.1))
    else numbers_at (width_of layout kind) bytes

-- the values of so many data types from this one on; None where one is cut short or over
unfoldable pub values_from : Layout → ℕ → ℕ → List ℕ → Option (List (List ℕ))
values_from layout zero kind bytes = Some []
values_from layout (suc n) kind bytes = do
  first ← value_at layout kind bytes
  others ← values_from layout n (suc kind) first.1
  Some (first.0 ∷ others)

-- a count that stands at the front
abbrev pub count_in : Bool → List ℕ → Cell
count_in wide [] = cells.Count 0
count_in wide (count ∷ others) = cells.Count (count % (if wide then 2 ^ 64 else 2 ^ 32))

-- The elapsed time that is kept, in ms. A sender whose threads' clocks differ sends one that is
-- below 0 by up to 60,000, as 2^32 less so much; that is 0.
abbrev pub elapsed_of : ℕ → ℕ
elapsed_of elapsed =
    if nat_le (2 ^ 32 - 60000) elapsed && nat_lt elapsed (2 ^ 32) then 0 else elapsed

-- a rate that stands at the front: ms elapsed in the current period, events of the current and of
-- the previous one
abbrev pub rate_in : List ℕ → Cell
rate_in (elapsed ∷ cur ∷ prev ∷ others) =
    cells.Rate (elapsed_of elapsed) (cur % 2 ^ 32) (prev % 2 ^ 32)
rate_in (elapsed ∷ cur ∷ []) = cells.Rate 0 0 0
rate_in (elapsed ∷ []) = cells.Rate 0 0 0
rate_in [] = cells.Rate 0 0 0

-- the cell of a column without a value
abbrev pub blank : Col → Cell
blank col = if is_rate col then cells.Rate 0 0 0 else cells.Count 0

-- the numbers of an element and of those behind it, three each of a rate
abbrev pub numbers_of : List (List ℕ) → Bool → Place → List ℕ
numbers_of values rate place =
    drop (if rate then 3 * place.element else place.element)
    (unwrap_or (slice_get values place.kind) [])

-- the cell of a configured column: its value, 0 without one
unfoldable pub cell_of : Layout → List (List ℕ) → Col × ℕ → Cell
cell_of layout values col =
    let numbers = option_map_or (numbers_of values (is_rate col.0)) (cell_place layout col) [] in
    if is_rate col.0 then rate_in numbers else count_in (is_wide col.0) numbers

-- the cells of these columns, from the data types that are read for them, which ascend; what comes
-- after them is ignored
unfoldable pub cells_at : Layout → List (Col × ℕ) → List ℕ → Option (List Cell)
cells_at layout cols bytes = do
  values ← values_from layout (types_read layout cols) 0 bytes
  Some (map (cell_of layout values) cols)
