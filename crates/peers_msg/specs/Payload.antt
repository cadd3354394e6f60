-- What the fields of a message's payload are. A field that is cut short or over is None.
use Rattle.std.specs.Prelude.{ℕ, zero, suc, Bool, true, false, nat_lt, nat_le, ◌==◌, ◌&&◌, ◌||◌}
use Rattle.std.specs.Prelude.{not, List, [], ◌∷◌, length, take}
use Rattle.std.specs.Prelude.{drop, Option, Some, None, Result, Ok, Err, if◌then◌else◌}
use Rattle.std.specs.Int.{w32, from_be_bytes}
use Rattle.std.specs.Option.{option_map_or}
use Rattle.agg_types.specs.declared.column.TheConstants.{LAST_TYPE}
use Rattle.peers_msg.specs.declared.data_types.TheConstants.{GPC_RATE_ARRAY, GPT_ARRAY, SERVER_KEY}
use Rattle.peers_msg.specs.declared.integer.IntTooLarge.{IntTooLarge}
use Rattle.peers_msg.specs.declared.message.ArrayParameter.{ArrayParameter}
use Rattle.peers_msg.specs.declared.message.Definition.{Definition}
use Rattle.peers_msg.specs.declared.message.Message.{Message}
use Rattle.peers_msg.specs.declared.message.Message.TheVariants as messages
use Rattle.peers_msg.specs.declared.parameters.Parameter.{Parameter}
use Rattle.peers_msg.specs.declared.parameters.Parameter.TheVariants.{Pair, Array}
use Rattle.peers_msg.specs.Numeral.{integer_at}

infixl 10 ◌>>=◌
abbrev pub ◌>>=◌ : {A B : Type 0} → Option A → (A → Option B) → Option B
(Some x) >>= f = f x
None >>= f = None

abbrev pub split_found : List ℕ → Result (Option (ℕ × ℕ)) IntTooLarge → Option (ℕ × List ℕ)
split_found bytes (Ok (Some found)) = Some (found.0, drop found.1 bytes)
split_found bytes (Ok None) = None
split_found bytes (Err over) = None

-- an encoded integer, and the bytes after it
unfoldable pub number_at : List ℕ → Option (ℕ × List ℕ)
number_at bytes = split_found bytes (integer_at bytes)

-- four bytes, big-endian, and the bytes after them
unfoldable pub word_at : List ℕ → Option (ℕ × List ℕ)
word_at bytes =
    if nat_lt (length bytes) 4 then None else Some (from_be_bytes w32 (take 4 bytes), drop 4 bytes)

-- a length, so many bytes, and the bytes after them
unfoldable pub string_at : List ℕ → Option (List ℕ × List ℕ)
string_at bytes = do
  size ← number_at bytes
  if nat_lt (length size.1) size.0 then None else Some (take size.0 size.1, drop size.0 size.1)

-- whether a data type is an array
abbrev pub is_array : ℕ → Bool
is_array id = nat_le GPT_ARRAY id && nat_le id GPC_RATE_ARRAY

-- whether a data type's parameter is a pair: one up to that of the last column, but for the arrays
-- and the name of a server
abbrev pub is_paired : ℕ → Bool
is_paired id = nat_le id LAST_TYPE && not (id == SERVER_KEY || is_array id)

-- an array of so many elements, and the bytes after it; of rates the period stands behind that
abbrev pub array_behind : ℕ → ℕ → List ℕ → Option (Parameter × List ℕ)
array_behind id count bytes =
    if id == GPC_RATE_ARRAY then (do
      period ← number_at bytes
      Some (Array (record { id = id; count = count; period = Some period.0 }), period.1))
    else Some (Array (record { id = id; count = count; period = None }), bytes)

-- what stands behind a data type's id and a number
abbrev pub parameter_behind : ℕ → ℕ → List ℕ → Option (Parameter × List ℕ)
parameter_behind id value bytes =
    if is_array id then array_behind id value bytes
    else (if is_paired id then Some (Pair id value, bytes) else None)

-- the parameter of a data type, and the bytes after it
unfoldable pub parameter_at : List ℕ → Option (Parameter × List ℕ)
parameter_at bytes = do
  id ← number_at bytes
  value ← number_at id.1
  parameter_behind id.0 value.0 value.1

-- the whole parameters at the front, at most so many
unfoldable pub parameters_within : ℕ → List ℕ → List Parameter
parameters_within zero bytes = []
parameters_within (suc n) bytes =
    option_map_or (λ p. p.0 ∷ parameters_within n p.1) (parameter_at bytes) []

-- all whole parameters at the front; what comes after the last is not read
abbrev pub parameters_at : List ℕ → List Parameter
parameters_at bytes = parameters_within (length bytes) bytes

-- the data types with their periods
abbrev pub pairs_in : List Parameter → List (ℕ × ℕ)
pairs_in [] = []
pairs_in (Pair id period ∷ others) = (id, period) ∷ pairs_in others
pairs_in (Array array ∷ others) = pairs_in others

abbrev pub arrays_in : List Parameter → List ArrayParameter
arrays_in [] = []
arrays_in (Pair id period ∷ others) = arrays_in others
arrays_in (Array array ∷ others) = array ∷ arrays_in others

unfoldable pub definition_of : List ℕ → Option Definition
definition_of payload = do
  id ← number_at payload
  name ← string_at id.1
  kind ← number_at name.1
  len ← number_at kind.1
  bits ← number_at len.1
  expiry ← number_at bits.1
  Some (record {
    id = id.0;
    name = name.0;
    kind = kind.0;
    len = len.0;
    bits = bits.0;
    expiry = expiry.0;
    periods = pairs_in (parameters_at expiry.1);
    arrays = arrays_in (parameters_at expiry.1);
  })

unfoldable pub switch_of : List ℕ → Option Message
switch_of payload = do
  id ← number_at payload
  Some (messages.Switch id.0)

unfoldable pub acked_of : List ℕ → Option Message
acked_of payload = do
  id ← number_at payload
  last ← word_at id.1
  Some (messages.Acked id.0 last.0)

-- a word where one is to stand, and the bytes after it
abbrev pub word_if : Bool → List ℕ → Option (Option ℕ × List ℕ)
word_if false bytes = Some (None, bytes)
word_if true bytes = do
  word ← word_at bytes
  Some (Some word.0, word.1)

-- an update with or without an id and a remaining life
unfoldable pub update_of : Bool → Bool → List ℕ → Option Message
update_of has_id has_life payload = do
  id ← word_if has_id payload
  life ← word_if has_life id.1
  Some (messages.Update id.0 life.0 life.1)
