-- How integers and messages are spelled.
use Rattle.std.specs.Prelude.{ℕ, zero, suc, ◌+◌, ◌-◌, ◌/◌, ◌%◌, ◌^◌, ◌<◌, ◌≤◌, nat_lt, List, []}
use Rattle.std.specs.Prelude.{◌∷◌, ◌++◌, length, option_to_list, Option, Some, None, ◌≡◌, ◌==◌}
use Rattle.std.specs.Prelude.{true, false, map, if◌then◌else◌}
use Rattle.std.specs.Option.{option_map}
use Rattle.std.specs.List.{flat_map, AllByRecursion}
use Rattle.std.specs.Int.{w32, to_be_bytes}
use Rattle.agg_types.specs.declared.column.TheConstants.{LAST_TYPE}
use Rattle.agg_types.specs.declared.limits.TheConstants.{LONGEST_PAYLOAD}
use Rattle.peers_msg.specs.declared.data_types.TheConstants.{GPC_RATE_ARRAY}
use Rattle.peers_msg.specs.declared.message.ArrayParameter.{ArrayParameter}
use Rattle.peers_msg.specs.declared.message.Definition.{Definition}
use Rattle.peers_msg.specs.declared.message.Message.{Message}
use Rattle.peers_msg.specs.declared.message.Message.TheVariants as messages
use Rattle.peers_msg.specs.declared.parameters.Parameter.{Parameter}
use Rattle.peers_msg.specs.declared.parameters.Parameter.TheVariants.{Pair, Array}
use Rattle.peers_msg.specs.Payload.{is_array, is_paired, pairs_in, arrays_in}
use Rattle.peers_msg.specs.Kinds.{control_class, error_class, table_class, resync_request}
use Rattle.peers_msg.specs.Kinds.{resync_finished, resync_partial, resync_confirm, heartbeat}
use Rattle.peers_msg.specs.Kinds.{protocol_error, size_error, update, incremental_update}
use Rattle.peers_msg.specs.Kinds.{table_definition, table_switch, acknowledgement, timed_update}
use Rattle.peers_msg.specs.Kinds.{timed_incremental_update}

-- the bytes after the first of a spelling, of which one more in the next byte counts 1; at most as
-- many as said
unfoldable pub tail_spelling : ℕ → ℕ → List ℕ
tail_spelling zero n = n ∷ []
tail_spelling (suc most) n =
    if nat_lt n 128 then n ∷ [] else (128 + (n - 128) % 128) ∷ tail_spelling most ((n - 128) / 128)

-- the one spelling of an integer
unfoldable pub integer_spelling : ℕ → List ℕ
integer_spelling n =
    if nat_lt n 240 then n ∷ [] else (240 + (n - 240) % 16) ∷ tail_spelling n ((n - 240) / 16)

-- four bytes, big-endian, where there is a number
abbrev pub word_spelling : Option ℕ → List ℕ
word_spelling None = []
word_spelling (Some n) = to_be_bytes w32 n

-- the period of an array, where it has one
abbrev pub period_spelling : Option ℕ → List ℕ
period_spelling None = []
period_spelling (Some period) = integer_spelling period

abbrev pub parameter_spelling : Parameter → List ℕ
parameter_spelling (Pair id period) = integer_spelling id ++ integer_spelling period
parameter_spelling (Array array) =
    integer_spelling array.id ++ integer_spelling array.count ++ period_spelling array.period

abbrev pub pair_id : ℕ × ℕ → ℕ
pair_id pair = pair.0

abbrev pub array_id : ArrayParameter → ℕ
array_id array = array.id

-- the last one that has this id, or what was found before
abbrev pub last_of : {A : Type 0} → (A → ℕ) → Option A → ℕ → List A → Option A
last_of id_of found id [] = found
last_of id_of found id (x ∷ xs) = last_of id_of (if id_of x == id then Some x else found) id xs

-- the parameter of a data type, if the definition has one
abbrev pub parameter_of : Definition → ℕ → Option Parameter
parameter_of d id =
    if is_array id then option_map Array (last_of array_id None id d.arrays)
    else (if is_paired id
    then option_map (λ pair. Pair pair.0 pair.1) (last_of pair_id None id d.periods) else None)

-- the parameters of so many data types from this one on
abbrev pub parameters_from : Definition → ℕ → ℕ → List Parameter
parameters_from d zero id = []
parameters_from d (suc n) id =
    option_to_list (parameter_of d id) ++ parameters_from d n (suc id)

-- the parameters as they are written: ascending by data type, each once
abbrev pub parameters_of : Definition → List Parameter
parameters_of d = parameters_from d (suc LAST_TYPE) 0

-- a definition's fields up to the expiry
abbrev pub fields_spelling : Definition → List ℕ
fields_spelling d =
    integer_spelling d.id ++ integer_spelling (length d.name) ++ d.name ++ integer_spelling d.kind
    ++ integer_spelling d.len ++ integer_spelling d.bits ++ integer_spelling d.expiry

abbrev pub definition_spelling : Definition → List ℕ
definition_spelling d = fields_spelling d ++ flat_map parameter_spelling (parameters_of d)

abbrev pub payload_spelling : Message → List ℕ
payload_spelling (messages.Update id life rest) = word_spelling id ++ word_spelling life ++ rest
payload_spelling (messages.Define definition) = definition_spelling definition
payload_spelling (messages.Switch id) = integer_spelling id
payload_spelling (messages.Acked id last) = integer_spelling id ++ to_be_bytes w32 last
payload_spelling message = []

-- a class, a type from 128 on, the payload's length and the payload
abbrev pub framed_spelling : ℕ → ℕ → List ℕ → List ℕ
framed_spelling class kind payload = class ∷ kind ∷ (integer_spelling (length payload) ++ payload)

-- a message of the table class
abbrev pub table_spelling : ℕ → List ℕ → List ℕ
table_spelling kind payload = framed_spelling table_class kind payload

-- the type of an update with or without an id and a remaining life
abbrev pub update_kind : Option ℕ → Option ℕ → ℕ
update_kind (Some id) None = update
update_kind None None = incremental_update
update_kind (Some id) (Some life) = timed_update
update_kind None (Some life) = timed_incremental_update

-- the one spelling of a message; a message of another kind has none
unfoldable pub message_spelling : Message → List ℕ
message_spelling messages.Request = control_class ∷ resync_request ∷ []
message_spelling messages.Finished = control_class ∷ resync_finished ∷ []
message_spelling messages.Partial = control_class ∷ resync_partial ∷ []
message_spelling messages.Confirm = control_class ∷ resync_confirm ∷ []
message_spelling messages.Heartbeat = control_class ∷ heartbeat ∷ []
message_spelling messages.ProtocolError = error_class ∷ protocol_error ∷ []
message_spelling messages.SizeError = error_class ∷ size_error ∷ []
message_spelling (messages.Update id life rest) =
    table_spelling (update_kind id life) (payload_spelling (messages.Update id life rest))
message_spelling (messages.Define definition) =
    table_spelling table_definition (definition_spelling definition)
message_spelling (messages.Switch id) = table_spelling table_switch (integer_spelling id)
message_spelling (messages.Acked id last) =
    table_spelling acknowledgement (payload_spelling (messages.Acked id last))
message_spelling (messages.Other class kind) = []

-- A message of a known kind, with a payload within the limit. That of a switch and of an
-- acknowledgement always is.
abbrev pub IsSendable : Message → Type 0
IsSendable (messages.Update id life rest) =
    length (word_spelling id ++ word_spelling life ++ rest) ≤ LONGEST_PAYLOAD
IsSendable (messages.Define definition) = length (definition_spelling definition) ≤ LONGEST_PAYLOAD
IsSendable (messages.Other class kind) = ⊥
IsSendable message = Unit {0}

abbrev pub IsWord : Option ℕ → Type 0
IsWord None = Unit {0}
IsWord (Some n) = n < 2 ^ 32

abbrev pub IsPeriod : ℕ × ℕ → Type 0
IsPeriod p = p.1 < 2 ^ 64

-- an array of rates has a period, and no other one has
abbrev pub HasOwnPeriod : ℕ → Option ℕ → Type 0
HasOwnPeriod id None = (id == GPC_RATE_ARRAY) ≡ false
HasOwnPeriod id (Some period) = ((id == GPC_RATE_ARRAY) ≡ true) × (period < 2 ^ 64)

abbrev pub IsArray : ArrayParameter → Type 0
IsArray array = (array.count < 2 ^ 64) × HasOwnPeriod array.id array.period

-- a definition's numbers are in their ranges
pub record IsDefinition (d : Definition) : Type 0 where
  pub id : d.id < 2 ^ 64
  pub kind : d.kind < 2 ^ 64
  pub len : d.len < 2 ^ 64
  pub bits : d.bits < 2 ^ 64
  pub expiry : d.expiry < 2 ^ 64
  pub periods : AllByRecursion IsPeriod d.periods
  pub arrays : AllByRecursion IsArray d.arrays

-- a message's numbers are in their ranges
abbrev pub IsInRange : Message → Type 0
IsInRange (messages.Update id life rest) = IsWord id × IsWord life
IsInRange (messages.Define definition) = IsDefinition definition
IsInRange (messages.Switch id) = id < 2 ^ 64
IsInRange (messages.Acked id last) = (id < 2 ^ 64) × (last < 2 ^ 32)
IsInRange message = Unit {0}

-- a definition with its parameters as they are written
abbrev pub in_order : Definition → Definition
in_order d =
    record d {
      periods = pairs_in (parameters_of d);
      arrays = arrays_in (parameters_of d);
    }

-- a message as what is written of it is read again
abbrev pub as_written : Message → Message
as_written (messages.Define definition) = messages.Define (in_order definition)
as_written message = message

-- the ids ascend, from this one on, up to that of the last column
abbrev pub Ascend : ℕ → List ℕ → Type 0
Ascend least [] = Unit {0}
Ascend least (id ∷ ids) = (least ≤ id) × (id ≤ LAST_TYPE) × Ascend (suc id) ids

-- a definition's pairs and its arrays ascend, and are of data types that have such ones
pub record IsInOrder (d : Definition) : Type 0 where
  pub pairs : Ascend 0 (map pair_id d.periods)
  pub arrays : Ascend 0 (map array_id d.arrays)
  pub are_pairs : AllByRecursion (λ p. is_paired p.0 ≡ true) d.periods
  pub are_arrays : AllByRecursion (λ a. is_array a.id ≡ true) d.arrays
