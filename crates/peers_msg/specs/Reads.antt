-- What a text says, message by message: relations between whole texts and what they stand for.
use Rattle.std.specs.Prelude.{◌≡◌, ◌≢◌, ◌⊎◌, ℕ, ◌^◌, ◌<◌, ◌≤◌, List, [], ◌∷◌, ◌++◌, length}
use Rattle.std.specs.Prelude.{slice_index, Option, Some, None, ◌==◌, true, false}
use Rattle.std.specs.Int.{w32, from_be_bytes}
use Rattle.agg_types.specs.declared.limits.TheConstants.{LONGEST_PAYLOAD}
use Rattle.peers_msg.specs.declared.data_types.TheConstants.{GPC_RATE_ARRAY}
use Rattle.peers_msg.specs.declared.message.Definition.{Definition}
use Rattle.peers_msg.specs.declared.message.Message.{Message}
use Rattle.peers_msg.specs.declared.message.Message.TheVariants as messages
use Rattle.peers_msg.specs.declared.fault.WireCause.{WireCause}
use Rattle.peers_msg.specs.declared.fault.WireCause.TheVariants.{TooLong, BadInteger, BadField}
use Rattle.peers_msg.specs.declared.parameters.Parameter.{Parameter}
use Rattle.peers_msg.specs.declared.parameters.Parameter.TheVariants.{Pair, Array}
use Rattle.peers_msg.specs.Payload.{is_array, is_paired, pairs_in, arrays_in}
use Rattle.peers_msg.specs.Numeral.{value, IsSpelling, IsIntegerAt, IsCut, IsTooLarge}
use Rattle.peers_msg.specs.Message.{control_of, error_of}
use Rattle.peers_msg.specs.Spelling.{update_kind}
use Rattle.peers_msg.specs.Kinds.{control_class, error_class, table_class, update}
use Rattle.peers_msg.specs.Kinds.{timed_incremental_update, table_definition, table_switch}
use Rattle.peers_msg.specs.Kinds.{acknowledgement, first_with_payload}

abbrev pub AreBytes : List ℕ → Type 0
AreBytes bytes = (i : ℕ) → slice_index bytes i < 256

-- the text spells the number
abbrev pub Spells : List ℕ → ℕ → Type 0
Spells text n = IsSpelling text × (value text ≡ n) × (n < 2 ^ 64)

-- four bytes, big-endian, where there is a number
abbrev pub SpellsWord : List ℕ → Option ℕ → Type 0
SpellsWord text None = text ≡ []
SpellsWord text (Some n) = (length text ≡ 4) × (from_be_bytes w32 text ≡ n)

-- an array of rates has a period, and no other array has one
abbrev pub SpellsPeriod : List ℕ → ℕ → Option ℕ → Type 0
SpellsPeriod text id None = ((id == GPC_RATE_ARRAY) ≡ false) × (text ≡ [])
SpellsPeriod text id (Some period) = ((id == GPC_RATE_ARRAY) ≡ true) × Spells text period

-- the id of a data type and its period; or the id of an array, how many elements it has, and their
-- period if they are rates
abbrev pub SpellsParameter : List ℕ → Parameter → Type 0
SpellsParameter text (Pair number period) =
    (a b : List ℕ) × (text ≡ a ++ b) × Spells a number × Spells b period
    × (is_paired number ≡ true)
SpellsParameter text (Array array) =
    (a b c : List ℕ) × (text ≡ a ++ (b ++ c)) × Spells a array.id × Spells b array.count
    × SpellsPeriod c array.id array.period × (is_array array.id ≡ true)

-- these parameters stand at the front, and no further one behind them
abbrev pub BeginsWith : List ℕ → List Parameter → Type 0
BeginsWith bytes [] =
    (p : Parameter) (text rest : List ℕ) → bytes ≡ text ++ rest → SpellsParameter text p → ⊥
BeginsWith bytes (p ∷ ps) =
    (text rest : List ℕ) × (bytes ≡ text ++ rest) × SpellsParameter text p × BeginsWith rest ps

-- the payload of a definition: its fields, one after the other, and the parameters behind them
pub record Defines (payload : List ℕ) (d : Definition) : Type 0 where
  pub id : List ℕ
  pub name_len : List ℕ
  pub kind : List ℕ
  pub len : List ℕ
  pub bits : List ℕ
  pub expiry : List ℕ
  pub behind : List ℕ
  pub whole :
      payload ≡ id ++ (name_len ++ (d.name ++ (kind ++ (len ++ (bits ++ (expiry ++ behind))))))
  pub id_is : Spells id d.id
  pub name_len_is : Spells name_len (length d.name)
  pub kind_is : Spells kind d.kind
  pub len_is : Spells len d.len
  pub bits_is : Spells bits d.bits
  pub expiry_is : Spells expiry d.expiry
  pub parameters : List Parameter
  pub begins : BeginsWith behind parameters
  pub periods_are : d.periods ≡ pairs_in parameters
  pub arrays_are : d.arrays ≡ arrays_in parameters

-- no type of the table class has this number
abbrev pub IsNoTableType : ℕ → Type 0
IsNoTableType kind = (kind < update) ⊎ (timed_incremental_update < kind)

-- what a payload of the table class says under a type
abbrev pub SaysOfTable : ℕ → List ℕ → Message → Type 0
SaysOfTable kind payload (messages.Update id life rest) =
    (kind ≡ update_kind id life)
    × ((a b : List ℕ) × (payload ≡ a ++ (b ++ rest)) × SpellsWord a id × SpellsWord b life)
SaysOfTable kind payload (messages.Define d) = (kind ≡ table_definition) × Defines payload d
SaysOfTable kind payload (messages.Switch id) =
    (kind ≡ table_switch) × ((a more : List ℕ) × (payload ≡ a ++ more) × Spells a id)
SaysOfTable kind payload (messages.Acked id last) =
    (kind ≡ acknowledgement) × ((a b more : List ℕ) × (payload ≡ a ++ (b ++ more)) × Spells a id
    × SpellsWord b (Some last))
SaysOfTable kind payload (messages.Other class other) =
    (class ≡ table_class) × (other ≡ kind) × IsNoTableType kind
SaysOfTable kind payload message = ⊥

-- no message has this class
abbrev pub IsNoClass : ℕ → Type 0
IsNoClass class = (class ≢ control_class) × (class ≢ error_class) × (class ≢ table_class)

-- what a payload says under a class and a type
abbrev pub Says : ℕ → ℕ → List ℕ → Message → Type 0
Says class kind payload message =
    ((class ≡ control_class) × (message ≡ control_of kind))
    ⊎ (((class ≡ error_class) × (message ≡ error_of kind))
    ⊎ (((class ≡ table_class) × SaysOfTable kind payload message)
    ⊎ (IsNoClass class × (message ≡ messages.Other class kind))))

-- the text is a class, a type, and from type 128 on the payload's length and the payload, which is
-- within the limit
abbrev pub Frames : List ℕ → ℕ → ℕ → List ℕ → Type 0
Frames text class kind payload =
    ((kind < first_with_payload) × (payload ≡ []) × (text ≡ class ∷ kind ∷ []))
    ⊎ ((first_with_payload ≤ kind) × (length payload ≤ LONGEST_PAYLOAD)
    × ((size : List ℕ) × Spells size (length payload) × (text ≡ class ∷ kind ∷ (size ++ payload))))

-- the whole text is this message
abbrev pub SpellsMessage : List ℕ → Message → Type 0
SpellsMessage text message =
    (class kind : ℕ) × (payload : List ℕ) × Frames text class kind payload
    × Says class kind payload message

-- a length within the limit, and fewer bytes behind it
abbrev pub HasCutPayload : List ℕ → Type 0
HasCutPayload bytes =
    (size part : List ℕ) × (n : ℕ) × (bytes ≡ size ++ part) × Spells size n
    × (n ≤ LONGEST_PAYLOAD) × (length part < n)

-- neither a whole message nor a fault: the length is cut short, or the payload is
abbrev pub IsRest : List ℕ → Type 0
IsRest [] = Unit {0}
IsRest (class ∷ []) = Unit {0}
IsRest (class ∷ kind ∷ bytes) =
    (first_with_payload ≤ kind) × (IsCut bytes ⊎ HasCutPayload bytes)

-- this fault stands at the front
abbrev pub IsFaultAt : WireCause → List ℕ → Type 0
IsFaultAt TooLong (class ∷ kind ∷ bytes) =
    (first_with_payload ≤ kind) × ((n len : ℕ) × IsIntegerAt bytes n len × (LONGEST_PAYLOAD < n))
IsFaultAt BadInteger (class ∷ kind ∷ bytes) = (first_with_payload ≤ kind) × IsTooLarge bytes
IsFaultAt BadField bytes =
    (text more : List ℕ) × (class kind : ℕ) × (payload : List ℕ) × (bytes ≡ text ++ more)
    × Frames text class kind payload × ((message : Message) → Says class kind payload message → ⊥)
IsFaultAt cause bytes = ⊥

-- the bytes are these messages, one after the other, and then the fault, if one is said, or else a
-- rest
abbrev pub Reads : List ℕ → List Message → Option WireCause → Type 0
Reads bytes [] None = IsRest bytes
Reads bytes [] (Some cause) = IsFaultAt cause bytes
Reads bytes (message ∷ others) end =
    (text more : List ℕ) × (bytes ≡ text ++ more) × SpellsMessage text message
    × Reads more others end
