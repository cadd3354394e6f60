-- Messages, one after the other, and what a stream of bytes says.
use Rattle.std.specs.Prelude.{ℕ, zero, suc, true, false, nat_lt, ◌==◌, List, [], ◌∷◌, ◌++◌, length}
use Rattle.std.specs.Prelude.{take, drop, Option, Some, None, Result, Ok, Err, if◌then◌else◌}
use Rattle.agg_types.specs.declared.limits.TheConstants.{LONGEST_PAYLOAD}
use Rattle.peers_msg.specs.declared.integer.IntTooLarge.{IntTooLarge}
use Rattle.peers_msg.specs.declared.message.Message.{Message}
use Rattle.peers_msg.specs.declared.message.Message.TheVariants as messages
use Rattle.peers_msg.specs.declared.fault.WireCause.{WireCause}
use Rattle.peers_msg.specs.declared.fault.WireCause.TheVariants.{TooLong, BadInteger, BadField}
use Rattle.peers_msg.specs.Numeral.{integer_at}
use Rattle.peers_msg.specs.Payload.{◌>>=◌, definition_of, switch_of, acked_of, update_of}
use Rattle.peers_msg.specs.Kinds.{control_class, error_class, table_class, resync_request}
use Rattle.peers_msg.specs.Kinds.{resync_finished, resync_partial, resync_confirm, heartbeat}
use Rattle.peers_msg.specs.Kinds.{protocol_error, size_error, update, incremental_update}
use Rattle.peers_msg.specs.Kinds.{table_definition, table_switch, acknowledgement, timed_update}
use Rattle.peers_msg.specs.Kinds.{timed_incremental_update, first_with_payload}

-- the messages of class 0, which have no payload
unfoldable pub control_of : ℕ → Message
control_of kind =
    if kind == resync_request then messages.Request
    else if kind == resync_finished then messages.Finished
    else if kind == resync_partial then messages.Partial
    else if kind == resync_confirm then messages.Confirm
    else if kind == heartbeat then messages.Heartbeat
    else messages.Other control_class kind

-- the messages of class 1, which have no payload
unfoldable pub error_of : ℕ → Message
error_of kind =
    if kind == protocol_error then messages.ProtocolError
    else if kind == size_error then messages.SizeError
    else messages.Other error_class kind

-- the messages of class 10; None where a field is cut short or over
unfoldable pub table_of : ℕ → List ℕ → Option Message
table_of kind payload =
    if kind == update then update_of true false payload
    else if kind == incremental_update then update_of false false payload
    else if kind == table_definition then (definition_of payload >>= λ d. Some (messages.Define d))
    else if kind == table_switch then switch_of payload
    else if kind == acknowledgement then acked_of payload
    else if kind == timed_update then update_of true true payload
    else if kind == timed_incremental_update then update_of false true payload
    else Some (messages.Other table_class kind)

-- the message of a class, a type and a payload; every pair without a meaning is skipped as Other
unfoldable pub message_of : ℕ → ℕ → List ℕ → Option Message
message_of class kind payload =
    if class == control_class then Some (control_of kind)
    else if class == error_class then Some (error_of kind)
    else if class == table_class then table_of kind payload
    else Some (messages.Other class kind)

-- what stands at the front of bytes
pub data Frame : Type 0 where
  -- not yet a whole message, and no fault
  Short : Frame
  Wrong : WireCause → Frame
  -- class, type and payload of a message, and the bytes after it
  Framed : ℕ → ℕ → List ℕ → List ℕ → Frame

-- the payload, whose length stands at the front
abbrev pub framed : ℕ → ℕ → List ℕ → Result (Option (ℕ × ℕ)) IntTooLarge → Frame
framed class kind bytes (Ok None) = Short
framed class kind bytes (Err over) = Wrong BadInteger
framed class kind bytes (Ok (Some size)) =
    if nat_lt LONGEST_PAYLOAD size.0 then Wrong TooLong
    else if nat_lt (length (drop size.1 bytes)) size.0 then Short
    else Framed class kind (take size.0 (drop size.1 bytes)) (drop size.0 (drop size.1 bytes))

-- a class, a type, and from type 128 on a length and a payload
unfoldable pub frame_at : List ℕ → Frame
frame_at [] = Short
frame_at (class ∷ []) = Short
frame_at (class ∷ kind ∷ bytes) =
    if nat_lt kind first_with_payload then Framed class kind [] bytes
    else framed class kind bytes (integer_at bytes)

-- the first message of bytes
pub data First : Type 0 where
  Unfinished : First
  Faulty : WireCause → First
  -- the message, and the bytes after it
  Whole : Message → List ℕ → First

abbrev pub whole_or_bad : Option Message → List ℕ → First
whole_or_bad None rest = Faulty BadField
whole_or_bad (Some message) rest = Whole message rest

abbrev pub first_in : Frame → First
first_in Short = Unfinished
first_in (Wrong cause) = Faulty cause
first_in (Framed class kind payload rest) = whole_or_bad (message_of class kind payload) rest

unfoldable pub first_of : List ℕ → First
first_of bytes = first_in (frame_at bytes)

-- what bytes say: whole messages one after the other, and then the fault, if one stands there, or
-- else the rest
pub record Reading : Type 0 where
  pub messages : List Message
  pub fault : Option WireCause
  pub rest : List ℕ

-- messages, and then a reading
abbrev pub with_front : List Message → Reading → Reading
with_front front reading =
    record { messages = front ++ reading.messages; fault = reading.fault; rest = reading.rest }

-- a message, and then a reading
abbrev pub after_message : Message → Reading → Reading
after_message message reading =
    record { messages = message ∷ reading.messages; fault = reading.fault; rest = reading.rest }

-- the reading of bytes that begin so, where next reads what follows a message
abbrev pub reading_by : (List ℕ → Reading) → List ℕ → First → Reading
reading_by next bytes Unfinished = record { messages = []; fault = None; rest = bytes }
reading_by next bytes (Faulty cause) = record { messages = []; fault = Some cause; rest = [] }
reading_by next bytes (Whole message rest) = after_message message (next rest)

-- at most so many messages
unfoldable pub reading_within : ℕ → List ℕ → Reading
reading_within zero bytes = record { messages = []; fault = None; rest = bytes }
reading_within (suc n) bytes = reading_by (reading_within n) bytes (first_of bytes)

-- each message takes two bytes or more, so these are all of them
unfoldable pub reading_of : List ℕ → Reading
reading_of bytes = reading_within (length bytes) bytes
