-- What an entry says over the bytes of its piece, and what a lent message stands for.
use Rattle.std.specs.Prelude.{◌≡◌, ℕ, List, take, drop, box_value, Option, Some}
use Rattle.std.specs.Prelude.{Result, Ok, Err}
use Rattle.peers_msg.specs.declared.message.Message.{Message}
use Rattle.peers_msg.specs.declared.message.Message.TheVariants as messages
use Rattle.peers_msg.specs.declared.entry.Entry.{Entry}
use Rattle.peers_msg.specs.declared.entry.Entry.TheVariants as entries
use Rattle.peers_msg.specs.declared.entry.LentMessage.{LentMessage}
use Rattle.peers_msg.specs.declared.entry.LentMessage.TheVariants as lent
use Rattle.peers_msg.specs.declared.fault.WireCause.{WireCause}
use Rattle.peers_msg.specs.Payload.{◌>>=◌, definition_of}
use Rattle.peers_msg.specs.Gives.{FailsAs}

-- the message of an entry: an update's bytes lie among those of the piece
abbrev pub entry_message : List ℕ → Entry → Message
entry_message bytes entries.Request = messages.Request
entry_message bytes entries.Finished = messages.Finished
entry_message bytes entries.Partial = messages.Partial
entry_message bytes entries.Confirm = messages.Confirm
entry_message bytes entries.Heartbeat = messages.Heartbeat
entry_message bytes entries.ProtocolError = messages.ProtocolError
entry_message bytes entries.SizeError = messages.SizeError
entry_message bytes (entries.Update id life len start) =
    messages.Update id life (take len (drop start bytes))
entry_message bytes (entries.Define definition) = messages.Define (box_value definition)
entry_message bytes (entries.Switch id) = messages.Switch id
entry_message bytes (entries.Acked id last) = messages.Acked id last
entry_message bytes (entries.Other class kind) = messages.Other class kind

-- the message that is lent
abbrev pub as_message : LentMessage → Message
as_message lent.Request = messages.Request
as_message lent.Finished = messages.Finished
as_message lent.Partial = messages.Partial
as_message lent.Confirm = messages.Confirm
as_message lent.Heartbeat = messages.Heartbeat
as_message lent.ProtocolError = messages.ProtocolError
as_message lent.SizeError = messages.SizeError
as_message (lent.Update id life rest) = messages.Update id life rest.now
as_message (lent.Define definition) = messages.Define definition.now
as_message (lent.Switch id) = messages.Switch id
as_message (lent.Acked id last) = messages.Acked id last
as_message (lent.Other class kind) = messages.Other class kind

-- the message of a definition's payload
abbrev pub define_of : List ℕ → Option Message
define_of payload = definition_of payload >>= λ d. Some (messages.Define d)

-- the entry's message, or BadField exactly where there is none
abbrev pub GivesEntry : List ℕ → Result Entry WireCause → Option Message → Type 0
GivesEntry bytes (Ok entry) read = read ≡ Some (entry_message bytes entry)
GivesEntry bytes (Err cause) read = FailsAs cause read
