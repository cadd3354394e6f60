-- What a feed keeps between pieces, and what it answers.
use Rattle.std.specs.Prelude.{◌≡◌, ℕ, List, [], ◌++◌, Option, Some, None, Result, Ok, Err}
use Rattle.peers_msg.specs.declared.message.Message.{Message}
use Rattle.peers_msg.specs.declared.fault.WireCause.{WireCause}
use Rattle.peers_msg.specs.declared.fault.WireCause.TheVariants.{TooLong, BadInteger, BadField}
use Rattle.peers_msg.specs.declared.fault.WireCause.TheVariants.{NoMemory}
use Rattle.peers_msg.specs.declared.fault.WireFault.{WireFault}
use Rattle.agg_types.specs.declared.no_memory.NoMemory.{NoMemory as Refused}
use Rattle.peers_msg.specs.Message.{Reading, with_front, reading_of}
use Rattle.peers_msg.specs.DecoderState.{DecoderState}

abbrev pub decoder_of : Reading → DecoderState
decoder_of reading = record { rest = reading.rest; fault = reading.fault }

-- what a feed keeps after these bytes
abbrev pub feed_of : List ℕ → DecoderState
feed_of taken = decoder_of (reading_of taken)

abbrev pub fed_after : Option WireCause → List ℕ → Reading
fed_after None bytes = reading_of bytes
fed_after (Some cause) bytes = record { messages = []; fault = Some cause; rest = [] }

-- The reading of bytes and what comes after them: the messages stand, a fault ends it for good, and
-- otherwise the rest is read with what comes.
abbrev pub goes_on : Reading → List ℕ → Reading
goes_on reading more = with_front reading.messages (fed_after reading.fault (reading.rest ++ more))

-- what a piece gives, from what the feed keeps
abbrev pub fed : DecoderState → List ℕ → Reading
fed kept piece = fed_after kept.fault (kept.rest ++ piece)

abbrev pub FaultAnswers : WireCause → List Message → Reading → Type 0
FaultAnswers TooLong before reading = (reading.fault ≡ Some TooLong) × (before ≡ reading.messages)
FaultAnswers BadInteger before reading =
    (reading.fault ≡ Some BadInteger) × (before ≡ reading.messages)
FaultAnswers BadField before reading = (reading.fault ≡ Some BadField) × (before ≡ reading.messages)
FaultAnswers NoMemory before reading = before ≡ []

-- the messages of the reading, and its fault where it has one, unless memory ran out
abbrev pub Answers : Result (List Message) WireFault → Reading → Type 0
Answers (Ok messages) reading = (reading.fault ≡ None) × (messages ≡ reading.messages)
Answers (Err fault) reading = FaultAnswers fault.cause fault.before reading

abbrev pub kept_after_fault : WireCause → DecoderState → Reading → DecoderState
kept_after_fault NoMemory old reading = old
kept_after_fault cause old reading = decoder_of reading

-- what the reading leaves, or what was kept before where memory ran out
abbrev pub kept_after : Result (List Message) WireFault → DecoderState → Reading → DecoderState
kept_after (Ok messages) old reading = decoder_of reading
kept_after (Err fault) old reading = kept_after_fault fault.cause old reading

abbrev pub FaultGoesOn : WireCause → List Message → Reading → Reading → Type 0
FaultGoesOn NoMemory before old new = before ≡ []
FaultGoesOn cause before old new =
    (new.fault ≡ Some cause) × (new.messages ≡ old.messages ++ before)

-- What was handed out is what the new reading has beyond the old one, and a fault is answered
-- exactly where the new reading ends with it.
abbrev pub GoesOn : Result (List Message) WireFault → Reading → Reading → Type 0
GoesOn (Ok messages) old new = (new.fault ≡ None) × (new.messages ≡ old.messages ++ messages)
GoesOn (Err fault) old new = FaultGoesOn fault.cause fault.before old new

-- What a piece gives was read, with the feed as it was; or there is no message and no fault, and
-- the piece is taken. Out of memory, the feed stays as it was.
abbrev pub HasRead : Result (Option Reading) Refused → DecoderState → DecoderState → Reading
    → Type 0
HasRead (Ok (Some given)) old new reading = (given ≡ reading) × (new ≡ old)
HasRead (Ok None) old new reading =
    (reading ≡ record { messages = []; fault = None; rest = new.rest }) × (new ≡ decoder_of reading)
HasRead (Err refused) old new reading = new ≡ old
