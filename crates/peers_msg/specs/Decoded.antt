-- What the steps of the decoder return, against what is read.
use Rattle.std.specs.Prelude.{◌≡◌, ℕ, ◌+◌, ◌≤◌, ◌<◌, List, length, take, drop, Option, Some, None}
use Rattle.std.specs.Prelude.{Result, Ok, Err}
use Rattle.agg_types.specs.declared.limits.TheConstants.{LONGEST_PAYLOAD}
use Rattle.peers_msg.specs.declared.entry.Entry.{Entry}
use Rattle.peers_msg.specs.declared.framing.Head.{Head}
use Rattle.peers_msg.specs.declared.framing.Head.TheVariants as heads
use Rattle.peers_msg.specs.declared.fault.WireCause.{WireCause}
use Rattle.peers_msg.specs.declared.fault.WireCause.TheVariants.{TooLong, BadInteger, BadField}
use Rattle.peers_msg.specs.declared.fault.WireCause.TheVariants.{NoMemory}
use Rattle.peers_msg.specs.Lent.{entry_message}
use Rattle.peers_msg.specs.Message.{Frame, Short, Wrong, Framed, First, Unfinished, Faulty, Whole}

-- what a head says of the frame at the front of bytes
abbrev pub IsHead : Head → List ℕ → Frame → Type 0
IsHead heads.Short bytes frame = frame ≡ Short
IsHead (heads.Wrong cause) bytes frame = frame ≡ Wrong cause
IsHead (heads.Whole class kind start len) bytes frame =
    frame ≡ Framed class kind (take len (drop start bytes)) (drop len (drop start bytes))

-- where a head's payload lies, which is no longer than the limit
abbrev pub HeadFits : Head → List ℕ → Type 0
HeadFits heads.Short bytes = Unit {0}
HeadFits (heads.Wrong cause) bytes = Unit {0}
HeadFits (heads.Whole class kind start len) bytes =
    (0 < start) × (start + len ≤ length bytes) × (len ≤ LONGEST_PAYLOAD)

abbrev pub FaultIsFirst : WireCause → First → Type 0
FaultIsFirst TooLong first = first ≡ Faulty TooLong
FaultIsFirst BadInteger first = first ≡ Faulty BadInteger
FaultIsFirst BadField first = first ≡ Faulty BadField
FaultIsFirst NoMemory first = Unit {0}

-- a fault of the bytes, and not `NoMemory`
abbrev pub IsWireFault : WireCause → Type 0
IsWireFault TooLong = Unit {0}
IsWireFault BadInteger = Unit {0}
IsWireFault BadField = Unit {0}
IsWireFault NoMemory = ⊥

-- the first message from a place on, and the place behind it, or the fault there, unless memory ran
-- out
abbrev pub IsFirst : Result (Option (Entry × ℕ)) WireCause → List ℕ → ℕ → First → Type 0
IsFirst (Ok None) bytes at first = first ≡ Unfinished
IsFirst (Ok (Some found)) bytes at first =
    (first ≡ Whole (entry_message bytes found.0) (drop found.1 bytes)) × (at < found.1)
    × (found.1 ≤ length bytes)
IsFirst (Err cause) bytes at first = FaultIsFirst cause first
