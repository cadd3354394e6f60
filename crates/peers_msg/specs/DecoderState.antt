-- What a feed keeps between pieces.
use Rattle.std.specs.Prelude.{◌≡◌, ℕ, ◌+◌, ◌<◌, List, [], length, Option, Some, None}
use Rattle.agg_types.specs.declared.limits.TheConstants.{LONGEST_PAYLOAD}
use Rattle.peers_msg.specs.declared.fault.WireCause.{WireCause}
use Rattle.peers_msg.specs.declared.fault.WireCause.TheVariants.{TooLong, BadInteger, BadField}
use Rattle.peers_msg.specs.declared.fault.WireCause.TheVariants.{NoMemory}
use Rattle.peers_msg.specs.Kinds.{longest_head}

-- the bytes that are no whole message yet, or the fault that ended the stream
pub record DecoderState : Type 0 where
  pub rest : List ℕ
  pub fault : Option WireCause

-- Less than a message is kept: at most a head, and less than the longest payload. After a fault
-- nothing is.
abbrev pub IsKept : List ℕ → Option WireCause → Type 0
IsKept rest None = length rest < longest_head + LONGEST_PAYLOAD
IsKept rest (Some TooLong) = rest ≡ []
IsKept rest (Some BadInteger) = rest ≡ []
IsKept rest (Some BadField) = rest ≡ []
IsKept rest (Some NoMemory) = ⊥
