use Rattle.std.proofs.Common.{◌≡◌, length}
use Rattle.key_text.specs.Read.{put_behind, string_of}
use Rattle.key_text.proofs.reading.string_bytes.Given as goal

-- what is read and what is left to read are all
abbrev pub invariant-loop-byte : goal.invariant-loop-byte
invariant-loop-byte l = put_behind l.bytes.items (string_of l.rest) ≡ string_of l.text

abbrev pub decreases-loop-byte : goal.decreases-loop-byte
decreases-loop-byte l = length l.rest
