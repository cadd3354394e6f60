use Rattle.std.proofs.Common.{◌≡◌, drop}
use Rattle.place_index.specs.Hash.{mixed_all}
use Rattle.place_index.proofs.key.KeyIndexKey.hash_of.Given as goal

abbrev pub invariant-loop-byte : goal.invariant-loop-byte
invariant-loop-byte l =
    mixed_all l.state (drop l.byte-index l.bytes) ≡ mixed_all 14695981039346656037 l.bytes
