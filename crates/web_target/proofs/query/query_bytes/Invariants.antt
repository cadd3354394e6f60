use Rattle.std.proofs.Common.{◌≡◌, ◌++◌, drop, map}
use Rattle.web_target.specs.Targets.{plus_to_space}
use Rattle.web_target.proofs.query.query_bytes.Given as goal

-- the bytes so far and those of what is left are all
abbrev pub invariant-loop-byte : goal.invariant-loop-byte
invariant-loop-byte l = l.spaced.items ++ map plus_to_space (drop l.byte-index l.text)
    ≡ map plus_to_space l.text
