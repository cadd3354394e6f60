use Rattle.std.proofs.Common.{◌≡◌, ◌++◌, drop, map}
use Rattle.show_clear.specs.Explained.{printed}
use Rattle.show_clear.proofs.quoting.append_printed.Given as goal

-- what is written and what is left to write are all
abbrev pub invariant-loop-byte : goal.invariant-loop-byte
invariant-loop-byte l =
    l.out.items ++ map printed (drop l.byte-index l.bytes) ≡ l.fn.out.items ++ map printed l.bytes
