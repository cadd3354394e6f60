use Rattle.std.proofs.Common.{◌≡◌, ◌++◌, drop, take, length}
use Rattle.std.specs.List.{flat_map}
use Rattle.key_text.specs.Printed.{hex_of}
use Rattle.key_text.proofs.printing.append_hex.Given as goal

-- what is written and what is left to write are all; what was there stays in front
abbrev pub invariant-loop-byte : goal.invariant-loop-byte
invariant-loop-byte l =
    record {
      so_far : l.out.items ++ flat_map hex_of (drop l.byte-index l.key) ≡ l.fn.out.items
          ++ flat_map hex_of l.key;
      begins : take (length l.fn.out.items) l.out.items ≡ l.fn.out.items;
    }
