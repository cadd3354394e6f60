use Rattle.std.proofs.Common.{◌≡◌, ◌++◌, drop, length, take}
use Rattle.std.specs.List.{flat_map}
use Rattle.answer_text.specs.Names.{escaped}
use Rattle.answer_text.proofs.names.append_escaped.Given as goal

-- what is written and what is left to write are all; what was there stays in front
abbrev pub invariant-loop-byte : goal.invariant-loop-byte
invariant-loop-byte l =
    record {
      so_far : l.out.items ++ flat_map escaped (drop l.byte-index l.name) ≡ l.fn.out.items
          ++ flat_map escaped l.name;
      begins : take (length l.fn.out.items) l.out.items ≡ l.fn.out.items;
    }
