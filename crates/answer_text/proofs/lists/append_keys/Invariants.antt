use Rattle.std.proofs.Common.{◌≡◌, ◌++◌, drop, length, map, take}
use Rattle.std.specs.List.{flat_map}
use Rattle.answer_text.specs.Lists.{key_line}
use Rattle.answer_text.proofs.lists.append_keys.Given as goal

-- what is written and what is left to write are all; what was there stays in front
abbrev pub invariant-loop-key : goal.invariant-loop-key
invariant-loop-key l =
    record {
      so_far : l.out.items ++ flat_map (key_line l.shape)
          (map (λ key. key.now) (drop l.key-index l.keys)) ≡ l.fn.out.items
          ++ flat_map (key_line l.shape) (map (λ key. key.now) l.keys);
      begins : take (length l.fn.out.items) l.out.items ≡ l.fn.out.items;
    }
