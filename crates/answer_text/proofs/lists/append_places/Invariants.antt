use Rattle.std.proofs.Common.{◌≡◌, ◌++◌, ◌+◌, ◌≤◌, ◌^◌, length, take}
use Rattle.answer_text.specs.Lists.{places_text}
use Rattle.answer_text.proofs.lists.append_places.Given as goal

-- what is written and what is left to write are all; what was there stays in front
abbrev pub invariant-loop-key : goal.invariant-loop-key
invariant-loop-key l =
    record {
      so_far : l.out.items ++ places_text l.shape (l.col, l.period) l.place l.key-iterator
          ≡ l.fn.out.items ++ places_text l.shape (l.col, l.period) 1 l.fn.entries;
      begins : take (length l.fn.out.items) l.out.items ≡ l.fn.out.items;
      counted : l.place + length l.key-iterator ≤ 2 ^ 64;
    }
