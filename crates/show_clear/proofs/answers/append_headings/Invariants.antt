use Rattle.std.proofs.Common.{◌≡◌, ◌++◌, drop, length, take}
use Rattle.show_clear.specs.Answer.{headings}
use Rattle.show_clear.proofs.answers.append_headings.Given as goal

-- what is written and what is left to write are all; what was there stays in front
abbrev pub invariant-loop-table : goal.invariant-loop-table
invariant-loop-table l =
    record {
      so_far : l.out.items ++ headings l.book l.table (drop l.table l.tables) ≡ l.fn.out.items
          ++ headings l.book 0 l.tables;
      begins : take (length l.fn.out.items) l.out.items ≡ l.fn.out.items;
    }
