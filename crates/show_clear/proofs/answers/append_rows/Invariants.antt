use Rattle.std.proofs.Common.{◌≡◌, ◌++◌, length, take}
use Rattle.show_clear.specs.Answer.{row_lines}
use Rattle.show_clear.proofs.answers.append_rows.Given as goal

-- what is written and what is left to write are all; what was there stays in front
abbrev pub invariant-loop-key : goal.invariant-loop-key
invariant-loop-key l =
    record {
      so_far : l.out.items ++ row_lines l.shape l.key-iterator ≡ l.fn.out.items
          ++ row_lines l.shape l.fn.rows;
      begins : take (length l.fn.out.items) l.out.items ≡ l.fn.out.items;
    }
