use Rattle.std.proofs.Common.{◌≡◌, ◌++◌, drop, length, take}
use Rattle.answer_text.specs.Tables.{cells_text}
use Rattle.answer_text.proofs.tables.append_cells.Given as goal

-- what is written and what is left to write are all; what was there stays in front
abbrev pub invariant-loop-col : goal.invariant-loop-col
invariant-loop-col l =
    record {
      so_far : l.out.items ++ cells_text l.sums (drop l.col-index l.cols) ≡ l.fn.out.items
          ++ cells_text l.sums l.cols;
      begins : take (length l.fn.out.items) l.out.items ≡ l.fn.out.items;
    }
