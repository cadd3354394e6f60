use Rattle.std.proofs.Common.{◌≡◌, ◌+◌, ◌*◌, ◌≤◌, ◌^◌, length}
use Rattle.book_rows.specs.Shown.{rows_worth}
use Rattle.book_rows.proofs.values.worth.Given as goal

abbrev pub invariant-loop-row : goal.invariant-loop-row
invariant-loop-row l = record {
  so_far : l.total + rows_worth l.fn.cols l.fn.col l.t l.row-iterator ≡ rows_worth l.fn.cols
      l.fn.col l.t l.fn.rows;
  small : l.total + 2 ^ 64 * length l.row-iterator ≤ 2 ^ 64 * length l.fn.rows;
}
