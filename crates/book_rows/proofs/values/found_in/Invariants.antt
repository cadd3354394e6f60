use Rattle.std.proofs.Common.{◌≡◌, drop}
use Rattle.book_rows.specs.Placed.{found_in}
use Rattle.book_rows.proofs.Placing.{behind}
use Rattle.book_rows.proofs.values.found_in.Given as goal

abbrev pub invariant-loop-place : goal.invariant-loop-place
invariant-loop-place l =
    found_in l.cols l.col ≡ behind l.place (found_in (drop l.place l.cols) l.col)
