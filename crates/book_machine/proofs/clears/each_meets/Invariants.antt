use Rattle.std.proofs.Common.{◌≡◌}
use Rattle.std.specs.Prelude.{filter}
use Rattle.book_rows.specs.Listing.{rows_meet}
use Rattle.book_machine.proofs.clears.each_meets.Given as goal

-- if all that is left meets the conditions, all does
abbrev pub invariant-loop-key : goal.invariant-loop-key
invariant-loop-key l =
    filter (λ e. rows_meet l.cols l.conds l.t e.1) l.key-iterator ≡ l.key-iterator
    → filter (λ e. rows_meet l.cols l.conds l.t e.1) l.fn.walk ≡ l.fn.walk
