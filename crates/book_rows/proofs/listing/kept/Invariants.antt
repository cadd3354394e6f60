use Rattle.std.proofs.Common.{◌≡◌, ◌++◌}
use Rattle.std.specs.Prelude.{filter}
use Rattle.book_rows.specs.Listing.{rows_meet}
use Rattle.book_rows.proofs.listing.kept.Given as goal

-- what is kept, and what is still to be kept
abbrev pub invariant-loop-key : goal.invariant-loop-key
invariant-loop-key l =
    l.keys.items ++ filter (λ e. rows_meet l.cols l.conds l.t e.1) l.key-iterator
    ≡ filter (λ e. rows_meet l.cols l.conds l.t e.1) l.fn.walk
