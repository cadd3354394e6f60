use Rattle.std.proofs.Common.{◌≡◌, ◌++◌}
use Rattle.std.specs.Prelude.{filter, map}
use Rattle.book_rows.specs.Listing.{rows_meet}
use Rattle.book_machine.proofs.clears.kept_keys.Given as goal

-- what is kept, and what is still to be kept
abbrev pub invariant-loop-key : goal.invariant-loop-key
invariant-loop-key l =
    l.keys.items ++ map (λ e. e.0) (filter (λ e. rows_meet l.cols l.conds l.t e.1) l.key-iterator)
    ≡ map (λ e. e.0) (filter (λ e. rows_meet l.cols l.conds l.t e.1) l.fn.walk)
