use Rattle.std.proofs.Common.{◌≡◌, max, drop}
use Rattle.fleet_model.specs.Next.{longest_period}
use Rattle.book_frame.proofs.standing.longest_period.Given as goal

abbrev pub invariant-loop-col : goal.invariant-loop-col
invariant-loop-col l = max l.longest (longest_period (drop l._col-index l.cols))
    ≡ longest_period l.cols
