use Rattle.std.proofs.Common.{arith}
use Rattle.fleet_sums.proofs.Columns.{get_or-totals_less}
use Rattle.fleet_sums.proofs.key_sums.replace_counts.Goals as goal

pub add_counts-requires-clause-room : goal.add_counts-requires-clause-room
add_counts-requires-clause-room c =
    rw c.take_counts.ensures (λ col. rw get_or-totals_less (c.requires.room col))

pub returns-clause-bound : goal.returns-clause-bound
returns-clause-bound c = λ col.
    let bound = rw (c.take_counts.ensures, get_or-totals_less)
    at (c.add_counts.ensures.bound col) in
    omega (arith, bound)
