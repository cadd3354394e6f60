use Rattle.std.proofs.Common.{ℕ, List, subst}
use Rattle.standing_filters.proofs.Said.{tells_none}
use Rattle.standing_filters.specs.Flips.{holding}
use Rattle.standing_filters.specs.Watched.{AreForgotten, is_among}
use Rattle.book.proofs.Judging.{none_forgotten}
use Rattle.book.proofs.forgetting.forget.Goals as goal

pub returns-in-Nothing-clause-forgotten : goal.returns-in-Nothing-clause-forgotten
returns-in-Nothing-clause-forgotten c =
    rw c.in-Nothing.is (none_forgotten c.args.table c.args.standing.now.filters)

pub returns-in-Nothing-clause-flips : goal.returns-in-Nothing-clause-flips
returns-in-Nothing-clause-flips c = λ known.
    tells_none (holding c.args.standing.now.filters) c.args.flips.now known

pub returns-in-Table-clause-forgotten : goal.returns-in-Table-clause-forgotten
returns-in-Table-clause-forgotten c = rw c.in-Table.is c.clear_table.ensures

pub returns-in-Keys-clause-forgotten : goal.returns-in-Keys-clause-forgotten
returns-in-Keys-clause-forgotten c =
    rw c.in-Keys.is
    (subst (λ (keys : List (List ℕ)). AreForgotten c.args.table (is_among keys)
    c.args.standing.now.filters c.forget.new.self.filters) c.as_slice.ensures.value
    c.forget.ensures.forgotten)
