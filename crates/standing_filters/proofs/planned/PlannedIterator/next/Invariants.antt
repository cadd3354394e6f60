use Rattle.std.proofs.Common.{◌≡◌, length}
use Rattle.standing_filters.specs.Placed.{verdicts_in}
use Rattle.standing_filters.specs.Plans.{changes_of}
use Rattle.standing_filters.proofs.planned.PlannedIterator.next.Given as goal

abbrev pub invariant-loop-at : goal.invariant-loop-at
invariant-loop-at l = changes_of (verdicts_in l.self-inside.verdicts.now.places l.self-inside.order)
    ≡ l.fn.self

abbrev pub decreases-loop-at : goal.decreases-loop-at
decreases-loop-at l = length l.self-inside.order
