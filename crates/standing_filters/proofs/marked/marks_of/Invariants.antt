use Rattle.standing_filters.specs.Marked.{AreMarkedUpTo}
use Rattle.standing_filters.proofs.marked.marks_of.Given as goal

abbrev pub invariant-loop-at : goal.invariant-loop-at
invariant-loop-at l = AreMarkedUpTo l.at l.marks l.verdicts.places
