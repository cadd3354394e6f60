use Rattle.standing_filters.specs.Placed.{change_in}
use Rattle.standing_filters.proofs.Planning.{IsFirstBelow}
use Rattle.standing_filters.proofs.kept.KeptVerdicts.first_change.Given as goal

abbrev pub invariant-loop-at : goal.invariant-loop-at
invariant-loop-at l = IsFirstBelow (change_in l.self.places) l.at l.first
