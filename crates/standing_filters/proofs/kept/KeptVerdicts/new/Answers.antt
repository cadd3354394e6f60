use Rattle.std.proofs.Common.{◌+◌, ◌≤◌, List, [], ℕ, length, sym, subst, arith}
use Rattle.standing_filters.specs.Placed.{AreOrdered, VerdictPlaces}
use Rattle.standing_filters.proofs.Ordered.{ordered_none}
use Rattle.standing_filters.proofs.kept.KeptVerdicts.new.Goals as goal

pub invariant_of-result : goal.invariant_of-result
invariant_of-result c = (
  subst (λ (l : VerdictPlaces). AreOrdered l c.new-2.result.places) (sym c.new.ensures.places)
      (subst (λ (o : List ℕ). AreOrdered [] o) (sym c.new-2.ensures.places) ordered_none),
  omega arith,
  subst (λ (l : VerdictPlaces). length l + 0 ≤ c.new-2.result.room) (sym c.new.ensures.places)
      (omega arith),
)
