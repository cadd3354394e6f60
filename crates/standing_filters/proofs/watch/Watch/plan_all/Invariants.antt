use Rattle.std.proofs.Common.{◌≡◌, ◌<◌, ◌≤◌, ℕ, None, false}
use Rattle.place_plans.specs.Plans.{plan_at}
use Rattle.standing_filters.specs.Placed.{change_in}
use Rattle.standing_filters.proofs.watch.Watch.plan_all.Given as goal

abbrev pub invariant-loop-at : goal.invariant-loop-at
invariant-loop-at l = record {
  filter : l.self-inside.filter ≡ l.fn.self.filter;
  places : l.self-inside.kept.places ≡ l.fn.self.places;
  room : l.self-inside.kept.room ≡ l.fn.self.room;
  planned : l.self-inside.plans.lost ≡ false → (p : ℕ) → p < l.at
      → plan_at l.self-inside.plans.moments p ≡ change_in l.fn.self.places p;
  others : l.self-inside.plans.lost ≡ false → (p : ℕ) → l.at ≤ p
      → plan_at l.self-inside.plans.moments p ≡ None;
}
