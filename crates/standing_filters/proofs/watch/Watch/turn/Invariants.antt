use Rattle.std.proofs.Common.{◌≡◌, ◌<◌, ◌≤◌, ℕ, false, List, length}
use Rattle.crossing.specs.First.{IsFlatSoon}
use Rattle.standing_filters.specs.Flips.{TellsAt}
use Rattle.standing_filters.specs.Placed.{verdict_in}
use Rattle.standing_filters.specs.Plans.{IsWatch, kept_by, view_of_watch}
use Rattle.standing_filters.specs.Turns.{is_due}
use Rattle.standing_filters.specs.Watched.{verdict_at}
use Rattle.standing_filters.proofs.OneByOne.{IsTurnedSo, due_count}
use Rattle.standing_filters.proofs.watch.Watch.turn.Given as goal

abbrev pub invariant-loop-at : goal.invariant-loop-at
invariant-loop-at g l = record {
  watch : IsWatch l.self;
  so : IsTurnedSo (g.V.Values.summed l.values) (g.V.Values.living l.values) l.t
      (view_of_watch l.fn.self) (view_of_watch l.self) l.fn.meter.evals l.meter.evals
      ((table : ℕ) (key : List ℕ) → IsFlatSoon l.t (g.V.Values.flat l.values table key));
  flips : l.flips.lost ≡ false → TellsAt l.place
      (λ key. (verdict_at (kept_by l.fn.self) key).holds)
      (λ key. (verdict_at (kept_by l.self) key).holds) l.fn.flips l.flips;
}

abbrev pub decreases-loop-at : goal.decreases-loop-at
decreases-loop-at g l = due_count l.t l.self.places

abbrev pub invariant-loop-other : goal.invariant-loop-other
invariant-loop-other g l = record {
  watch : IsWatch l.self;
  so : IsTurnedSo (g.V.Values.summed l.values) (g.V.Values.living l.values) l.t
      (view_of_watch l.fn.self) (view_of_watch l.self) l.fn.meter.evals l.meter.evals
      ((table : ℕ) (key : List ℕ) → IsFlatSoon l.t (g.V.Values.flat l.values table key));
  flips : l.flips.lost ≡ false → TellsAt l.place
      (λ key. (verdict_at (kept_by l.fn.self) key).holds)
      (λ key. (verdict_at (kept_by l.self) key).holds) l.fn.flips l.flips;
  bound : length l.self.places ≤ l.count;
  turned : (p : ℕ) → p < l.other → is_due l.t (verdict_in l.self.places p) ≡ false;
}
