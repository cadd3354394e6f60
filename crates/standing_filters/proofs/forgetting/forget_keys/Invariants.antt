use Rattle.std.proofs.Common.{◌≡◌, ℕ, false, List, drop}
use Rattle.standing_filters.specs.Flips.{TellsAt}
use Rattle.standing_filters.specs.Plans.{IsWatch, kept_by}
use Rattle.standing_filters.specs.Watched.{verdict_at}
use Rattle.standing_filters.proofs.Forgotten.{verdict_left}
use Rattle.standing_filters.proofs.forgetting.forget_keys.Given as goal

abbrev pub invariant-loop-key : goal.invariant-loop-key
invariant-loop-key l = record {
  watch : IsWatch l.watch;
  filter : l.watch.filter ≡ l.fn.watch.filter;
  kept : (q : List ℕ) → verdict_left (drop l.key-index l.keys) (kept_by l.watch) q
      ≡ verdict_left l.keys (kept_by l.fn.watch) q;
  flips : l.flips.lost ≡ false → TellsAt l.at (λ key. (verdict_at (kept_by l.fn.watch) key).holds)
      (λ key. (verdict_at (kept_by l.watch) key).holds) l.fn.flips l.flips;
}
