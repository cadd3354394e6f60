use Rattle.std.proofs.Common.{◌≡◌, ◌<◌, ◌≤◌, ℕ, true, length}
use Rattle.place_plans.specs.Plans.{plan_at}
use Rattle.peer_rows.specs.Ends.{IsLookedAt, IsPlanned, StayLive, rows_at}
use Rattle.place_index.specs.Places.{in_order}
use Rattle.peer_rows.specs.Table.{IsKept}
use Rattle.peer_rows.proofs.ending.end_all.Given as goal

abbrev pub invariant-loop-at : goal.invariant-loop-at
invariant-loop-at l = record {
  kept : IsKept (in_order l.keys.places) l.counts.items;
  peers : length l.counts.items ≡ length l.fn.counts.items;
  rows : StayLive l.t l.fn.keys.places l.keys.places;
  looked : (p : ℕ) → p < l.at → IsLookedAt l.t l.ends l.keys.places p;
  still : (p : ℕ) → l.at ≤ p → rows_at l.keys.places p ≡ rows_at l.fn.keys.places p;
  planned : (p : ℕ) → IsPlanned true (rows_at l.keys.places p) (plan_at l.ends.plans p);
}
