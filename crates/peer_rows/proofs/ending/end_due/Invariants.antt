use Rattle.std.proofs.Common.{◌≡◌, ℕ, true, length}
use Rattle.std.specs.Prelude.{◌⊎◌}
use Rattle.place_plans.specs.Plans.{count_due, is_due, plan_at}
use Rattle.peer_rows.specs.Ends.{AreLive, ArePlanned, StayLive, rows_at}
use Rattle.place_index.specs.Places.{in_order}
use Rattle.peer_rows.specs.Table.{IsKept}
use Rattle.peer_rows.proofs.ending.end_due.Given as goal

abbrev pub invariant-loop-at : goal.invariant-loop-at
invariant-loop-at l = record {
  kept : IsKept (in_order l.keys.places) l.counts.items;
  peers : length l.counts.items ≡ length l.fn.counts.items;
  rows : StayLive l.t l.fn.keys.places l.keys.places;
  planned : ArePlanned l.keys.places l.ends;
  due : (p : ℕ) → AreLive l.t (rows_at l.keys.places p)
      ⊎ (is_due l.t (plan_at l.ends.plans p) ≡ true);
}

abbrev pub decreases-loop-at : goal.decreases-loop-at
decreases-loop-at l = count_due l.t l.ends.plans
