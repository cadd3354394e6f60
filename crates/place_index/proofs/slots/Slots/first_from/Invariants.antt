use Rattle.std.proofs.Common.{◌≡◌, ◌<◌, ◌≤◌, ℕ, None}
use Rattle.place_index.specs.Places.{item_at}
use Rattle.place_index.specs.Slots.{held}
use Rattle.place_index.proofs.slots.Slots.first_from.Given as goal

abbrev pub invariant-loop-at : goal.invariant-loop-at
invariant-loop-at g l =
    (q : ℕ) → l.from ≤ q → q < l.at → item_at (held g.K.IndexKey.is_blank l.self) q ≡ None
