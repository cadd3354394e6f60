use Rattle.std.proofs.Common.{◌≡◌, ◌<◌, ℕ, Some, slice_get}
use Rattle.place_index.specs.Places.{key_at}
use Rattle.place_index.specs.Slots.{held}
use Rattle.place_index.proofs.reach.loose_in.Given as goal

abbrev pub invariant-loop-index : goal.invariant-loop-index
invariant-loop-index g l =
    (k at : ℕ) → k < l.index → key_at (held g.K.IndexKey.is_blank l.slots) at ≡ Some l.key
    → slice_get l.loose k ≡ Some at → ⊥
