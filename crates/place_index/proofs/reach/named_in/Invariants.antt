use Rattle.std.proofs.Common.{◌≡◌, ◌<◌, ℕ, Some, slice_get}
use Rattle.place_index.specs.Places.{key_at}
use Rattle.place_index.specs.Slots.{held}
use Rattle.hash_windows.specs.Windows.{word_of}
use Rattle.place_index.proofs.reach.named_in.Given as goal

abbrev pub invariant-loop-index : goal.invariant-loop-index
invariant-loop-index g l =
    (k at : ℕ) → k < l.index → key_at (held g.K.IndexKey.is_blank l.slots) at ≡ Some l.key
    → slice_get l.window k ≡ Some (word_of l.hash at) → ⊥
