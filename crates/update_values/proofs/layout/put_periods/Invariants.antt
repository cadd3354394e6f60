use Rattle.std.proofs.Common.{◌≡◌, drop, length}
use Rattle.update_values.specs.Layout.{periods_after}
use Rattle.update_values.proofs.layout.put_periods.Given as goal

abbrev pub invariant-loop-id : goal.invariant-loop-id
invariant-loop-id l =
    (length l.periods ≡ length l.fn.periods)
    × (periods_after l.periods (drop l.id-index l.pairs) ≡ periods_after l.fn.periods l.pairs)
