use Rattle.std.proofs.Common.{◌≡◌, ◌<◌, ◌^◌}
use Rattle.update_values.specs.Lack.{bits_where, is_not_kept}
use Rattle.update_values.proofs.lack.types_not_kept.Given as goal

abbrev pub invariant-loop-kind : goal.invariant-loop-kind
invariant-loop-kind l =
    (l.bits ≡ bits_where (is_not_kept l.layout l.shape.cols) l.kind) × (l.bits < 2 ^ l.kind)
