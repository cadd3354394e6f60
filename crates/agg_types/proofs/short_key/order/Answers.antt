use Rattle.std.proofs.Common.{ap}
use Rattle.std.specs.Ordering.{ordering_then}
use Rattle.agg_types.proofs.Numbers.{ranked_as_numbers}
use Rattle.agg_types.proofs.short_key.order.Goals as goal

pub returns : goal.returns
returns c =
    rw (c.compare.ensures, c.from_be_bytes.ensures, c.from_be_bytes-2.ensures)
    (ap (λ o. ordering_then o c.args.tie) (ranked_as_numbers c.args.left.now c.args.right.now
    c.told-left c.told-right c.fits-left c.fits-right))
