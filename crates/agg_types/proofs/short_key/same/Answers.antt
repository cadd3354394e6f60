use Rattle.std.proofs.Common.{◌∙◌, sym, ap}
use Rattle.std.specs.Ordering.{is_eq}
use Rattle.agg_types.proofs.Numbers.{ranked_as_numbers, tied_numbers}
use Rattle.agg_types.proofs.short_key.same.Goals as goal

pub returns : goal.returns
returns c =
    rw (c.from_be_bytes.ensures, c.from_be_bytes-2.ensures) (sym (tied_numbers _ _)
    ∙ ap is_eq (ranked_as_numbers c.args.left.now c.args.right.now c.told-left c.told-right
    c.fits-left c.fits-right))
