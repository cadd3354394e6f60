use Rattle.std.proofs.Common.{◌∙◌, ◌+◌, ◌%◌, ◌^◌, length, sym}
use Rattle.std.proofs.Math.Nat.{add-mod-mod}
use Rattle.pushed_keys.proofs.Left.{last_counts}
use Rattle.pushed_keys.proofs.done.last_behind.Goals as goal

pub returns : goal.returns
returns c =
    (λ i. (c.from.ensures i + c.len.ensures i % 2 ^ 32) % 2 ^ 32)
    ∙ add-mod-mod c.args.last (length c.args.changes.now) (2 ^ 32)
    ∙ sym (last_counts c.args.last c.args.changes.now c.ranges.last.fits)
