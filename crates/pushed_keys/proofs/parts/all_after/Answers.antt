use Rattle.std.proofs.Common.{◌∙◌, ◌++◌, ◌+◌, ap, drop}
use Rattle.pushed_keys.specs.Packed.{moments}
use Rattle.pushed_keys.proofs.Packing.{moments_on}
use Rattle.pushed_keys.proofs.parts.all_after.Goals as goal

pub loop-put-preserved : goal.loop-put-preserved
loop-put-preserved c =
    ap (λ xs. moments c.args.base xs ++ drop (c.loop-put.put-index + 1) c.args.puts.now)
    c.in_ok-push.ensures.items ∙ moments_on c.args.base c.in-Some.after c.loop-put.afters.items
    c.args.puts.now c.loop-put.put-index c.loop-put-test.true c.in-Some.ensures
    ∙ c.loop-put.invariant
