use Rattle.expiry_wheel.proofs.Firsts.{alone}
use Rattle.expiry_wheel.proofs.together.Together.one.Goals as goal

pub invariant_of-result : goal.invariant_of-result
invariant_of-result g c = alone g.T.Ord.cmp c.args.item c.new.result.keys c.new.ensures.empty
