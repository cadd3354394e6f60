use Rattle.expiry_wheel.proofs.Slotted.{empty_wheel}
use Rattle.expiry_wheel.proofs.wheel.Wheel.new.Goals as goal

pub invariant_of-result : goal.invariant_of-result
invariant_of-result g c = empty_wheel g.T.Ord.cmp c.args.now c.new.result c.in_ok-new.field-0
    c.new.ensures c.in_ok-new.ensures.complete c.in_ok-new.ensures.none
