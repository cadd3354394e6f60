use Rattle.std.proofs.Common.{None, ap, sym}
use Rattle.std.specs.Option.{option_map}
use Rattle.place_index.specs.Places.{in_order}
use Rattle.ranked.proofs.Indexed.{Becomes, dropped_indexed}
use Rattle.ranked.proofs.Placed.{becomes_others, becomes_own, placed-emptied}
use Rattle.ranked.specs.Walk.{bound_of}
use Rattle.ranked.proofs.bounds.Bounds.drop_key.Goals as goal

-- the key has no bound any more
dropped : (c : goal.After-cancel) → Becomes (in_order c.self.inside.zeros.places)
    (in_order c.remove.new.self.places) c.args.key.now None
dropped c = placed-emptied c.self.inside.zeros.places c.remove.new.self.places c.in-Some.at
    c.args.key.now c.in-Some.ensures.distinct c.in-Some.ensures.own c.remove.ensures.after

pub invariant_of-self : goal.invariant_of-self
invariant_of-self c = rw c.cancel.ensures.removed
    (dropped_indexed c.self.inside.index (in_order c.self.inside.zeros.places)
    (in_order c.remove.new.self.places) c.args.key.now c.in-Some.zeros c.self.invariant
    (sym c.in-Some.ensures.value) c.cancel.ensures.ordered (dropped c))

pub returns-in-Some-clause-gone : goal.returns-in-Some-clause-gone
returns-in-Some-clause-gone c = ap (option_map bound_of) (becomes_own _ _ _ _ (dropped c))

pub returns-in-Some-clause-others : goal.returns-in-Some-clause-others
returns-in-Some-clause-others c =
    rw (← c.self.view_is) (becomes_others _ _ _ _ (dropped c))
