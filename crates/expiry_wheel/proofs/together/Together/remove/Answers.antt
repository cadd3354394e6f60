use Rattle.std.proofs.Common.{subst, sym}
use Rattle.std.specs.BTreeMap.{is_at}
use Rattle.expiry_wheel.specs.Items.{AreTogether}
use Rattle.expiry_wheel.proofs.Firsts.{next_first, without_other}
use Rattle.expiry_wheel.proofs.together.Together.remove.Given as given
use Rattle.expiry_wheel.proofs.together.Together.remove.Goals as goal

pub invariant_of-self : goal.invariant_of-self
invariant_of-self g c =
    let e = c.pop_first.ensures in
    next_first g.T.Ord.cmp c.self.inside.first c.self.inside.others.keys c.self.invariant
    c.pop_first.result c.pop_first.new.self.keys e.variant e.removal e.unchanged

pub returns-then-eq-clause-ordered : goal.returns-then-eq-clause-ordered
returns-then-eq-clause-ordered g c =
    let e = c.pop_first.ensures in
    (next_first g.T.Ord.cmp c.self.inside.first c.self.inside.others.keys c.self.invariant
    c.pop_first.result c.pop_first.new.self.keys e.variant e.removal e.unchanged).ordered

left : (g : given.Over) (c : goal.After-remove g)
    → AreTogether g.T.Ord.cmp c.self.inside.first c.remove.new.self.keys
left g c =
    subst (AreTogether g.T.Ord.cmp c.self.inside.first) (sym c.remove.ensures.keys)
    (without_other g.T.Ord.cmp (is_at (g.T.Ord.cmp c.args.item.now)) c.self.inside.first
    c.self.inside.others.keys c.self.invariant)

pub invariant_of-self-2 : goal.invariant_of-self-2
invariant_of-self-2 g c = left g c

pub returns-clause-ordered : goal.returns-clause-ordered
returns-clause-ordered g c = (left g c).ordered
