use Rattle.std.proofs.Common.{subst, sym}
use Rattle.expiry_wheel.specs.Items.{AreTogether}
use Rattle.expiry_wheel.proofs.Firsts.{next_first}
use Rattle.expiry_wheel.proofs.together.Together.take_first.Given as given
use Rattle.expiry_wheel.proofs.together.Together.take_first.Goals as goal

next : (g : given.Over) (c : goal.After-replace g)
    → AreTogether g.T.Ord.cmp c.replace.new.dest c.pop_first-second.new.self.keys
next g c =
    let e = c.pop_first-second.ensures in
    subst (λ first. AreTogether g.T.Ord.cmp first c.pop_first-second.new.self.keys)
    (sym c.replace.ensures.after)
    (next_first g.T.Ord.cmp c.self.inside.first c.self.inside.others.keys c.self.invariant
    c.pop_first-second.result c.pop_first-second.new.self.keys e.variant e.removal e.unchanged)

pub invariant_of-self : goal.invariant_of-self
invariant_of-self g c = next g c

pub returns-clause-ordered : goal.returns-clause-ordered
returns-clause-ordered g c = (next g c).ordered
