use Rattle.std.proofs.Common.{sym, subst}
use Rattle.place_order.specs.Chains.{AreChained}
use Rattle.place_order.proofs.Chained.{behind_first, behind_other}
use Rattle.place_order.proofs.chain.Chain.behind.Goals as goal

pub returns-then-before-eq-NONE : goal.returns-then-before-eq-NONE
returns-then-before-eq-NONE c =
    λ front back chain is. behind_first c.args.self.now.nexts.items c.args.self.now.first
    c.args.before front back chain is c.if-before-eq-NONE.true

pub returns : goal.returns
returns c =
    λ front back chain is. subst (λ p. AreChained c.args.self.now.nexts.items p back)
    (sym c.next_of.ensures)
    (behind_other c.args.self.now.nexts.items c.args.self.now.first c.args.before front back chain
    is c.if-before-eq-NONE.false)
