use Rattle.std.proofs.Common.{subst}
use Rattle.place_order.specs.Chains.{IsLed}
use Rattle.place_order.proofs.Chained.{unlinked}
use Rattle.place_order.proofs.chain.Chain.unlink.Goals as goal

pub returns-clause-chain : goal.returns-clause-chain
returns-clause-chain c =
    unlinked c.args.self.now.nexts.items c.lead.new.self.nexts.items c.args.self.now.first
    c.lead.new.self.first c.args.before c.args.at
    (subst (λ to. IsLed c.args.self.now.nexts.items c.lead.new.self.nexts.items
    c.args.self.now.first c.lead.new.self.first c.args.before to) c.next_of-next.ensures
    c.lead.ensures.led)
