use Rattle.std.proofs.Common.{◌<◌, ap, sym, subst, arith}
use Rattle.place_order.specs.Chains.{walked}
use Rattle.place_order.specs.Kept.{AreKept}
use Rattle.place_order.specs.Orders.{IsInserted, Ordered, by_rank}
use Rattle.place_order.proofs.Chained.{length-walked}
use Rattle.place_order.proofs.Keeping.{AreKeptNow, few_below, few_of, was_put}
use Rattle.place_order.proofs.Ranked.{ranks_total}
use Rattle.place_order.proofs.order.PlaceOrder.insert.Given.{Over}
use Rattle.place_order.proofs.order.PlaceOrder.insert.Goals as goal

pub link-requires-clause-len : goal.link-requires-clause-len
link-requires-clause-len g c =
    let few = few_below c.self.inside.room
    (walked c.self.inside.chain.nexts.items c.self.inside.chain.first c.self.inside.chain.len)
    c.self.invariant.distinct c.self.invariant.below in
    let long = length-walked c.self.inside.chain.nexts.items c.self.inside.chain.first
    c.self.inside.chain.len in
    omega (arith, few, long, c.self.invariant.small)

now : (g : Over) (c : goal.After-link g)
    → AreKeptNow (by_rank (g.R.PlaceRanks.rank c.args.ranks.now)) c.insert-before.new.self.nodes
    c.insert-before.new.self.root c.link.new.self.nexts c.link.new.self.first c.link.new.self.len
    c.self.inside.room (IsInserted c.args.at c.args.self.now.places)
now g c =
    let rank = g.R.PlaceRanks.rank c.args.ranks.now in
    let same = ap (λ (order : Ordered). order.places) c.self.view_is in
    let kept = subst (λ xs. AreKept c.self.inside.tree.nodes c.self.inside.tree.root
    c.self.inside.chain.nexts c.self.inside.chain.first xs c.self.inside.room) same
    c.self.invariant in
    let few = few_of c.self.inside.chain.nexts.items c.self.inside.chain.first
    c.self.inside.chain.len c.args.self.now.places same in
    let within : c.args.at < c.self.inside.room =
    subst (λ n. c.args.at < n) (sym (ap (λ (order : Ordered). order.room) c.self.view_is))
    c.requires.room in
    was_put (by_rank rank) (ranks_total rank) c.args.at c.self.inside.tree.nodes
    c.insert-before.new.self.nodes c.self.inside.tree.root c.insert-before.new.self.root
    c.self.inside.chain.nexts c.link.new.self.nexts c.self.inside.chain.first
    c.link.new.self.first c.self.inside.chain.len c.link.new.self.len c.self.inside.room
    c.insert-before.result c.args.self.now.places same kept c.requires.ordered
    (c.insert-before.ensures.cut c.args.self.now.places kept.tree c.requires.ordered few)
    c.insert-before.ensures.space c.link.ensures.space c.requires.apart within
    (c.insert-before.ensures.tree c.args.self.now.places kept.tree c.requires.ordered
    c.requires.apart few) c.link.ensures.chain c.link.ensures.len

pub invariant_of-self : goal.invariant_of-self
invariant_of-self g c = (now g c).kept

pub returns-clause-inserted : goal.returns-clause-inserted
returns-clause-inserted g c = (now g c).changed

pub returns-clause-ordered : goal.returns-clause-ordered
returns-clause-ordered g c = (now g c).ordered
