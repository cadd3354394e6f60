use Rattle.std.proofs.Common.{arith}
use Rattle.place_order.proofs.Keeping.{kept_more}
use Rattle.place_order.proofs.order.PlaceOrder.reserve.Goals as goal

pub invariant_of-self-2 : goal.invariant_of-self-2
invariant_of-self-2 c =
    kept_more c.self.inside.tree.nodes c.reserve.new.self.nodes c.self.inside.tree.root
    c.reserve.new.self.root c.self.inside.chain.nexts c.reserve-2.new.self.nexts
    c.self.inside.chain.first c.reserve-2.new.self.first c.self.inside.chain.len
    c.reserve-2.new.self.len c.self.inside.room c.args.places c.self.invariant
    c.in_ok-reserve.ensures.items c.in_ok-reserve.ensures.root c.in_ok-reserve-2.ensures.items
    c.in_ok-reserve-2.ensures.first c.in_ok-reserve-2.ensures.len (omega arith)
    c.in_ok-reserve.ensures.ok c.in_ok-reserve-2.ensures.ok (omega arith)
