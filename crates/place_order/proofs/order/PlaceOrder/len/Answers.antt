use Rattle.std.proofs.Common.{◌∙◌, ap, sym, length}
use Rattle.place_order.specs.Orders.{Ordered}
use Rattle.place_order.proofs.Chained.{length-walked}
use Rattle.place_order.proofs.order.PlaceOrder.len.Goals as goal

pub returns : goal.returns
returns c =
    sym (length-walked c.self.inside.chain.nexts.items c.self.inside.chain.first
    c.self.inside.chain.len) ∙ ap (λ (order : Ordered). length order.places) c.self.view_is
