use Rattle.std.proofs.Common.{subst}
use Rattle.place_order.specs.Orders.{AreDistinct, Ordered}
use Rattle.place_order.proofs.order.PlaceOrder.iter.Goals as goal

pub returns-clause-distinct : goal.returns-clause-distinct
returns-clause-distinct c =
    subst (λ (order : Ordered). AreDistinct order.places) c.self.view_is
    c.self.invariant.distinct
