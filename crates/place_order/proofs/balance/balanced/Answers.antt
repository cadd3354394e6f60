use Rattle.place_order.proofs.Laid.{made_joined}
use Rattle.place_order.proofs.balance.balanced.Goals as goal

pub returns-clause-made : goal.returns-clause-made
returns-clause-made c =
    made_joined c.args.nodes.now.items c.join-height.new.nodes.items c.args.left c.args.at
    c.args.right c.join-height.ensures.joined
