use Rattle.place_order.proofs.Laid.{already_joined, made_joined}
use Rattle.place_order.proofs.balance.settled.Goals as goal

pub returns-then-right-node-clause-made : goal.returns-then-right-node-clause-made
returns-then-right-node-clause-made c =
    λ is. made_joined c.args.nodes.now.items c.args.nodes.now.items c.args.left c.args.at
    c.args.right (already_joined c.args.nodes.now.items c.args.node.now c.args.left c.args.at
    c.args.right c.if-left-node.true c.if-right-node.true is)
