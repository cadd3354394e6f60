use Rattle.place_order.proofs.Taken.{first_left, first_root}
use Rattle.place_order.proofs.descent.+take_first.Goals as goal

pub returns-then-node-clause-made : goal.returns-then-node-clause-made
returns-then-node-clause-made t c =
    λ place places tree d few. first_root c.args.nodes.now.items c.args.root c.args.most
    c.node_at-node.result c.node_at-node.ensures place places tree d few c.then-node.either

pub returns-clause-made : goal.returns-clause-made
returns-clause-made t c =
    λ place places tree d few. first_left c.args.nodes.now.items c.args.root c.args.most
    c.node_at-node.result c.node_at-node.ensures place places tree d few
    c.take_first-first.new.nodes.items c.settled-tree.new.nodes.items c.take_first-first.result.0
    c.take_first-first.result.1.root c.settled-tree.result.root c.if-node.false
    c.take_first-first.ensures.made c.settled-tree.ensures.made
