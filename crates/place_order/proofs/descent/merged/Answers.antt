use Rattle.place_order.proofs.Taken.{merged_none, merged_some}
use Rattle.place_order.proofs.descent.merged.Goals as goal

pub returns-then-node-clause-made : goal.returns-then-node-clause-made
returns-then-node-clause-made c =
    λ ls rs l r d few. merged_none c.args.nodes.now.items c.args.node.now.left
    c.args.node.now.right c.args.most ls l rs c.if-node.true r

pub returns-clause-made : goal.returns-clause-made
returns-clause-made c =
    λ ls rs l r d few. merged_some c.args.nodes.now.items c.args.node.now.left
    c.args.node.now.right c.args.most ls l c.take_first-first.new.nodes.items
    c.balanced-top.new.nodes.items c.take_first-first.result.0 c.take_first-first.result.1.root
    c.balanced-top.result.root rs c.if-node.false r d few c.take_first-first.ensures.made
    c.balanced-top.ensures.made
