use Rattle.place_order.proofs.Laid.{made_joined}
use Rattle.place_order.proofs.Turned.{raised_right, turned_right}
use Rattle.place_order.proofs.balance.from_left.Goals as goal

pub returns-then-left-eq-NONE-clause-made : goal.returns-then-left-eq-NONE-clause-made
returns-then-left-eq-NONE-clause-made c =
    made_joined c.args.nodes.now.items c.join-height.new.nodes.items c.args.left c.args.at
    c.args.right c.join-height.ensures.joined

pub returns-then-top-clause-made : goal.returns-then-top-clause-made
returns-then-top-clause-made c =
    λ ls rs l r place d. turned_right c.args.nodes.now.items c.join-lower.new.nodes.items
    c.join-height-then-top.new.nodes.items c.args.left c.args.at c.args.right c.node_at-top.result
    ls rs c.node_at-top.ensures c.if-left-eq-NONE.false c.join-lower.ensures.joined
    c.join-height-then-top.ensures.joined l r place d

pub returns-clause-made : goal.returns-clause-made
returns-clause-made c =
    λ ls rs l r place d. raised_right c.args.nodes.now.items c.join-lower-2.new.nodes.items
    c.join-other.new.nodes.items c.join-height-2.new.nodes.items c.args.left c.args.at c.args.right
    c.node_at-top.result c.node_at-middle.result ls rs c.node_at-top.ensures
    c.if-left-eq-NONE.false c.node_at-middle.ensures c.if-top.false c.join-lower-2.ensures.joined
    c.join-other.ensures.joined c.join-height-2.ensures.joined l r place d
