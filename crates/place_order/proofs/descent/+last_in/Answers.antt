use Rattle.std.proofs.Common.{arith, inl, inr}
use Rattle.place_order.proofs.Laid.{no_places}
use Rattle.place_order.proofs.Ways.{last_none, last_right, none_long}
use Rattle.place_order.proofs.descent.+last_in.Goals as goal

pub returns-then-root-eq-NONE : goal.returns-then-root-eq-NONE
returns-then-root-eq-NONE t c =
    λ places tree few. last_none c.args.nodes.now.items c.args.root c.args.none c.args.none places
    (elim c.then-root-eq-NONE.either [
      | inl e ↦ no_places c.args.nodes.now.items c.args.root places e tree
      | inr e ↦ none_long places (omega (arith, e.1, few))
    ])

pub returns : goal.returns
returns t c =
    λ places tree few. last_right c.args.nodes.now.items c.args.root c.args.none c.last_in.result
    places c.args.most c.node_at.result c.node_at.ensures c.if-root-eq-NONE.false tree few
    c.last_in.ensures
