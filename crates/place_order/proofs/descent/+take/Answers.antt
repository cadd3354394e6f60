use Rattle.std.proofs.Common.{◌∙◌, sym, arith, inl, inr}
use Rattle.place_order.specs.Orders.{by_rank}
use Rattle.place_order.proofs.Laid.{no_places}
use Rattle.place_order.proofs.Ranked.{ranks_total}
use Rattle.place_order.proofs.Taken.{take_left, take_none, take_right, take_root}
use Rattle.place_order.proofs.Ways.{cut_here, cut_left, cut_none, cut_right, none_long}
use Rattle.place_order.proofs.descent.+take.Goals as goal

pub returns-then-root-eq-NONE-clause-made : goal.returns-then-root-eq-NONE-clause-made
returns-then-root-eq-NONE-clause-made g t c =
    λ places tree sorted few.
    take_none (by_rank (g.R.PlaceRanks.rank c.args.ranks.now))
    (ranks_total (g.R.PlaceRanks.rank c.args.ranks.now)) c.args.at c.args.nodes.now.items
    c.args.root places
    (elim c.then-root-eq-NONE.either [
      | inl e ↦ no_places c.args.nodes.now.items c.args.root places e tree
      | inr e ↦ none_long places (omega (arith, e.1, few))
    ]) tree

pub returns-then-root-at-clause-made : goal.returns-then-root-at-clause-made
returns-then-root-at-clause-made g t c =
    λ places tree sorted few.
    take_root (by_rank (g.R.PlaceRanks.rank c.args.ranks.now))
    (ranks_total (g.R.PlaceRanks.rank c.args.ranks.now)) c.args.at c.args.nodes.now.items
    c.args.nodes.now.items c.merged-tree.new.nodes.items c.args.root c.args.most
    c.merged-tree.result.root c.node_at-node.result c.node_at-node.ensures
    c.if-root-eq-NONE.false places tree sorted few c.if-root-at.true c.merged-tree.ensures.made

pub returns-then-root-eq-NONE-clause-cut : goal.returns-then-root-eq-NONE-clause-cut
returns-then-root-eq-NONE-clause-cut g t c =
    λ places tree sorted few. cut_none (by_rank (g.R.PlaceRanks.rank c.args.ranks.now))
    (ranks_total (g.R.PlaceRanks.rank c.args.ranks.now)) c.args.at c.args.nodes.now.items
    c.args.root c.args.most c.args.none c.args.none places
    (elim c.then-root-eq-NONE.either [
      | inl e ↦ no_places c.args.nodes.now.items c.args.root places e tree
      | inr e ↦ none_long places (omega (arith, e.1, few))
    ])

pub returns-then-root-at-clause-cut : goal.returns-then-root-at-clause-cut
returns-then-root-at-clause-cut g t c =
    λ places tree sorted few. cut_here (by_rank (g.R.PlaceRanks.rank c.args.ranks.now))
    (ranks_total (g.R.PlaceRanks.rank c.args.ranks.now)) c.args.at c.args.nodes.now.items
    c.args.root c.args.most c.args.none c.last_in-before.result places c.node_at-node.result
    c.node_at-node.ensures c.if-root-eq-NONE.false tree sorted few c.if-root-at.true
    c.last_in-before.ensures

pub returns-in-Greater-clause-made : goal.returns-in-Greater-clause-made
returns-in-Greater-clause-made g t c =
    λ places tree sorted few.
    take_right (by_rank (g.R.PlaceRanks.rank c.args.ranks.now))
    (ranks_total (g.R.PlaceRanks.rank c.args.ranks.now)) c.args.at c.args.nodes.now.items
    c.take-before.new.nodes.items c.settled-tree.new.nodes.items c.args.root c.args.most
    c.settled-tree.result.root c.node_at-node.result c.node_at-node.ensures
    c.if-root-eq-NONE.false places tree sorted few c.take-before.result.tree.root
    c.if-root-at.false (sym c.order.ensures ∙ c.in-Greater.is) c.take-before.ensures.made
    c.settled-tree.ensures.made

pub returns-in_default-clause-made : goal.returns-in_default-clause-made
returns-in_default-clause-made g t c =
    λ places tree sorted few.
    take_left (by_rank (g.R.PlaceRanks.rank c.args.ranks.now))
    (ranks_total (g.R.PlaceRanks.rank c.args.ranks.now)) c.args.at c.args.nodes.now.items
    c.take-before-in_default.new.nodes.items c.settled-tree-in_default.new.nodes.items c.args.root
    c.args.most c.settled-tree-in_default.result.root c.node_at-node.result c.node_at-node.ensures
    c.if-root-eq-NONE.false places tree sorted few c.take-before-in_default.result.tree.root
    c.if-root-at.false (λ e. c.in_default.not-Greater (c.order.ensures ∙ e))
    c.take-before-in_default.ensures.made c.settled-tree-in_default.ensures.made

pub returns-in-Greater-clause-cut : goal.returns-in-Greater-clause-cut
returns-in-Greater-clause-cut g t c =
    λ places tree sorted few. cut_right (by_rank (g.R.PlaceRanks.rank c.args.ranks.now))
    (ranks_total (g.R.PlaceRanks.rank c.args.ranks.now)) c.args.at c.args.nodes.now.items
    c.args.root c.args.most c.args.none c.take-before.result.before places c.node_at-node.result
    c.node_at-node.ensures c.if-root-eq-NONE.false tree sorted few
    (sym c.order.ensures ∙ c.in-Greater.is) c.take-before.ensures.cut

pub returns-in_default-clause-cut : goal.returns-in_default-clause-cut
returns-in_default-clause-cut g t c =
    λ places tree sorted few. cut_left (by_rank (g.R.PlaceRanks.rank c.args.ranks.now))
    (ranks_total (g.R.PlaceRanks.rank c.args.ranks.now)) c.args.at c.args.nodes.now.items
    c.args.root c.args.most c.args.none c.take-before-in_default.result.before places
    c.node_at-node.result c.node_at-node.ensures c.if-root-eq-NONE.false tree sorted few
    (λ e. c.in_default.not-Greater (c.order.ensures ∙ e)) c.take-before-in_default.ensures.cut
