use Rattle.std.proofs.Common.{◌∙◌, sym, arith, inl, inr}
use Rattle.place_order.specs.Orders.{by_rank}
use Rattle.place_order.proofs.Laid.{no_places}
use Rattle.place_order.proofs.Ranked.{ranks_total}
use Rattle.place_order.proofs.Ways.{cut_left, cut_none, cut_right, none_long, put_left}
use Rattle.place_order.proofs.Ways.{put_none, put_right}
use Rattle.place_order.proofs.descent.+put.Goals as goal

pub returns-then-root-eq-NONE-clause-made : goal.returns-then-root-eq-NONE-clause-made
returns-then-root-eq-NONE-clause-made g t c =
    λ places tree sorted own place few.
    put_none (by_rank (g.R.PlaceRanks.rank c.args.ranks.now))
    (ranks_total (g.R.PlaceRanks.rank c.args.ranks.now)) c.args.at c.args.nodes.now.items
    c.join-high.new.nodes.items places
    (elim c.then-root-eq-NONE.either [
      | inl e ↦ no_places c.args.nodes.now.items c.args.root places e tree
      | inr e ↦ none_long places (omega (arith, e.1, few))
    ]) c.join-high.ensures.joined place

pub returns-then-root-eq-NONE-clause-cut : goal.returns-then-root-eq-NONE-clause-cut
returns-then-root-eq-NONE-clause-cut g t c =
    λ places tree sorted few. cut_none (by_rank (g.R.PlaceRanks.rank c.args.ranks.now))
    (ranks_total (g.R.PlaceRanks.rank c.args.ranks.now)) c.args.at c.args.nodes.now.items
    c.args.root c.args.most c.args.none c.args.none places
    (elim c.then-root-eq-NONE.either [
      | inl e ↦ no_places c.args.nodes.now.items c.args.root places e tree
      | inr e ↦ none_long places (omega (arith, e.1, few))
    ])

pub returns-in-Greater-clause-made : goal.returns-in-Greater-clause-made
returns-in-Greater-clause-made g t c =
    λ places tree sorted own place few.
    put_right (by_rank (g.R.PlaceRanks.rank c.args.ranks.now))
    (ranks_total (g.R.PlaceRanks.rank c.args.ranks.now)) c.args.at c.args.nodes.now.items
    c.put-before.new.nodes.items c.settled-tree.new.nodes.items c.args.root c.args.most
    c.settled-tree.result.root c.node_at-node.result c.node_at-node.ensures
    c.if-root-eq-NONE.false places tree sorted own place few c.put-before.result.tree.root
    (sym c.order.ensures ∙ c.in-Greater.is) c.put-before.ensures.made c.settled-tree.ensures.made

pub returns-in_default-clause-made : goal.returns-in_default-clause-made
returns-in_default-clause-made g t c =
    λ places tree sorted own place few.
    put_left (by_rank (g.R.PlaceRanks.rank c.args.ranks.now))
    (ranks_total (g.R.PlaceRanks.rank c.args.ranks.now)) c.args.at c.args.nodes.now.items
    c.put-before-in_default.new.nodes.items c.settled-tree-in_default.new.nodes.items c.args.root
    c.args.most c.settled-tree-in_default.result.root c.node_at-node.result c.node_at-node.ensures
    c.if-root-eq-NONE.false places tree sorted own place few
    c.put-before-in_default.result.tree.root
    (λ e. c.in_default.not-Greater (c.order.ensures ∙ e)) c.put-before-in_default.ensures.made
    c.settled-tree-in_default.ensures.made

pub returns-in-Greater-clause-cut : goal.returns-in-Greater-clause-cut
returns-in-Greater-clause-cut g t c =
    λ places tree sorted few. cut_right (by_rank (g.R.PlaceRanks.rank c.args.ranks.now))
    (ranks_total (g.R.PlaceRanks.rank c.args.ranks.now)) c.args.at c.args.nodes.now.items
    c.args.root c.args.most c.args.none c.put-before.result.before places c.node_at-node.result
    c.node_at-node.ensures c.if-root-eq-NONE.false tree sorted few
    (sym c.order.ensures ∙ c.in-Greater.is) c.put-before.ensures.cut

pub returns-in_default-clause-cut : goal.returns-in_default-clause-cut
returns-in_default-clause-cut g t c =
    λ places tree sorted few. cut_left (by_rank (g.R.PlaceRanks.rank c.args.ranks.now))
    (ranks_total (g.R.PlaceRanks.rank c.args.ranks.now)) c.args.at c.args.nodes.now.items
    c.args.root c.args.most c.args.none c.put-before-in_default.result.before places
    c.node_at-node.result c.node_at-node.ensures c.if-root-eq-NONE.false tree sorted few
    (λ e. c.in_default.not-Greater (c.order.ensures ∙ e)) c.put-before-in_default.ensures.cut
