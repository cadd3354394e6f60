use Rattle.place_order.proofs.Laid.{all_same, tree_kept}
use Rattle.place_order.proofs.tree.Tree.insert.Goals as goal

pub returns-clause-tree : goal.returns-clause-tree
returns-clause-tree g c =
    λ places tree sorted own few. (c.put-way.ensures.made places
    (tree_kept c.args.self.now.nodes.items c.fill.new.segments.items c.fill.ensures.more
    c.args.self.now.root places
    (all_same c.args.self.now.nodes.items c.fill.new.segments.items c.fill.ensures.same places)
    tree) sorted own (c.fill.ensures.within, c.requires.small) few).tree

pub returns-clause-cut : goal.returns-clause-cut
returns-clause-cut g c =
    λ places tree sorted few. c.put-way.ensures.cut places
    (tree_kept c.args.self.now.nodes.items c.fill.new.segments.items c.fill.ensures.more
    c.args.self.now.root places
    (all_same c.args.self.now.nodes.items c.fill.new.segments.items c.fill.ensures.same places)
    tree) sorted few
