use Rattle.std.proofs.Common.{◌++◌, ◌∙◌, ap, length, slice_index_or}
use Rattle.std.proofs.lemmas.List.{get_or-set_other, get_or-set_same, length-set}
use Rattle.place_order.specs.Chains.{AreChained}
use Rattle.place_order.proofs.Chained.{chain_kept, linked, same_links}
use Rattle.place_order.proofs.chain.Chain.link.Goals as goal

pub returns-clause-chain : goal.returns-clause-chain
returns-clause-chain c =
    λ front back chain is d apart.
    let filled : AreChained c.fill.new.segments.items c.args.self.now.first (front ++ back) =
    chain_kept c.args.self.now.nexts.items c.fill.new.segments.items c.fill.ensures.more
    c.args.self.now.first (front ++ back)
    (same_links c.args.self.now.nexts.items c.fill.new.segments.items c.fill.ensures.same
    (front ++ back)) chain in
    linked c.fill.new.segments.items c.replace-was.new.self.items c.lead.new.self.nexts.items
    c.args.self.now.first c.lead.new.self.first c.args.before c.args.at c.behind-next.result
    (ap (λ xs. length xs) c.replace-was.ensures.after
    ∙ length-set c.fill.new.segments.items c.args.at c.behind-next.result)
    (ap (λ xs. slice_index_or xs c.args.at 4294967295) c.replace-was.ensures.after
    ∙ get_or-set_same c.fill.new.segments.items c.args.at c.behind-next.result 4294967295
    c.fill.ensures.within)
    (λ q other. ap (λ xs. slice_index_or xs q 4294967295) c.replace-was.ensures.after
    ∙ get_or-set_other c.fill.new.segments.items c.args.at q c.behind-next.result 4294967295
    other)
    c.lead.ensures.led (c.fill.ensures.within, c.requires.small) front back filled is d apart
    (c.behind-next.ensures front back filled is)
