use Rattle.std.proofs.Common.{Some, ap, sym, subst, ◌∙◌}
use Rattle.place_index.proofs.Leading.{index-kept, index-laid}
use Rattle.place_index.specs.Places.{laid}
use Rattle.place_index.specs.Reach.{IsIndex}
use Rattle.place_index.specs.Slots.{held}
use Rattle.place_index.proofs.index.lay.Goals as goal

pub returns-in_err-reserve-2-clause-index : goal.returns-in_err-reserve-2-clause-index
returns-in_err-reserve-2-clause-index g c =
    subst (λ p. IsIndex g.K.Ord.cmp g.K.IndexKey.hashed c.reserve-2.new.self p)
    (sym c.reserve.ensures.same)
    (index-kept c.args.reach.now c.reserve-2.new.self (held g.K.IndexKey.is_blank c.args.slots.now)
    c.requires.index (λ k q is leads. c.reserve-2.ensures.others k q leads))

pub returns-clause-index : goal.returns-clause-index
returns-clause-index g c =
    subst (λ p. IsIndex g.K.Ord.cmp g.K.IndexKey.hashed c.put.new.self p)
    (sym (c.fill.ensures.after
    ∙ ap (λ p. laid p c.vacant-at.result (Some (c.args.key, c.args.value)))
    c.reserve.ensures.same))
    (index-laid c.args.reach.now c.put.new.self (held g.K.IndexKey.is_blank c.args.slots.now)
    c.vacant-at.result c.args.key c.args.value c.requires.index c.requires.absent
    c.vacant-at.ensures.bound c.put.ensures.leads
    (λ k q other leads. c.put.ensures.others k q other
    (c.grow.ensures.others k q (c.reserve-2.ensures.others k q leads))))
