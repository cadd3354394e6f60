use Rattle.std.proofs.Common.{ap, sym, subst, ◌∙◌}
use Rattle.place_index.proofs.Filled.{filled-revalued}
use Rattle.place_index.proofs.Leading.{index-revalued}
use Rattle.place_index.specs.Places.{filled}
use Rattle.place_index.specs.Reach.{IsIndex}
use Rattle.place_index.specs.Slots.{held}
use Rattle.place_index.proofs.index.exchange.Goals as goal

pub returns-clause-index : goal.returns-clause-index
returns-clause-index g c =
    subst (λ p. IsIndex g.K.Ord.cmp g.K.IndexKey.hashed c.args.reach.now p)
    (sym c.replace.ensures.after)
    (index-revalued c.args.reach.now (held g.K.IndexKey.is_blank c.args.slots.now) c.args.at
    c.args.value c.requires)

pub returns-clause-filled : goal.returns-clause-filled
returns-clause-filled g c =
    ap (λ p. filled p) c.replace.ensures.after
    ∙ filled-revalued (held g.K.IndexKey.is_blank c.args.slots.now) c.args.at c.args.value
