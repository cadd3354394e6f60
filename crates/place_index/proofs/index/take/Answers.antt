use Rattle.std.proofs.Common.{sym, subst}
use Rattle.place_index.proofs.Leading.{index-emptied}
use Rattle.place_index.specs.Reach.{IsIndex}
use Rattle.place_index.specs.Slots.{held}
use Rattle.place_index.proofs.index.take.Goals as goal

pub returns-clause-index : goal.returns-clause-index
returns-clause-index g c =
    subst (λ p. IsIndex g.K.Ord.cmp g.K.IndexKey.hashed c.clear.new.self p)
    (sym c.empty.ensures.after)
    (index-emptied c.args.reach.now c.clear.new.self (held g.K.IndexKey.is_blank c.args.slots.now)
    c.args.at
    c.in_ok-key.key.now c.requires
    (sym c.in_ok-key.ensures) c.clear.ensures.others)
