use Rattle.std.proofs.Common.{ap, ◌∙◌}
use Rattle.place_index.proofs.Lent.{held_lent}
use Rattle.place_index.specs.Places.{revalued}
use Rattle.place_index.specs.Slots.{held}
use Rattle.place_index.proofs.slots.Slots.replace.Goals as goal

pub returns-clause-after : goal.returns-clause-after
returns-clause-after g c =
    held_lent g.K.IndexKey.is_blank c.args.self.now c.args.at c.replace.new.dest
    ∙ ap (λ v. revalued (held g.K.IndexKey.is_blank c.args.self.now) c.args.at v)
    c.replace.ensures.after
