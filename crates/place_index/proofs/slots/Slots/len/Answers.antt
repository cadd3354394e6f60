use Rattle.std.proofs.Common.{sym, ◌∙◌}
use Rattle.place_index.proofs.Held.{length-held}
use Rattle.place_index.proofs.slots.Slots.len.Goals as goal

pub returns : goal.returns
returns g c =
    c.len.ensures
    ∙ sym (length-held g.K.IndexKey.is_blank c.args.self.now.own 0 c.args.self.now.slots.items)
