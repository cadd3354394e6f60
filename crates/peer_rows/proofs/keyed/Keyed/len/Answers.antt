use Rattle.std.proofs.Common.{sym, ◌∙◌}
use Rattle.place_index.proofs.Ordered.{length-in_order}
use Rattle.peer_rows.proofs.keyed.Keyed.len.Goals as goal

pub returns-clause-value : goal.returns-clause-value
returns-clause-value c = rw (← c.self.view_is) (c.count.ensures.value
    ∙ sym (length-in_order c.self.inside.index.places c.count.ensures.distinct))
