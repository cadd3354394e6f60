use Rattle.std.proofs.Common.{◌∙◌, ap, sym, add-zero, true, false, ◌-◌, ◌+◌}
use Rattle.fleet_core.proofs.HandingOver.{how_many}
use Rattle.fleet_core.proofs.waiting.Waiting.len.Goals as goal

pub returns-then-self : goal.returns-then-self
returns-then-self c =
    let inside = c.self.inside in
    ap (λ n. n - inside.handed + 1) c.len.ensures.count
    ∙ how_many inside.seat inside.seq inside.handed inside.facts true c.args.self.now
    (rw c.if-self.true at c.self.view_is)

pub returns-else-self : goal.returns-else-self
returns-else-self c =
    let inside = c.self.inside in
    ap (λ n. n - inside.handed) c.len.ensures.count
    ∙ sym (add-zero _)
    ∙ how_many inside.seat inside.seq inside.handed inside.facts false c.args.self.now
    (rw c.if-self.false at c.self.view_is)
