use Rattle.std.proofs.Common.{sym, subst, arith}
use Rattle.std.specs.List.{All}
use Rattle.hub.specs.Batches.{Batched, events_in}
use Rattle.hub.specs.Kept.{Kept}
use Rattle.hub.specs.Roll.{MayPost}
use Rattle.hub.proofs.Held.{desked_longer}
use Rattle.hub.proofs.desk.Desk.add.Goals as goal

pub invariant_of-self-2 : goal.invariant_of-self-2
invariant_of-self-2 g c = (
  desked_longer g.J.Naming.book c.self.inside.from c.self.inside.queue.items c.self.inside.front
      c.self.inside.shown c.self.inside.roll c.self.invariant.0
      c.reserve.new.self.items c.store.new.queue.items
      (events_in c.in_ok-run.run') c.store.new.front
      c.store.new.roll
      c.reserve.ensures.items c.store.ensures.front c.store.ensures.stored c.store.ensures.counted,
  omega (arith, c.store.ensures.len, c.store.ensures.capacity, c.in-Ok.ensures.ok),
  omega (arith, c.store.ensures.capacity, c.reserve.ensures.capacity, c.self.invariant.2),
  c.self.invariant.3,
  c.self.invariant.4,
)

pub store-requires-clause-fits : goal.store-requires-clause-fits
store-requires-clause-fits g c =
    let fits : All (MayPost c.self.inside.front.config) c.args.whats = subst
    (λ (kept : Kept). All (MayPost kept.all.config) c.args.whats) (sym c.self.view_is)
    c.requires.fits in
    subst (λ (b : Batched). All (MayPost c.self.inside.front.config) b.whats)
    (sym c.in_ok-run.ensures) fits
