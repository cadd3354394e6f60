use Rattle.std.proofs.Common.{◌≡◌, Some, refl, sym, ap, ◌∙◌, subst, [], ◌∷◌, arith}
use Rattle.std.specs.BTreeMap.{is_at}
use Rattle.std.specs.Map.{remove_entry}
use Rattle.std.specs.Ordering.{nat_cmp}
use Rattle.agg_types.specs.declared.event.What.TheVariants.{Leave}
use Rattle.fleet_model.specs.Seats.{numbered}
use Rattle.hub.specs.Kept.{Kept}
use Rattle.hub.specs.Roll.{Counted, IsCountOf}
use Rattle.hub.proofs.Counting.{found}
use Rattle.hub.proofs.Filling.{stored_all}
use Rattle.hub.proofs.Held.{desked_longer}
use Rattle.hub.proofs.Rolling.{event_at, leave_more, post_counts}
use Rattle.hub.proofs.desk.Desk.stand_up.Goals as goal

pub store-requires-clause-counts : goal.store-requires-clause-counts
store-requires-clause-counts g c =
    let seat = c.args.seat in
    let at : found seat c.self.inside.roll.seats ≡ Some c.args.number =
    ap (λ (k : Kept). found seat k.roll.seats) c.self.view_is ∙ c.requires.due in
    post_counts c.self.inside.front c.self.inside.roll seat c.args.number Leave
    c.self.invariant.0.counted refl refl at c.requires.small

pub invariant_of-self : goal.invariant_of-self
invariant_of-self g c =
    let seat = c.args.seat in
    let front = c.self.inside.front in
    let roll = c.self.inside.roll in
    let queue = c.self.inside.queue in
    let e = event_at seat c.args.number Leave in
    let at : found seat roll.seats ≡ Some c.args.number =
    ap (λ (k : Kept). found seat k.roll.seats) c.self.view_is ∙ c.requires.due in
    let counts = post_counts front roll seat c.args.number Leave c.self.invariant.0.counted refl
    refl
    at c.requires.small in
    let count : IsCountOf (record roll { seats = remove_entry (is_at (nat_cmp seat)) roll.seats })
    c.store.new.front = subst (IsCountOf _) (sym c.store.ensures.front)
    (leave_more front roll seat c.args.number c.self.invariant.0.counted counts) in (
      desked_longer g.J.Naming.book c.self.inside.from queue.items front c.self.inside.shown roll
          c.self.invariant.0 queue.items c.store.new.queue.items
          (numbered seat c.args.number (Leave ∷ [])) c.store.new.front c.leave.new.self
          refl c.store.ensures.front
          (stored_all queue.items c.store.new.queue.items front c.store.new.front (e ∷ [])
          c.store.ensures.front c.store.ensures.queue)
          (subst (λ (r : Counted). IsCountOf r c.store.new.front) (sym c.leave.ensures) count),
      omega (arith, c.store.ensures.len, c.store.ensures.capacity, c.self.invariant.1),
      omega (arith, c.store.ensures.capacity, c.self.invariant.2),
      omega (arith, c.self.invariant.3),
      c.self.invariant.4,
    )
