use Rattle.std.proofs.Common.{◌≡◌, ◌≤◌, ◌+◌, nat_lt, true, refl, sym, ap, ◌∙◌, subst, [], ◌∷◌}
use Rattle.std.proofs.Common.{arith, length}
use Rattle.std.specs.BTreeMap.{insert_entry}
use Rattle.std.specs.Ordering.{nat_cmp}
use Rattle.agg_types.specs.declared.event.What.TheVariants.{Sit}
use Rattle.agg_types.specs.declared.limits.TheConstants.{LAST_SEAT, MOST_SEATS}
use Rattle.fleet_model.specs.Machine.{counts_now}
use Rattle.fleet_model.specs.Seats.{numbered}
use Rattle.hub.specs.Kept.{Kept}
use Rattle.hub.specs.Roll.{Counted, IsCountOf}
use Rattle.hub.specs.Sitting.{Recalled, Recalls, sits_new}
use Rattle.hub.proofs.Filling.{stored_all}
use Rattle.hub.proofs.Held.{desked_longer, sat_down, seated}
use Rattle.hub.proofs.Recalling.{recalls_new}
use Rattle.hub.proofs.Rolling.{event_at, longer, sit_counts, sit_more, state_at}
use Rattle.hub.proofs.desk.Desk.sit_down.Goals as goal

pub store-requires-clause-counts : goal.store-requires-clause-counts
store-requires-clause-counts g c =
    let front = c.self.inside.front in
    let roll = c.self.inside.roll in
    let free : nat_lt (length roll.seats) MOST_SEATS ≡ true =
    ap (λ (k : Kept). nat_lt (length k.roll.seats) MOST_SEATS) c.self.view_is
    ∙ c.requires.free in
    let small : roll.next_seat ≤ LAST_SEAT =
    subst (λ (k : Kept). k.roll.next_seat ≤ LAST_SEAT) (sym c.self.view_is) c.requires.small in
    subst (λ s. counts_now (state_at front) (event_at s 0 Sit) ≡ true)
    (sym c.next_seat-seat.ensures) (sit_counts front roll c.self.invariant.0.counted free small)

pub new-requires : goal.new-requires
new-requires g c =
    let front = c.self.inside.front in
    let roll = c.self.inside.roll in
    let sits : c.args.sitting ≡ sits_new roll = c.requires.sitting
    ∙ ap (λ (k : Kept). sits_new k.roll) (sym c.self.view_is) in
    let later : c.again.result ≡ longer front (event_at roll.next_seat 0 Sit) = c.again.ensures
    ∙ (c.store.ensures.front ∙ ap (λ s. longer front (event_at s 0 Sit))
    c.next_seat-seat.ensures) in
    subst (Recalls c.args.sitting) (sym later)
    (subst (λ (r : Recalled). Recalls r (longer front (event_at roll.next_seat 0 Sit)))
    (sym sits) (recalls_new front roll c.self.invariant.0.counted c.len-count.ensures.legal))

pub returns-clause-pass : goal.returns-clause-pass
returns-clause-pass g c =
    let front = c.self.inside.front in
    let roll = c.self.inside.roll in
    let free : nat_lt (length roll.seats) MOST_SEATS ≡ true =
    ap (λ (k : Kept). nat_lt (length k.roll.seats) MOST_SEATS) c.self.view_is
    ∙ c.requires.free in
    let small : roll.next_seat ≤ LAST_SEAT =
    subst (λ (k : Kept). k.roll.next_seat ≤ LAST_SEAT) (sym c.self.view_is) c.requires.small in
    let sits : c.args.sitting ≡ sits_new roll = c.requires.sitting
    ∙ ap (λ (k : Kept). sits_new k.roll) (sym c.self.view_is) in
    let new : c.new.result ≡ seated c.next_seat-seat.result 1 c.store.new.front =
    c.new.ensures ∙ (ap (seated c.args.sitting.seat c.args.sitting.number) c.again.ensures
    ∙ (ap (λ (r : Recalled). seated r.seat r.number c.store.new.front) sits
    ∙ ap (λ s. seated s 1 c.store.new.front) (sym c.next_seat-seat.ensures))) in
    sat_down c.args.self.now _ g.J.Naming.book front c.store.new.front roll c.new.result
    c.next_seat-seat.result (ap (λ (k : Kept). k.all) (sym c.self.view_is)) refl
    c.self.invariant.0.named c.self.invariant.0.counted c.len-count.ensures.legal
    c.next_seat-seat.ensures
    free small c.store.ensures.front new c.requires.runs

pub invariant_of-self-2 : goal.invariant_of-self-2
invariant_of-self-2 g c =
    let front = c.self.inside.front in
    let roll = c.self.inside.roll in
    let seat = c.next_seat-seat.result in
    let e = event_at seat 0 Sit in
    let free : nat_lt (length roll.seats) MOST_SEATS ≡ true =
    ap (λ (k : Kept). nat_lt (length k.roll.seats) MOST_SEATS) c.self.view_is
    ∙ c.requires.free in
    let small : roll.next_seat ≤ LAST_SEAT =
    subst (λ (k : Kept). k.roll.next_seat ≤ LAST_SEAT) (sym c.self.view_is) c.requires.small in
    let count = sit_more front roll c.self.invariant.0.counted
    (sit_counts front roll c.self.invariant.0.counted free small) in
    let sat : c.sit.new.self ≡ record {
      seats = insert_entry nat_cmp roll.seats roll.next_seat 1;
      next_seat = roll.next_seat + 1;
      last = roll.last;
    } = c.in-Ok-sit.ensures.ok in
    let count' : IsCountOf c.sit.new.self (longer front (event_at roll.next_seat 0 Sit)) =
    subst (λ (r : Counted). IsCountOf r (longer front (event_at roll.next_seat 0 Sit)))
    (sym sat) count in
    let count'' : IsCountOf c.sit.new.self (longer front e) =
    subst (λ s. IsCountOf c.sit.new.self (longer front (event_at s 0 Sit)))
    (sym c.next_seat-seat.ensures) count' in (
      desked_longer g.J.Naming.book c.self.inside.from c.self.inside.queue.items front
          c.self.inside.shown roll c.self.invariant.0
          c.reserve.new.self.items c.store.new.queue.items (numbered seat 0 (Sit ∷ []))
          c.store.new.front c.sit.new.self
          c.reserve.ensures.items c.store.ensures.front
          (stored_all c.reserve.new.self.items c.store.new.queue.items front c.store.new.front
          (e ∷ [])
          c.store.ensures.front c.store.ensures.queue)
          (subst (IsCountOf c.sit.new.self) (sym c.store.ensures.front) count''),
      omega (arith, c.store.ensures.len, c.store.ensures.capacity, c.in-Ok.ensures.ok),
      omega (arith, c.store.ensures.capacity, c.reserve.ensures.capacity, c.self.invariant.2),
      omega (arith, c.if-self-ge-MOST_SEATS.false),
      c.self.invariant.4,
    )
