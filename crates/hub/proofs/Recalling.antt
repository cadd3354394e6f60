-- What a pass keeps of its seat, as the history goes on.
use Rattle.std.proofs.Common.{◌≡◌, ◌≢◌, ℕ, zero, suc, ◌+◌, ◌<◌, ◌==◌, ◌&&◌, Bool, true, false}
use Rattle.std.proofs.Common.{List, [], ◌∷◌, ◌++◌, length, replicate, get_or, set, refl, sym}
use Rattle.std.proofs.Common.{ap, ◌∙◌, arith, append-nil, length-append}
use Rattle.std.proofs.lemmas.Bool.Decides.{nat_tests}
use Rattle.std.proofs.lemmas.List.{get_or-set_other, get_or-set_same, length-replicate}
use Rattle.std.proofs.lemmas.List.Elements.{filter-append}
use Rattle.std.proofs.lemmas.List.Folds.{list_any-append}
use Rattle.std.proofs.lemmas.Map.Views.{any-filter_same}
use Rattle.std.proofs.Math.ListN.{length-set}
use Rattle.std.specs.Prelude.{◌||◌}
use Rattle.std.specs.List.{list_any}
use mathlib.Core.List.{IsPrefix}
use Rattle.agg_types.specs.Fits.{fits}
use Rattle.agg_types.specs.declared.event.Event.{Event}
use Rattle.agg_types.specs.declared.event.What.{What}
use Rattle.agg_types.specs.declared.event.What.TheVariants.{Sit, Open, Put, Clear, AddFilter}
use Rattle.agg_types.specs.declared.event.What.TheVariants.{DropFilter, Moment, Leave}
use Rattle.fleet_model.specs.Laws.{opens_at}
use Rattle.fleet_model.specs.Sessions.{opens}
use Rattle.hub.specs.History.{AllCount, Beginning, own}
use Rattle.hub.specs.Roll.{Counted, IsCountOf}
use Rattle.hub.specs.Sitting.{Recalled, Recalls, opened_after, sits_new}
use Rattle.hub.proofs.Counting.{own-this}
use Rattle.hub.proofs.Held.{sits_alone}
use Rattle.hub.proofs.Rolling.{event_at, longer}

and_first : (a b : Bool) → a && b ≡ true → a ≡ true
and_first true b is = refl
and_first false b is = absurd (cc is)

or_false : (b : Bool) → (b || false) ≡ b
or_false true = refl
or_false false = refl

-- which peers a seat opened is told by its own events
opens-own : (seat peer : ℕ) (events : List Event) → list_any (opens_at seat peer) (own seat events)
    ≡ list_any (opens_at seat peer) events
opens-own seat peer events =
    any-filter_same (opens_at seat peer) (λ e. e.seat == seat) true
    (λ e is. and_first (e.seat == seat) (opens peer e.what) is) events

-- where no event of the seat came, its own events are the same
own_same : (seat : ℕ) (some all : List Event) → IsPrefix some all
    → length (own seat all) ≡ length (own seat some) → own seat all ≡ own seat some
own_same seat some all is same =
    let parts : own seat all ≡ own seat some ++ own seat is.0 = ap (own seat) (sym is.1)
    ∙ filter-append (λ (e : Event). e.seat == seat) some is.0 in
    let none : own seat is.0 ≡ [] = nothing (own seat is.0) (let total = ap length parts in
    omega (arith, length-append (own seat some) (own seat is.0))) in
    parts ∙ (ap (λ es. own seat some ++ es) none ∙ append-nil (own seat some))
  where
    nothing : (es : List Event) → length es ≡ 0 → es ≡ []
    nothing [] is = refl
    nothing (e ∷ es) is = absurd (omega (arith, is))

-- what is kept of a seat stays while others go on
pub recalls_all : (r : Recalled) (b b' : Beginning) → Recalls r b → b'.config ≡ b.config
    → IsPrefix b.events b'.events → length (own r.seat b'.events) ≡ r.number → Recalls r b'
recalls_all r b b' h config prefix owns =
    let same : own r.seat b'.events ≡ own r.seat b.events =
    own_same r.seat b.events b'.events prefix (owns ∙ sym h.owns) in
    record {
      owns = owns;
      peers = h.peers ∙ ap (λ c. length c.peers) (sym config);
      opened = λ peer. h.opened peer
          ∙ (sym (opens-own r.seat peer b.events) ∙ (ap (list_any (opens_at r.seat peer)) (sym same)
          ∙ opens-own r.seat peer b'.events));
    }

-- ---- one event more

length-opened_after : (opened : List Bool) (what : What) → length (opened_after opened what)
    ≡ length opened
length-opened_after opened Sit = refl
length-opened_after opened (Open peer) = length-set opened peer true
length-opened_after opened (Put peer table key life cells) = refl
length-opened_after opened (Clear table sel) = refl
length-opened_after opened (AddFilter filter) = refl
length-opened_after opened (DropFilter name) = refl
length-opened_after opened (Moment moment) = refl
length-opened_after opened Leave = refl

opened_by : (opened : List Bool) (what : What)
    → ((peer : ℕ) → what ≡ Open peer → peer < length opened) → (w : What) → w ≡ what → (peer : ℕ)
    → get_or (opened_after opened w) peer false ≡ (get_or opened peer false || opens peer w)
opened_by opened what within Sit is peer = sym (or_false _)
opened_by opened what within (Open new) is peer = by_test (new == peer) refl
  where
    or_true : (b : Bool) → (b || true) ≡ true
    or_true true = refl
    or_true false = refl

    by_test : (b : Bool) → (new == peer) ≡ b → get_or (set opened new true) peer false
        ≡ (get_or opened peer false || b)
    by_test true same =
        let eq : new ≡ peer = grind (arith, nat_tests) in
        ap (λ p. get_or (set opened new true) p false) (sym eq)
        ∙ (get_or-set_same opened new true false (within new (sym is)) ∙ sym (or_true _))
    by_test false apart =
        let ne : peer ≢ new = grind (arith, nat_tests) in
        get_or-set_other opened new peer true false ne ∙ sym (or_false _)
opened_by opened what within (Put from table key life cells) is peer = sym (or_false _)
opened_by opened what within (Clear table sel) is peer = sym (or_false _)
opened_by opened what within (AddFilter filter) is peer = sym (or_false _)
opened_by opened what within (DropFilter name) is peer = sym (or_false _)
opened_by opened what within (Moment moment) is peer = sym (or_false _)
opened_by opened what within Leave is peer = sym (or_false _)

-- a seat posts something
pub recalls_more : (r : Recalled) (b : Beginning) (what : What) → Recalls r b
    → fits b.config what ≡ true
    → Recalls (record { seat = r.seat; number = r.number + 1; opened = opened_after r.opened what })
    (longer b (event_at r.seat r.number what))
recalls_more r b what h fit =
    let e = event_at r.seat r.number what in
    let this : (r.seat == r.seat) ≡ true = grind (arith, nat_tests) in
    record {
      owns = own-this r.seat b.events e this ∙ ap (λ n. n + 1) h.owns;
      peers = length-opened_after r.opened what ∙ h.peers;
      opened = λ peer.
          opened_by r.opened what (λ p same. let in_range : fits b.config (Open p) ≡ true =
          ap (fits b.config) (sym same) ∙ fit in let len = h.peers in grind (arith, nat_tests))
          what refl peer
          ∙ (ap (λ a. a || opens peer what) (h.opened peer)
          ∙ (ap (λ a. list_any (opens_at r.seat peer) b.events || a)
          (sym (or_false (opens peer what))
          ∙ ap (λ s. (s && opens peer what) || false) (sym this))
          ∙ sym (list_any-append (opens_at r.seat peer) b.events (e ∷ []))));
    }

-- ---- a seat that sat down

none_opened : (n i : ℕ) → get_or (replicate n false) i false ≡ false
none_opened zero i = refl
none_opened (suc n) zero = refl
none_opened (suc n) (suc i) = none_opened n i

and_false : (b : Bool) → (b && false) ≡ false
and_false true = refl
and_false false = refl

pub recalls_new : (b : Beginning) (roll : Counted) → IsCountOf roll b
    → AllCount b.config b.opening b.events
    → Recalls (sits_new roll) (longer b (event_at roll.next_seat 0 Sit))
recalls_new b roll is all =
    let e = event_at roll.next_seat 0 Sit in
    let alone = sits_alone b roll is all in
    record {
      owns = ap length alone;
      peers = length-replicate (length roll.last) false ∙ is.peers;
      opened = λ peer.
          none_opened (length roll.last) peer
          ∙ (sym (ap (λ a. a || false) (and_false (roll.next_seat == roll.next_seat)))
          ∙ (ap (list_any (opens_at roll.next_seat peer)) (sym alone)
          ∙ opens-own roll.next_seat peer (b.events ++ e ∷ [])));
    }
