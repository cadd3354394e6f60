use Rattle.std.proofs.Common.{◌≡◌, ◌≤◌, [], ◌++◌, true, ap, sym, ◌∙◌, subst}
use Rattle.std.specs.Prelude.{slice_set}
use Rattle.expiry_wheel.specs.Entries.{entry_cmp, IsInOrder, first_due, without_due}
use Rattle.expiry_wheel.specs.Slots.{entries_in, IsWheel, IsFirstOccupied, SpansEntries}
use Rattle.expiry_wheel.proofs.Slotted.{Opened, opened, wheel_in_order, wheel_near, here_ordered}
use Rattle.expiry_wheel.proofs.Slotted.{length_written, slotted_turned, first_holds}
use Rattle.expiry_wheel.proofs.Slotted.{first_due-append, without_due-append, all-without_due}
use Rattle.expiry_wheel.proofs.Slotted.{sorted-without_due, first_due-none, without_due-none}
use Rattle.expiry_wheel.proofs.Slotted.{first_moment-append, turned_whole, turned_rest, some_first}
use Rattle.expiry_wheel.proofs.wheel.WheelDueIndex.take_due.Goals as goal

pub invariant_of-self : goal.invariant_of-self
invariant_of-self g c =
    let cmp = g.T.Ord.cmp in
    let i = c.self.inside in
    let w = c.self.invariant in
    subst (λ near. IsWheel cmp i.now i.near_end near i.slots) (sym c.take_due.ensures.rest)
    (wheel_near cmp i.now i.near_end i.near i.slots w (without_due c.args.t i.near)
    (sorted-without_due c.args.t (entry_cmp cmp) i.near w.ordered)
    (all-without_due c.args.t (λ e. e.0 ≤ i.near_end) i.near w.until))

pub returns-then-not-is_empty-clause-taken : goal.returns-then-not-is_empty-clause-taken
returns-then-not-is_empty-clause-taken g c =
    let cmp = g.T.Ord.cmp in
    let i = c.self.inside in
    let some : i.near ≡ [] → ⊥ = λ e. let yes : c.is_empty.result ≡ true = c.is_empty.ensures.1 e in
    cc (c.if-not-is_empty.true) in
    c.take_due.ensures.taken ∙ sym (first_due-append c.args.t i.near (entries_in i.slots) some)
    ∙ ap (first_due c.args.t) c.self.view_is

pub returns-then-not-is_empty-clause-rest : goal.returns-then-not-is_empty-clause-rest
returns-then-not-is_empty-clause-rest g c =
    let cmp = g.T.Ord.cmp in
    let i = c.self.inside in
    let some : i.near ≡ [] → ⊥ = λ e. let yes : c.is_empty.result ≡ true = c.is_empty.ensures.1 e in
    cc (c.if-not-is_empty.true) in
    ap (λ near. near ++ entries_in i.slots) c.take_due.ensures.rest
    ∙ sym (without_due-append c.args.t i.near (entries_in i.slots) some)
    ∙ ap (without_due c.args.t) c.self.view_is

pub returns-then-not-is_empty-clause-ordered : goal.returns-then-not-is_empty-clause-ordered
returns-then-not-is_empty-clause-ordered g c =
    let i = c.self.inside in
    subst (IsInOrder g.T.Ord.cmp) c.self.view_is (wheel_in_order g.T.Ord.cmp i.now i.near_end i.near
    i.slots c.self.invariant)

pub returns-then-first-t-clause-taken : goal.returns-then-first-t-clause-taken
returns-then-first-t-clause-taken g c =
    let cmp = g.T.Ord.cmp in
    let i = c.self.inside in
    let k = c.in_ok-slot.slot in
    let first = c.in_ok-first.first in
    let last = c.in_ok-first.last in
    let none_near : i.near ≡ [] = c.is_empty.ensures.0 c.if-not-is_empty.false in
    let occupied : IsFirstOccupied i.slots 0 k = c.in_ok-slot.ensures in
    let o : Opened i.slots k = opened i.slots k occupied.within in
    let none : entries_in o.before ≡ [] = ap entries_in (sym o.taken) ∙ occupied.none_before in
    let spans : SpansEntries o.here (first, last) =
    subst (λ s. SpansEntries s (first, last)) (c.slot.ensures ∙ o.read [])
    c.in_ok-first.ensures.some in
    let whole : c.args.self.now ≡ o.here ++ entries_in o.after = sym c.self.view_is
    ∙ turned_whole i.near i.slots k o none_near none in
    sym (ap (first_due c.args.t) whole
    ∙ first_due-none c.args.t first (o.here ++ entries_in o.after)
    (first_moment-append c.args.t first o.here (entries_in o.after) spans.first)
    c.if-first-t.true)

pub returns-then-first-t-clause-rest : goal.returns-then-first-t-clause-rest
returns-then-first-t-clause-rest g c =
    let cmp = g.T.Ord.cmp in
    let i = c.self.inside in
    let k = c.in_ok-slot.slot in
    let first = c.in_ok-first.first in
    let last = c.in_ok-first.last in
    let none_near : i.near ≡ [] = c.is_empty.ensures.0 c.if-not-is_empty.false in
    let occupied : IsFirstOccupied i.slots 0 k = c.in_ok-slot.ensures in
    let o : Opened i.slots k = opened i.slots k occupied.within in
    let none : entries_in o.before ≡ [] = ap entries_in (sym o.taken) ∙ occupied.none_before in
    let spans : SpansEntries o.here (first, last) =
    subst (λ s. SpansEntries s (first, last)) (c.slot.ensures ∙ o.read [])
    c.in_ok-first.ensures.some in
    let whole : c.args.self.now ≡ o.here ++ entries_in o.after = sym c.self.view_is
    ∙ turned_whole i.near i.slots k o none_near none in
    sym (ap (without_due c.args.t) whole
    ∙ without_due-none c.args.t first (o.here ++ entries_in o.after)
    (first_moment-append c.args.t first o.here (entries_in o.after) spans.first)
    c.if-first-t.true
    ∙ sym whole)

pub returns-then-first-t-clause-ordered : goal.returns-then-first-t-clause-ordered
returns-then-first-t-clause-ordered g c =
    let i = c.self.inside in
    subst (IsInOrder g.T.Ord.cmp) c.self.view_is (wheel_in_order g.T.Ord.cmp i.now i.near_end i.near
    i.slots c.self.invariant)

pub invariant_of-self-2 : goal.invariant_of-self-2
invariant_of-self-2 g c =
    let cmp = g.T.Ord.cmp in
    let i = c.self.inside in
    let k = c.in_ok-slot.slot in
    let first = c.in_ok-first.first in
    let last = c.in_ok-first.last in
    let none_near : i.near ≡ [] = c.is_empty.ensures.0 c.if-not-is_empty.false in
    let occupied : IsFirstOccupied i.slots 0 k = c.in_ok-slot.ensures in
    let o : Opened i.slots k = opened i.slots k occupied.within in
    let none : entries_in o.before ≡ [] = ap entries_in (sym o.taken) ∙ occupied.none_before in
    let spans : SpansEntries o.here (first, last) =
    subst (λ s. SpansEntries s (first, last)) (c.slot.ensures ∙ o.read [])
    c.in_ok-first.ensures.some in
    let whole : c.args.self.now ≡ o.here ++ entries_in o.after = sym c.self.view_is
    ∙ turned_whole i.near i.slots k o none_near none in
    let new_near : c.swap.new.entries ≡ o.here = c.swap.ensures.taken ∙ o.read [] in
    let new_slots : c.swap.new.self ≡ slice_set i.slots k [] = c.swap.ensures.put
    ∙ ap (slice_set i.slots k) none_near in
    let w = c.self.invariant in
    let new : c.take_due-2.new.self ≡ without_due c.args.t o.here = c.take_due-2.ensures.rest
    ∙ ap (without_due c.args.t) new_near in
    let ordered : IsInOrder cmp o.here = here_ordered cmp i.now i.near_end i.near i.slots w k o in
    let wheel : IsWheel cmp first last (without_due c.args.t o.here) (slice_set i.slots k []) =
    record {
      counted = first_holds (λ n. n ≤ last) first o.here spans.bound spans.first;
      complete = length_written cmp i.now i.near_end i.near i.slots w k o [] ∙ w.complete;
      ordered = sorted-without_due c.args.t (entry_cmp cmp) o.here ordered;
      until = all-without_due c.args.t (λ e. e.0 ≤ last) o.here spans.bound;
      slotted = slotted_turned cmp i.now i.near_end i.near i.slots w k o first last spans none;
    } in
    subst (λ near. IsWheel cmp first last near c.swap.new.self) (sym new)
    (subst (λ s. IsWheel cmp first last (without_due c.args.t o.here) s) (sym new_slots) wheel)

pub returns-clause-taken : goal.returns-clause-taken
returns-clause-taken g c =
    let cmp = g.T.Ord.cmp in
    let i = c.self.inside in
    let k = c.in_ok-slot.slot in
    let first = c.in_ok-first.first in
    let last = c.in_ok-first.last in
    let none_near : i.near ≡ [] = c.is_empty.ensures.0 c.if-not-is_empty.false in
    let occupied : IsFirstOccupied i.slots 0 k = c.in_ok-slot.ensures in
    let o : Opened i.slots k = opened i.slots k occupied.within in
    let none : entries_in o.before ≡ [] = ap entries_in (sym o.taken) ∙ occupied.none_before in
    let spans : SpansEntries o.here (first, last) =
    subst (λ s. SpansEntries s (first, last)) (c.slot.ensures ∙ o.read [])
    c.in_ok-first.ensures.some in
    let whole : c.args.self.now ≡ o.here ++ entries_in o.after = sym c.self.view_is
    ∙ turned_whole i.near i.slots k o none_near none in
    let new_near : c.swap.new.entries ≡ o.here = c.swap.ensures.taken ∙ o.read [] in
    c.take_due-2.ensures.taken ∙ ap (first_due c.args.t) new_near
    ∙ sym (first_due-append c.args.t o.here (entries_in o.after)
    (some_first first o.here spans.first)) ∙ ap (first_due c.args.t) (sym whole)

pub returns-clause-rest : goal.returns-clause-rest
returns-clause-rest g c =
    let cmp = g.T.Ord.cmp in
    let i = c.self.inside in
    let k = c.in_ok-slot.slot in
    let first = c.in_ok-first.first in
    let last = c.in_ok-first.last in
    let none_near : i.near ≡ [] = c.is_empty.ensures.0 c.if-not-is_empty.false in
    let occupied : IsFirstOccupied i.slots 0 k = c.in_ok-slot.ensures in
    let o : Opened i.slots k = opened i.slots k occupied.within in
    let none : entries_in o.before ≡ [] = ap entries_in (sym o.taken) ∙ occupied.none_before in
    let spans : SpansEntries o.here (first, last) =
    subst (λ s. SpansEntries s (first, last)) (c.slot.ensures ∙ o.read [])
    c.in_ok-first.ensures.some in
    let whole : c.args.self.now ≡ o.here ++ entries_in o.after = sym c.self.view_is
    ∙ turned_whole i.near i.slots k o none_near none in
    let new_near : c.swap.new.entries ≡ o.here = c.swap.ensures.taken ∙ o.read [] in
    let new_slots : c.swap.new.self ≡ slice_set i.slots k [] = c.swap.ensures.put
    ∙ ap (slice_set i.slots k) none_near in
    ap (λ near. near ++ entries_in c.swap.new.self) (c.take_due-2.ensures.rest
    ∙ ap (without_due c.args.t) new_near)
    ∙ ap (λ s. without_due c.args.t o.here ++ entries_in s) new_slots
    ∙ ap (λ l. without_due c.args.t o.here ++ l) (turned_rest i.near i.slots k o none_near none)
    ∙ sym (without_due-append c.args.t o.here (entries_in o.after)
    (some_first first o.here spans.first)) ∙ ap (without_due c.args.t) (sym whole)

pub returns-clause-ordered : goal.returns-clause-ordered
returns-clause-ordered g c =
    let i = c.self.inside in
    subst (IsInOrder g.T.Ord.cmp) c.self.view_is (wheel_in_order g.T.Ord.cmp i.now i.near_end i.near
    i.slots c.self.invariant)
