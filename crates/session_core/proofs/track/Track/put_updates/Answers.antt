use Rattle.std.proofs.Common.{◌≡◌, ◌<◌, ◌∙◌, List, [], drop, length, Some, refl, sym, ap, subst}
use Rattle.std.specs.Prelude.{slice_get, slice_set}
use Rattle.std.proofs.lemmas.Option.{slice_get_read}
use Rattle.session_core.specs.declared.track.Entry.{Entry}
use Rattle.session_core.specs.Run.{GoesOn, run}
use Rattle.session_core.specs.Tracked.{Tracked}
use Rattle.session_core.specs.Undo.{undone}
use Rattle.session_core.proofs.FitLemmas.{some_same}
use Rattle.session_core.proofs.PlanNowLemmas.{track_of, new_now, plan_now_of}
use Rattle.session_core.proofs.PutLemmas.{force_is, now_of_force, none_put, some_put}
use Rattle.session_core.proofs.PutLemmas.{plan_in_force, plan_of_force}
use Rattle.session_core.proofs.PutLemmas.{put_new_is}
use Rattle.session_core.proofs.track.Track.put_updates.Goals as goal

pub make_plan-requires : goal.make_plan-requires
make_plan-requires c =
    let get : slice_get c.deref.result.now c.in-Some.at ≡ Some c.in-Some-get.entry.now =
    slice_get_read c.deref.result.now (length c.deref.result.now) c.in-Some.at
    c.in-Some-get.entry.now refl c.in-Some-get.ensures.lookup.3.0
    c.in-Some-get.ensures.lookup.1 in
    let force = force_is c.args.tables.now c.args.self.now c.self.inside.entries.items
    c.deref.result.now c.self.inside.current c.in-Some.at c.in-Some-get.entry.now
    c.in-Some-followed.followed c.in-Some-get-2.shape.now c.self.view_is c.deref.ensures.value
    c.in-Some.is get c.in-Some-followed.is c.in-Some-get-2.ensures in
    rw c.as_slice.ensures (plan_in_force c.args.plan.now c.args.tables.now c.args.self.now
    c.in-Some.at c.in-Some-get.entry.now c.in-Some-followed.followed c.in-Some-get-2.shape.now
    c.in-Some-get.entry.now.last force c.requires)

pub returns-then-next-from-clause-goes_on : goal.returns-then-next-from-clause-goes_on
returns-then-next-from-clause-goes_on c =
    let get : slice_get c.deref.result.now c.in-Some.at ≡ Some c.in-Some-get.entry.now =
    slice_get_read c.deref.result.now (length c.deref.result.now) c.in-Some.at
    c.in-Some-get.entry.now refl c.in-Some-get.ensures.lookup.3.0
    c.in-Some-get.ensures.lookup.1 in
    let force = force_is c.args.tables.now c.args.self.now c.self.inside.entries.items
    c.deref.result.now c.self.inside.current c.in-Some.at c.in-Some-get.entry.now
    c.in-Some-followed.followed c.in-Some-get-2.shape.now c.self.view_is c.deref.ensures.value
    c.in-Some.is get c.in-Some-followed.is c.in-Some-get-2.ensures in
    none_put c.args.peer c.in-Some-followed.followed c.in-Some-get-2.shape.now c.args.from
    c.in-Some-get.entry.now.last c.args.facts.now c.put_updates.new.facts
    c.args.given.now.messages c.in_ok-next.next c.in_ok-next.last c.args.tables.now
    c.args.self.now c.in-Some.at c.in-Some-get.entry.now c.in_ok-next.ensures.puts
    c.if-next-from.true force

pub returns-then-next-from-clause-planned : goal.returns-then-next-from-clause-planned
returns-then-next-from-clause-planned c =
    let get : slice_get c.deref.result.now c.in-Some.at ≡ Some c.in-Some-get.entry.now =
    slice_get_read c.deref.result.now (length c.deref.result.now) c.in-Some.at
    c.in-Some-get.entry.now refl c.in-Some-get.ensures.lookup.3.0
    c.in-Some-get.ensures.lookup.1 in
    let force = force_is c.args.tables.now c.args.self.now c.self.inside.entries.items
    c.deref.result.now c.self.inside.current c.in-Some.at c.in-Some-get.entry.now
    c.in-Some-followed.followed c.in-Some-get-2.shape.now c.self.view_is c.deref.ensures.value
    c.in-Some.is get c.in-Some-followed.is c.in-Some-get-2.ensures in
    plan_now_of (Some c.put_updates.new.plan) c.args.tables.now c.args.self.now
    c.in-Some-followed.followed
    (now_of_force c.args.tables.now c.args.self.now c.in-Some.at
    c.in-Some-get.entry.now c.in-Some-followed.followed c.in-Some-get-2.shape.now
    c.in-Some-get.entry.now.last force)
    (plan_of_force c.args.tables.now c.args.self.now c.in-Some.at c.in-Some-get.entry.now
    c.in-Some-followed.followed c.in-Some-get-2.shape.now c.in-Some-get.entry.now.last
    c.put_updates.new.plan force c.in_ok-next.ensures.planned)

pub returns-clause-undo : goal.returns-clause-undo
returns-clause-undo c =
    let get : slice_get c.deref.result.now c.in-Some.at ≡ Some c.in-Some-get.entry.now =
    slice_get_read c.deref.result.now (length c.deref.result.now) c.in-Some.at
    c.in-Some-get.entry.now refl c.in-Some-get.ensures.lookup.3.0
    c.in-Some-get.ensures.lookup.1 in
    let inside : slice_get c.self.inside.entries.items c.in-Some.at
    ≡ Some c.in-Some-get.entry.now =
    subst (λ (es : List Entry). slice_get es c.in-Some.at
    ≡ Some c.in-Some-get.entry.now) c.deref.ensures.value get in
    c.in_ok-note.ensures.ok c.self.inside.entries.items c.note_last.new.entry inside
    ∙ ap (λ (t : Tracked). undone c.args.changes.now.items t.entries) c.self.view_is

pub returns-clause-goes_on : goal.returns-clause-goes_on
returns-clause-goes_on c =
    let get : slice_get c.deref.result.now c.in-Some.at ≡ Some c.in-Some-get.entry.now =
    slice_get_read c.deref.result.now (length c.deref.result.now) c.in-Some.at
    c.in-Some-get.entry.now refl c.in-Some-get.ensures.lookup.3.0
    c.in-Some-get.ensures.lookup.1 in
    let force = force_is c.args.tables.now c.args.self.now c.self.inside.entries.items
    c.deref.result.now c.self.inside.current c.in-Some.at c.in-Some-get.entry.now
    c.in-Some-followed.followed c.in-Some-get-2.shape.now c.self.view_is c.deref.ensures.value
    c.in-Some.is get c.in-Some-followed.is c.in-Some-get-2.ensures in
    let lt : c.in-Some.at < length c.self.inside.entries.items =
    rw (← c.deref.ensures.value) c.in-Some-get.ensures.lookup.3.0 in
    let again : slice_get c.self.inside.entries.items c.in-Some.at
    ≡ Some c.index_mut.result.now =
    slice_get_read c.self.inside.entries.items (length c.self.inside.entries.items)
    c.in-Some.at c.index_mut.result.now refl lt c.index_mut.ensures.value in
    let same : c.index_mut.result.now ≡ c.in-Some-get.entry.now =
    some_same (sym again ∙ ap (λ (es : List Entry). slice_get es c.in-Some.at)
    (sym c.deref.ensures.value) ∙ get) in
    let new = put_new_is c.args.self.now c.self.inside.entries.items c.self.inside.current
    c.in-Some.at c.in-Some-get.entry.now c.index_mut.result.now c.note_last.new.entry
    c.in_ok-next.last c.self.view_is same c.note_last.ensures in
    subst (λ (t : Tracked). GoesOn c.args.facts.now c.put_updates.new.facts [] []
    (run c.args.tables.now c.args.peer t (drop c.in_ok-next.next c.args.given.now.messages))
    (run c.args.tables.now c.args.peer c.args.self.now
    (drop c.args.from c.args.given.now.messages))) (sym new)
    (some_put c.args.peer c.in-Some-followed.followed c.in-Some-get-2.shape.now c.args.from
    c.in-Some-get.entry.now.last c.args.facts.now c.put_updates.new.facts
    c.args.given.now.messages c.in_ok-next.next c.in_ok-next.last c.args.tables.now
    c.args.self.now c.in-Some.at c.in-Some-get.entry.now c.in_ok-next.ensures.puts
    c.if-next-from.false force)

pub returns-clause-planned : goal.returns-clause-planned
returns-clause-planned c =
    let get : slice_get c.deref.result.now c.in-Some.at ≡ Some c.in-Some-get.entry.now =
    slice_get_read c.deref.result.now (length c.deref.result.now) c.in-Some.at
    c.in-Some-get.entry.now refl c.in-Some-get.ensures.lookup.3.0
    c.in-Some-get.ensures.lookup.1 in
    let force = force_is c.args.tables.now c.args.self.now c.self.inside.entries.items
    c.deref.result.now c.self.inside.current c.in-Some.at c.in-Some-get.entry.now
    c.in-Some-followed.followed c.in-Some-get-2.shape.now c.self.view_is c.deref.ensures.value
    c.in-Some.is get c.in-Some-followed.is c.in-Some-get-2.ensures in
    let lt : c.in-Some.at < length c.self.inside.entries.items =
    rw (← c.deref.ensures.value) c.in-Some-get.ensures.lookup.3.0 in
    let again : slice_get c.self.inside.entries.items c.in-Some.at
    ≡ Some c.index_mut.result.now =
    slice_get_read c.self.inside.entries.items (length c.self.inside.entries.items)
    c.in-Some.at c.index_mut.result.now refl lt c.index_mut.ensures.value in
    let same : c.index_mut.result.now ≡ c.in-Some-get.entry.now =
    some_same (sym again ∙ ap (λ (es : List Entry). slice_get es c.in-Some.at)
    (sym c.deref.ensures.value) ∙ get) in
    plan_now_of (Some c.put_updates.new.plan) c.args.tables.now
    (track_of (slice_set c.self.inside.entries.items c.in-Some.at c.note_last.new.entry)
    c.self.inside.current) c.in-Some-followed.followed
    (new_now c.self.inside.entries.items c.self.inside.current c.in-Some.at
    c.note_last.new.entry c.in-Some-followed.followed c.in-Some.is lt
    (ap (λ (e : Entry). e.followed) c.note_last.ensures
    ∙ ap (λ (e : Entry). e.followed) same ∙ c.in-Some-followed.is))
    (plan_of_force c.args.tables.now c.args.self.now c.in-Some.at c.in-Some-get.entry.now
    c.in-Some-followed.followed c.in-Some-get-2.shape.now c.in-Some-get.entry.now.last
    c.put_updates.new.plan force c.in_ok-next.ensures.planned)
