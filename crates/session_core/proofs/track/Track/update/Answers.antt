use Rattle.std.proofs.Common.{◌≡◌, ◌<◌, ◌∙◌, List, length, Some, refl, sym, ap}
use Rattle.std.specs.Prelude.{slice_get, slice_set}
use Rattle.std.proofs.lemmas.Option.{slice_get_read}
use Rattle.session_core.specs.declared.track.Entry.{Entry}
use Rattle.session_core.specs.Tracked.{put_of, updated_entry}
use Rattle.session_core.proofs.FitLemmas.{some_same}
use Rattle.session_core.proofs.PlanNowLemmas.{track_of, new_is, new_now, now_is, plan_now_of}
use Rattle.session_core.proofs.PlanNowLemmas.{plan_of_now, under_is, told_step, cut_step}
use Rattle.session_core.proofs.track.Track.update.Goals as goal

pub tell_put-requires : goal.tell_put-requires
tell_put-requires c =
    let get : slice_get c.deref.result.now c.in-Some.at ≡ Some c.in-Some-get.entry.now =
    slice_get_read c.deref.result.now (length c.deref.result.now) c.in-Some.at
    c.in-Some-get.entry.now refl c.in-Some-get.ensures.lookup.3.0
    c.in-Some-get.ensures.lookup.1 in
    plan_of_now c.args.plan.now c.args.tables.now c.args.self.now c.in-Some-followed.followed
    (now_is c.args.self.now c.self.inside.entries.items c.deref.result.now c.self.inside.current
    c.in-Some.at c.in-Some-get.entry.now c.in-Some-followed.followed c.self.view_is
    c.deref.ensures.value c.in-Some.is get c.in-Some-followed.is) c.requires

pub returns-then-not-branch-clause-step : goal.returns-then-not-branch-clause-step
returns-then-not-branch-clause-step c =
    let get : slice_get c.deref.result.now c.in-Some.at ≡ Some c.in-Some-get.entry.now =
    slice_get_read c.deref.result.now (length c.deref.result.now) c.in-Some.at
    c.in-Some-get.entry.now refl c.in-Some-get.ensures.lookup.3.0
    c.in-Some-get.ensures.lookup.1 in
    let told = rw c.if-not-branch.true at c.in_ok-tell_put.ensures.put in
    rw (under_is c.args.tables.now c.args.peer c.args.self.now c.self.inside.entries.items
    c.deref.result.now c.self.inside.current c.in-Some.at c.in-Some-get.entry.now
    c.in-Some-followed.followed c.args.id c.args.life c.args.bytes.now c.self.view_is
    c.deref.ensures.value c.in-Some.is get c.in-Some-followed.is)
    (cut_step c.args.self.now c.in-Some.at c.in-Some-get.entry.now c.args.id
    (put_of c.args.tables.now c.args.peer c.in-Some-followed.followed c.args.life
    c.args.bytes.now) _ _ told)

pub returns-then-not-branch-clause-planned : goal.returns-then-not-branch-clause-planned
returns-then-not-branch-clause-planned c =
    let get : slice_get c.deref.result.now c.in-Some.at ≡ Some c.in-Some-get.entry.now =
    slice_get_read c.deref.result.now (length c.deref.result.now) c.in-Some.at
    c.in-Some-get.entry.now refl c.in-Some-get.ensures.lookup.3.0
    c.in-Some-get.ensures.lookup.1 in
    plan_now_of c.tell_put.new.plan c.args.tables.now c.args.self.now c.in-Some-followed.followed
    (now_is c.args.self.now c.self.inside.entries.items c.deref.result.now c.self.inside.current
    c.in-Some.at c.in-Some-get.entry.now c.in-Some-followed.followed c.self.view_is
    c.deref.ensures.value c.in-Some.is get c.in-Some-followed.is)
    c.in_ok-tell_put.ensures.planned

pub returns-clause-step : goal.returns-clause-step
returns-clause-step c =
    let get : slice_get c.deref.result.now c.in-Some.at ≡ Some c.in-Some-get.entry.now =
    slice_get_read c.deref.result.now (length c.deref.result.now) c.in-Some.at
    c.in-Some-get.entry.now refl c.in-Some-get.ensures.lookup.3.0
    c.in-Some-get.ensures.lookup.1 in
    let lt : c.in-Some.at < length c.self.inside.entries.items =
    rw (← c.deref.ensures.value) c.in-Some-get.ensures.lookup.3.0 in
    let again : slice_get c.self.inside.entries.items c.in-Some.at ≡ Some c.index_mut.result.now =
    slice_get_read c.self.inside.entries.items (length c.self.inside.entries.items) c.in-Some.at
    c.index_mut.result.now refl lt c.index_mut.ensures.value in
    let same : c.index_mut.result.now ≡ c.in-Some-get.entry.now =
    some_same (sym again ∙ ap (λ (es : List Entry). slice_get es c.in-Some.at)
    (sym c.deref.ensures.value) ∙ get) in
    let new : c.note_update.new.entry ≡ updated_entry c.in-Some-get.entry.now c.args.id =
    c.note_update.ensures ∙ ap (λ (e : Entry). updated_entry e c.args.id) same in
    let told = rw c.if-not-branch.false at c.in_ok-tell_put.ensures.put in
    rw (under_is c.args.tables.now c.args.peer c.args.self.now c.self.inside.entries.items
    c.deref.result.now c.self.inside.current c.in-Some.at c.in-Some-get.entry.now
    c.in-Some-followed.followed c.args.id c.args.life c.args.bytes.now c.self.view_is
    c.deref.ensures.value c.in-Some.is get c.in-Some-followed.is)
    (told_step c.args.self.now c.in-Some.at c.in-Some-get.entry.now c.args.id
    (put_of c.args.tables.now c.args.peer c.in-Some-followed.followed c.args.life
    c.args.bytes.now) _ _ _ told (new_is c.args.self.now c.self.inside.entries.items
    c.self.inside.current c.in-Some.at c.in-Some-get.entry.now c.note_update.new.entry c.args.id
    c.self.view_is new))

pub returns-clause-planned : goal.returns-clause-planned
returns-clause-planned c =
    let get : slice_get c.deref.result.now c.in-Some.at ≡ Some c.in-Some-get.entry.now =
    slice_get_read c.deref.result.now (length c.deref.result.now) c.in-Some.at
    c.in-Some-get.entry.now refl c.in-Some-get.ensures.lookup.3.0
    c.in-Some-get.ensures.lookup.1 in
    let lt : c.in-Some.at < length c.self.inside.entries.items =
    rw (← c.deref.ensures.value) c.in-Some-get.ensures.lookup.3.0 in
    let again : slice_get c.self.inside.entries.items c.in-Some.at ≡ Some c.index_mut.result.now =
    slice_get_read c.self.inside.entries.items (length c.self.inside.entries.items) c.in-Some.at
    c.index_mut.result.now refl lt c.index_mut.ensures.value in
    let same : c.index_mut.result.now ≡ c.in-Some-get.entry.now =
    some_same (sym again ∙ ap (λ (es : List Entry). slice_get es c.in-Some.at)
    (sym c.deref.ensures.value) ∙ get) in
    let new : c.note_update.new.entry ≡ updated_entry c.in-Some-get.entry.now c.args.id =
    c.note_update.ensures ∙ ap (λ (e : Entry). updated_entry e c.args.id) same in
    plan_now_of c.tell_put.new.plan c.args.tables.now
    (track_of (slice_set c.self.inside.entries.items c.in-Some.at c.note_update.new.entry)
    c.self.inside.current) c.in-Some-followed.followed
    (new_now c.self.inside.entries.items c.self.inside.current c.in-Some.at
    c.note_update.new.entry c.in-Some-followed.followed c.in-Some.is lt
    (ap (λ (e : Entry). e.followed) new ∙ c.in-Some-followed.is))
    c.in_ok-tell_put.ensures.planned
