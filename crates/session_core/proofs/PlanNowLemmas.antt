-- The plan of the table in force, where it is kept over an update.
use Rattle.std.proofs.Common.{◌≡◌, ℕ, ◌<◌, List, length, Option, Some, None, true, false}
use Rattle.std.proofs.Common.{get_or-set_same, refl, sym, ap, subst, ◌∙◌}
use Rattle.std.specs.Prelude.{slice_get, slice_set, IfSome}
use Rattle.std.proofs.lemmas.List.{length-set}
use Rattle.std.proofs.lemmas.Option.{slice_get_read}
use Rattle.agg_types.specs.declared.config.Shape.{Shape}
use Rattle.update_values.specs.declared.decode_plan.DecodePlan.{DecodePlan}
use Rattle.session_core.specs.declared.track.Entry.{Entry}
use Rattle.session_core.specs.declared.track.Followed.{Followed}
use Rattle.session_core.specs.Plan.{IsPlanNow, IsPlanOf, followed_now}
use Rattle.agg_types.specs.declared.event.What.{What}
use Rattle.peers_msg.specs.declared.fault.WireCause.TheVariants.{BadField}
use Rattle.session_core.specs.declared.cause.End.TheVariants.{Wire}
use Rattle.session_core.specs.declared.track.Heard.TheVariants as heard
use Rattle.session_core.specs.Meaning.{AddsFact}
use Rattle.session_core.specs.Tracked.{Tracked, IsStep, put_of, updated_by, updated_entry}
use Rattle.session_core.specs.Tracked.{updated_under}
use Rattle.session_core.proofs.FitLemmas.{some_same}

true_false : true ≡ false → ⊥
true_false e = cc

-- what is kept, from its parts
abbrev pub track_of : List Entry → Option ℕ → Tracked
track_of entries current = record { entries = entries; current = current }

pub now_is : (t : Tracked) (inside xs : List Entry) (current : Option ℕ) (at : ℕ) (entry : Entry)
    (followed : Followed) → track_of inside current ≡ t → xs ≡ inside → current ≡ Some at
    → slice_get xs at ≡ Some entry → entry.followed ≡ Some followed → followed_now t ≡ Some followed
now_is t inside xs current at entry followed view same cur get is =
    subst (λ (s : Tracked). followed_now s ≡ Some followed) view (rw (cur, ← same, get) is)

pub plan_of_now : (plan : Option DecodePlan) (tables : List Shape) (t : Tracked)
    (followed : Followed)
    → followed_now t ≡ Some followed → IfSome plan (IsPlanNow tables t)
    → IfSome plan (IsPlanOf tables followed)
plan_of_now None tables t followed is h = tt
plan_of_now (Some plan) tables t followed is h = h followed is

pub plan_now_of : (plan : Option DecodePlan) (tables : List Shape) (t : Tracked)
    (followed : Followed)
    → followed_now t ≡ Some followed → IfSome plan (IsPlanOf tables followed)
    → IfSome plan (IsPlanNow tables t)
plan_now_of None tables t followed is h = tt
plan_now_of (Some plan) tables t followed is h =
    λ other e. subst (λ (f : Followed). IsPlanOf tables f plan) (some_same (sym is ∙ e)) h

pub under_is : (tables : List Shape) (peer : ℕ) (t : Tracked) (inside xs : List Entry)
    (current : Option ℕ) (at : ℕ) (entry : Entry) (followed : Followed) (id life : Option ℕ)
    (bytes : List ℕ) → track_of inside current ≡ t → xs ≡ inside → current ≡ Some at
    → slice_get xs at ≡ Some entry → entry.followed ≡ Some followed
    → updated_under tables peer t t.current id life bytes ≡ updated_by t
    at entry id (put_of tables peer followed life bytes)
under_is tables peer t inside xs current at entry followed id life bytes view same cur get is =
    subst (λ (s : Tracked). updated_under tables peer s s.current id life bytes ≡ updated_by s
    at entry id (put_of tables peer followed life bytes)) view (rw (cur, ← same, get, is) refl)

pub new_is : (t : Tracked) (inside : List Entry) (current : Option ℕ) (at : ℕ) (entry new : Entry)
    (id : Option ℕ) → track_of inside current ≡ t → new ≡ updated_entry entry id
    → track_of (slice_set inside at new) current
    ≡ track_of (slice_set t.entries at (updated_entry entry id)) t.current
new_is t inside current at entry new id view is =
    subst (λ (s : Tracked). track_of (slice_set inside at new) current
    ≡ track_of (slice_set s.entries at (updated_entry entry id)) s.current) view
    (ap (λ (e : Entry). track_of (slice_set inside at e) current) is)

pub new_now : (inside : List Entry) (current : Option ℕ) (at : ℕ) (new : Entry)
    (followed : Followed) → current ≡ Some at → at < length inside → new.followed ≡ Some followed
    → followed_now (track_of (slice_set inside at new) current) ≡ Some followed
new_now inside current at new followed cur lt is =
    let len : length inside ≡ length (slice_set inside at new) = sym (length-set inside at new) in
    let get : slice_get (slice_set inside at new) at ≡ Some new =
    slice_get_read (slice_set inside at new) (length inside)
    at new len lt (sym (get_or-set_same inside at new new lt)) in
    rw (cur, get) is

-- an update whose row was told, and one that can't be read
pub told_step : (t : Tracked) (at : ℕ) (entry : Entry) (id : Option ℕ) (o : Option What)
    (old new : List What) (track : Tracked) → AddsFact true old new o
    → track ≡ track_of (slice_set t.entries at (updated_entry entry id)) t.current
    → IsStep track heard.Nothing old new (updated_by t at entry id o)
told_step t at entry id None old new track is same = elim (true_false is.0) [ ]
told_step t at entry id (Some put) old new track is same = (same, (refl, is.1))

pub cut_step : (t : Tracked) (at : ℕ) (entry : Entry) (id : Option ℕ) (o : Option What)
    (old new : List What) → AddsFact false old new o
    → IsStep t (heard.End (Wire BadField)) old new (updated_by t at entry id o)
cut_step t at entry id None old new is = (refl, (refl, is.1))
cut_step t at entry id (Some put) old new is = elim (true_false (sym is.0)) [ ]
