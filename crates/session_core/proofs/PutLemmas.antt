-- Updates of one table, one behind the other.
use Rattle.std.proofs.Common.{◌≡◌, ℕ, ◌+◌, ◌≤◌, ◌<◌, Bool, true, false, List, [], length, drop}
use Rattle.std.proofs.Common.{Option, None, Some, refl, sym, ap, subst, ◌∙◌, arith, inl, inr}
use Rattle.std.proofs.Common.{get_or-set_same}
use Rattle.std.specs.Prelude.{IfSome, slice_get, slice_set, eqb, ◌++◌}
use Rattle.std.proofs.lemmas.Bool.{eqb-true}
use Rattle.std.proofs.lemmas.Bool.Decides.{eqb_tells}
use Rattle.std.proofs.lemmas.List.{length-set, set-set}
use Rattle.std.proofs.lemmas.Option.{slice_get_read, slice_get_within}
use Rattle.agg_types.specs.declared.config.Shape.{Shape}
use Rattle.agg_types.specs.declared.event.What.{What}
use Rattle.peers_msg.specs.declared.message.Message.{Message}
use Rattle.peers_msg.specs.declared.message.Message.TheVariants as messages
use Rattle.session_core.specs.declared.track.Entry.{Entry}
use Rattle.session_core.specs.declared.track.Followed.{Followed}
use Rattle.session_core.specs.declared.track.Heard.TheVariants as heard
use Rattle.update_values.specs.declared.decode_plan.DecodePlan.{DecodePlan}
use Rattle.session_core.specs.Meaning.{AddsFact}
use Rattle.update_values.specs.Plan.{IsPlan}
use Rattle.session_core.specs.Plan.{IsPlanNow, IsPlanOf, followed_now}
use Rattle.session_core.specs.Puts.{IsInForce, PutsGoOn, after_puts, put_in}
use Rattle.session_core.specs.Run.{GoesOn, Run, run}
use Rattle.session_core.specs.Tracked.{Tracked, IsStep, id_after, put_of, step_of, updated_under}
use Rattle.session_core.specs.Tracked.{updated_by}
use Rattle.session_core.proofs.FitLemmas.{some_same}
use Rattle.session_core.proofs.PlanNowLemmas.{told_step, track_of, under_is}
use Rattle.session_core.proofs.RunLemmas.{goes_on_none, heard_nothing, run_next}

-- the row is that of the table's definition
put_in_is : (tables : List Shape) (peer : ℕ) (followed : Followed) (shape : Shape)
    (life : Option ℕ) (bytes : List ℕ) → slice_get tables followed.table ≡ Some shape
    → put_of tables peer followed life bytes ≡ put_in shape peer followed life bytes
unfolding put_of put_in
put_in_is tables peer followed shape life bytes is = rw is refl

-- the entry after updates, the last of which has this id
abbrev put_entry : Entry → ℕ → Entry
put_entry entry last = record entry { last = last; updated = true }

in_force_after : (tables : List Shape) (t : Tracked) (at : ℕ) (entry : Entry)
    (followed : Followed) (shape : Shape) (first last : ℕ)
    → IsInForce tables t at entry followed shape first
    → IsInForce tables (after_puts false t at entry last) at (put_entry entry last) followed shape
    last
in_force_after tables t at entry followed shape first last is =
    let there = is.is_there in
    let new = put_entry entry last in
    let lt : at < length t.entries = slice_get_within t.entries at entry there in
    let long : length t.entries ≡ length (slice_set t.entries at new) =
    sym (length-set t.entries at new) in
    record {
      is_now = is.is_now;
      is_there = slice_get_read (slice_set t.entries at new) (length t.entries)
          at new long lt (sym (get_or-set_same t.entries at new new lt));
      is_followed = is.is_followed;
      has_shape = is.has_shape;
      has_last = refl;
    }

put_step : (tables : List Shape) (peer : ℕ) (t : Tracked) (at : ℕ) (entry : Entry)
    (followed : Followed) (shape : Shape) (last : ℕ) (id life : Option ℕ) (bytes : List ℕ)
    (facts more : List What) → IsInForce tables t at entry followed shape last
    → AddsFact true facts more (put_in shape peer followed life bytes)
    → IsStep (after_puts false t at entry (id_after last id)) heard.Nothing facts more
    (step_of tables peer t (messages.Update id life bytes))
unfolding step_of
put_step tables peer t at entry followed shape last id life bytes facts more is told =
    let under : updated_under tables peer t t.current id life bytes
    ≡ updated_by t at entry id (put_of tables peer followed life bytes) =
    under_is tables peer t t.entries t.entries t.current at entry followed id life bytes refl refl
    is.is_now is.is_there is.is_followed in
    let row = put_in_is tables peer followed shape life bytes is.has_shape in
    let told_so : AddsFact true facts more (put_of tables peer followed life bytes) =
    subst (AddsFact true facts more) (sym row) told in
    let same : after_puts false t at entry (id_after last id)
    ≡ after_puts false t at entry (id_after entry.last id) =
    ap (λ (n : ℕ). after_puts false t at entry (id_after n id)) (sym is.has_last) in
    rw under (told_step t at entry id (put_of tables peer followed life bytes) facts more
    (after_puts false t at entry (id_after last id)) told_so same)

-- an update more, behind others or the first
put_more_on : (none : Bool) (tables : List Shape) (peer : ℕ) (list : List Message) (k : ℕ)
    (t : Tracked) (at : ℕ) (entry : Entry) (followed : Followed) (shape : Shape) (first last : ℕ)
    (id life : Option ℕ) (bytes : List ℕ) (old facts more : List What) (all : Run)
    → (none ≡ true → last ≡ first) → IsInForce tables t at entry followed shape first
    → Some (messages.Update id life bytes) ≡ slice_get list k
    → AddsFact true facts more (put_in shape peer followed life bytes)
    → GoesOn old facts [] [] (run tables peer (after_puts none t at entry last) (drop k list)) all
    → GoesOn old more [] []
    (run tables peer (after_puts false t at entry (id_after last id)) (drop (k + 1) list)) all
put_more_on true tables peer list k t at entry followed shape first last id life bytes old facts
    more all same is got told so_far =
    let now : IsInForce tables t at entry followed shape last =
    subst (λ (n : ℕ). IsInForce tables t at entry followed shape n) (sym (same refl)) is in
    let next = λ (s : Tracked). run tables peer s (drop (k + 1) list) in
    let message = messages.Update id life bytes in
    let left = rw (run_next tables peer t list k message got) at so_far in
    heard_nothing next (step_of tables peer t message)
    (put_step tables peer t at entry followed shape last id life bytes facts more now told) left
put_more_on false tables peer list k t at entry followed shape first last id life bytes old facts
    more all same is got told so_far =
    let inside = after_puts false t at entry last in
    let inner = put_entry entry last in
    let now = in_force_after tables t at entry followed shape first last is in
    let next = λ (s : Tracked). run tables peer s (drop (k + 1) list) in
    let message = messages.Update id life bytes in
    let left = rw (run_next tables peer inside list k message got) at so_far in
    let twice : after_puts false inside at inner (id_after last id)
    ≡ after_puts false t at entry (id_after last id) =
    ap (λ (es : List Entry). let s : Tracked = record { entries = es; current = t.current } in s)
    (set-set t.entries at inner (put_entry entry (id_after last id))) in
    subst (λ (s : Tracked). GoesOn old more [] [] (next s) all) twice
    (heard_nothing next (step_of tables peer inside message)
    (put_step tables peer inside at inner followed shape last id life bytes facts more now told)
    left)

eqb_same : (a : ℕ) → eqb a a ≡ true
eqb_same a =
    elim (eqb_tells a a) [
      | inl is ↦ is.0
      | inr is ↦ absurd (is.1 refl)
    ]

pub eqb_later : (from k : ℕ) → from ≤ k → eqb (k + 1) from ≡ false
eqb_later from k le =
    elim (eqb_tells (k + 1) from) [
      | inl is ↦ absurd (omega (arith, is.1, le))
      | inr is ↦ is.0
    ]

-- with no update all stays
pub no_puts : (peer : ℕ) (followed : Followed) (shape : Shape) (from last newest : ℕ)
    (facts : List What) (list : List Message)
    → PutsGoOn peer followed shape from last facts facts list from newest
no_puts peer followed shape from last newest facts list =
    λ tables t at entry is.
    rw (eqb_same from) (goes_on_none facts [] (run tables peer t (drop from list)))

pub put_more : (peer : ℕ) (followed : Followed) (shape : Shape) (from first : ℕ)
    (old facts more : List What) (list : List Message) (k last : ℕ) (id life : Option ℕ)
    (bytes : List ℕ) → from ≤ k → (k ≡ from → last ≡ first)
    → Some (messages.Update id life bytes) ≡ slice_get list k
    → AddsFact true facts more (put_in shape peer followed life bytes)
    → PutsGoOn peer followed shape from first old facts list k last
    → PutsGoOn peer followed shape from first old more list (k + 1) (id_after last id)
put_more peer followed shape from first old facts more list k last id life bytes le same got told
    so_far =
    λ tables t at entry is.
    rw (eqb_later from k le) (put_more_on (eqb k from) tables peer list k t at entry followed
    shape first last id life bytes old facts more (run tables peer t (drop from list))
    (λ e. same (eqb-true k from e)) is got told (so_far tables t at entry is))

-- ---- what they leave in a session

pub force_is : (tables : List Shape) (t : Tracked) (inside xs : List Entry) (current : Option ℕ)
    (at : ℕ) (entry : Entry) (followed : Followed) (shape : Shape) → track_of inside current ≡ t
    → xs ≡ inside → current ≡ Some at → slice_get xs at ≡ Some entry
    → entry.followed ≡ Some followed → Some shape ≡ slice_get tables followed.table
    → IsInForce tables t at entry followed shape entry.last
force_is tables t inside xs current at entry followed shape view same now get is has =
    subst (λ (s : Tracked). IsInForce tables s at entry followed shape entry.last) view (record {
      is_now = now;
      is_there = subst (λ (es : List Entry). slice_get es at ≡ Some entry) same get;
      is_followed = is;
      has_shape = sym has;
      has_last = refl;
    })

pub now_of_force : (tables : List Shape) (t : Tracked) (at : ℕ) (entry : Entry)
    (followed : Followed) (shape : Shape) (last : ℕ)
    → IsInForce tables t at entry followed shape last → followed_now t ≡ Some followed
now_of_force tables t at entry followed shape last is =
    rw (is.is_now, is.is_there) is.is_followed

pub plan_of_force : (tables : List Shape) (t : Tracked) (at : ℕ) (entry : Entry)
    (followed : Followed) (shape : Shape) (last : ℕ) (plan : DecodePlan)
    → IsInForce tables t at entry followed shape last
    → IsPlan followed.layout shape.cols plan → IsPlanOf tables followed plan
plan_of_force tables t at entry followed shape last plan is h =
    λ other e. subst (λ (s : Shape). IsPlan followed.layout s.cols plan)
    (some_same (sym is.has_shape ∙ e)) h

pub plan_in_force : (plan : Option DecodePlan) (tables : List Shape) (t : Tracked) (at : ℕ)
    (entry : Entry) (followed : Followed) (shape : Shape) (last : ℕ)
    → IsInForce tables t at entry followed shape last → IfSome plan (IsPlanNow tables t)
    → IfSome plan (IsPlan followed.layout shape.cols)
plan_in_force None tables t at entry followed shape last is h = tt
plan_in_force (Some plan) tables t at entry followed shape last is h =
    h followed (now_of_force tables t at entry followed shape last is) shape is.has_shape

pub none_put : (peer : ℕ) (followed : Followed) (shape : Shape) (from last : ℕ)
    (old facts : List What) (list : List Message) (next newest : ℕ) (tables : List Shape)
    (t : Tracked) (at : ℕ) (entry : Entry)
    → PutsGoOn peer followed shape from last old facts list next newest → next ≡ from
    → IsInForce tables t at entry followed shape last
    → GoesOn old facts [] [] (run tables peer t (drop from list))
    (run tables peer t (drop from list))
none_put peer followed shape from last old facts list next newest tables t at entry puts same is =
    rw (same, eqb_same from) at (puts tables t at entry is)

eqb_other : (a b : ℕ) → (a ≡ b → ⊥) → eqb a b ≡ false
eqb_other a b other =
    elim (eqb_tells a b) [
      | inl is ↦ absurd (other is.1)
      | inr is ↦ is.0
    ]

pub some_put : (peer : ℕ) (followed : Followed) (shape : Shape) (from last : ℕ)
    (old facts : List What) (list : List Message) (next newest : ℕ) (tables : List Shape)
    (t : Tracked) (at : ℕ) (entry : Entry)
    → PutsGoOn peer followed shape from last old facts list next newest → (next ≡ from → ⊥)
    → IsInForce tables t at entry followed shape last
    → GoesOn old facts [] [] (run tables peer (after_puts false t at entry newest) (drop next list))
    (run tables peer t (drop from list))
some_put peer followed shape from last old facts list next newest tables t at entry puts other is =
    rw (eqb_other next from other) at (puts tables t at entry is)

pub put_new_is : (t : Tracked) (inside : List Entry) (current : Option ℕ) (at : ℕ)
    (entry same new : Entry) (last : ℕ) → track_of inside current ≡ t → same ≡ entry
    → new ≡ record same { last = last; updated = true }
    → track_of (slice_set inside at new) current ≡ after_puts false t at entry last
put_new_is t inside current at entry same new last view is new_is =
    subst (λ (s : Tracked). track_of (slice_set inside at new) current
    ≡ after_puts false s at entry last) view
    (ap (λ (e : Entry). track_of (slice_set inside at e) current)
    (new_is ∙ ap (λ (e : Entry). put_entry e last) is))

-- what goes on behind what went on
pub goes_on_behind : {old facts more : List What} {old_replies replies : List ℕ}
    {left middle all : Run} → GoesOn facts more [] [] left middle
    → GoesOn old facts old_replies replies middle all
    → GoesOn old more old_replies replies left all
goes_on_behind {replies = replies} last first =
    record {
      facts_are = last.facts_are ∙ first.facts_are;
      replies_are = ap (λ (bytes : List ℕ). replies ++ bytes) last.replies_are
          ∙ first.replies_are;
      track_is = last.track_is ∙ first.track_is;
      end_is = last.end_is ∙ first.end_is;
    }
