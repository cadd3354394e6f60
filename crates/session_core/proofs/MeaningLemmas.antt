-- One message more: what is kept goes on to be what the messages say.
use Rattle.std.proofs.Common.{inl, inr, ◌⊎◌, ◌≡◌, ℕ, zero, suc, Bool, true, false, eqb, ltb, ◌&&◌}
use Rattle.std.proofs.Common.{nat_le, if◌then◌else◌, List, [], ◌∷◌, length, map, insert, slice_set}
use Rattle.std.proofs.Common.{slice_get, is_some, Option, Some, None, refl, sym, ap, ◌∙◌, arith}
use Rattle.std.proofs.lemmas.Bool.{ne_eqb, eq-eqb, eqb-false, false≢true, le-ltb}
use Rattle.std.proofs.lemmas.Bool.Decides.{eqb_tells}
use Rattle.std.proofs.lemmas.List.{length-map}
use Rattle.peers_msg.specs.declared.message.Definition.{Definition}
use Rattle.peers_msg.specs.declared.message.Message.{Message}
use Rattle.peers_msg.specs.declared.message.Message.TheVariants as messages
use Rattle.peers_msg.specs.declared.fault.WireCause.TheVariants.{BadField}
use Rattle.agg_types.specs.declared.config.Shape.{Shape}
use Rattle.agg_types.specs.declared.event.What.{What}
use Rattle.agg_types.specs.declared.limits.TheConstants.{MOST_FOLLOWED}
use Rattle.session_core.specs.declared.cause.End.TheVariants.{Wire}
use Rattle.session_core.specs.declared.track.Entry.{Entry}
use Rattle.session_core.specs.declared.track.Followed.{Followed}
use Rattle.session_core.specs.Meaning.{Meaning, Nothing, Confirm, Partial, Fact, End}
use Rattle.session_core.specs.InForce.{followed_ids, followed_under, id_given, id_in_force}
use Rattle.session_core.specs.InForce.{is_under, is_updated, last_id, table_in_force}
use Rattle.session_core.specs.InForce.{update_of_message, with_followed, with_id}
use Rattle.session_core.specs.Talk.{current_for, entries_for, entry_for, meaning, row_or_end}
use Rattle.session_core.specs.Talk.{track_for, update_under}
use Rattle.session_core.specs.Tracked.{Step, Tracked, defined, entry_of, followed_of, step_of}
use Rattle.session_core.specs.Tracked.{id_after, place, place_if, place_of, put_of, updated_under}
use Rattle.session_core.specs.Tracked.{updated_if, updated_at, updated_by}
use Rattle.session_core.proofs.TrackLemmas.{Ascends, HasIds, found_in, insert_in, is_in, lt_tells}
use Rattle.session_core.proofs.TrackLemmas.{map_same, not_found, place_in, place_map, set_in}
use Rattle.session_core.proofs.TrackLemmas.{with_id_ascends, with_id_in, or_false}

pub bool_tells : (b : Bool) → (b ≡ true) ⊎ (b ≡ false)
bool_tells true = inl refl
bool_tells false = inr refl

and_false : (b : Bool) → (b && false) ≡ false
and_false true = refl
and_false false = refl

-- ---- followed ids

in_with : (id : ℕ) (ids : List ℕ) → is_in id (with_id id ids) ≡ true
in_with id [] = rw (eq-eqb id id refl) refl
in_with id (x ∷ ids) =
    elim (lt_tells x id) [
      | inl p ↦ let apart : eqb x id ≡ false = ne_eqb x id (λ s. omega (arith, s, p.1)) in
          rw (p.0, apart) (in_with id ids)
      | inr p ↦ rw p.0 (elim (eqb_tells x id) [
        | inl q ↦ rw q.0 (rw q.0 refl)
        | inr q ↦
            rw q.0 (rw (eq-eqb id id refl) refl)
      ])
    ]

still_in : (id other : ℕ) (ids : List ℕ) → is_in id (with_id other ids) ≡ false
    → is_in id ids ≡ false
still_in id other [] e = refl
still_in id other (x ∷ ids) e =
    elim (lt_tells x other) [
      | inl p ↦
          let both = or_false (eqb x id) (is_in id (with_id other ids)) (rw p.0 at e) in
          rw both.0 (still_in id other ids both.1)
      | inr p ↦
          let e' = rw p.0 at e in
          elim (eqb_tells x other) [
            | inl q ↦ (rw q.0 at e')
            | inr q ↦
                (or_false (eqb other id) (is_in id (x ∷ ids)) (rw q.0 at e')).1
          ]
    ]

with_followed_ascends : (tables : List Shape) (message : Message) (ids : List ℕ) → Ascends ids
    → Ascends (with_followed tables message ids)
with_followed_ascends tables (messages.Define definition) ids h =
    elim (bool_tells (is_some (followed_of tables definition))) [
      | inl e ↦
          rw e (with_id_ascends definition.id ids h)
      | inr e ↦ rw e h
    ]
with_followed_ascends tables (messages.Switch id) ids h = h
with_followed_ascends tables messages.Request ids h = h
with_followed_ascends tables messages.Finished ids h = h
with_followed_ascends tables messages.Partial ids h = h
with_followed_ascends tables messages.Confirm ids h = h
with_followed_ascends tables messages.Heartbeat ids h = h
with_followed_ascends tables messages.ProtocolError ids h = h
with_followed_ascends tables messages.SizeError ids h = h
with_followed_ascends tables (messages.Update id life rest) ids h = h
with_followed_ascends tables (messages.Acked id last) ids h = h
with_followed_ascends tables (messages.Other class kind) ids h = h

pub ids_ascend : (tables : List Shape) (past : List Message) → Ascends (followed_ids tables past)
ids_ascend tables [] = tt
ids_ascend tables (message ∷ past) = with_followed_ascends tables message (followed_ids tables past)
    (ids_ascend tables past)

known_before : (tables : List Shape) (id : ℕ) (message : Message) (ids : List ℕ)
    → is_in id (with_followed tables message ids) ≡ false → is_in id ids ≡ false
known_before tables id (messages.Define definition) ids e =
    elim (bool_tells (is_some (followed_of tables definition))) [
      | inl f ↦
          still_in id definition.id ids (rw f at e)
      | inr f ↦ (rw f at e)
    ]
known_before tables id (messages.Switch other) ids e = e
known_before tables id messages.Request ids e = e
known_before tables id messages.Finished ids e = e
known_before tables id messages.Partial ids e = e
known_before tables id messages.Confirm ids e = e
known_before tables id messages.Heartbeat ids e = e
known_before tables id messages.ProtocolError ids e = e
known_before tables id messages.SizeError ids e = e
known_before tables id (messages.Update other life rest) ids e = e
known_before tables id (messages.Acked other last) ids e = e
known_before tables id (messages.Other class kind) ids e = e

none_of : {A : Type 0} (o : Option A) → is_some o ≡ false → o ≡ None
none_of None e = refl
none_of (Some x) e = absurd (false≢true (sym e))

unfollowed_by : (tables : List Shape) (id : ℕ) (message : Message) (past : List Message)
    → is_in id (followed_ids tables (message ∷ past)) ≡ false
    → (is_in id (followed_ids tables past) ≡ false → followed_under tables id past ≡ None)
    → followed_under tables id (message ∷ past) ≡ None
unfollowed_by tables id (messages.Define definition) past e before =
    elim (eqb_tells definition.id id) [
      | inl q ↦
          rw q.0 (elim (bool_tells (is_some (followed_of tables definition))) [
            | inl f ↦ absurd (false≢true (sym (rw (f, q.1) at e)
                ∙ in_with id (followed_ids tables past)))
            | inr f ↦ none_of (followed_of tables definition) f
          ])
      | inr q ↦ rw q.0 (before (known_before tables id (messages.Define definition)
          (followed_ids tables past) e))
    ]
unfollowed_by tables id (messages.Switch other) past e before = before e
unfollowed_by tables id messages.Request past e before = before e
unfollowed_by tables id messages.Finished past e before = before e
unfollowed_by tables id messages.Partial past e before = before e
unfollowed_by tables id messages.Confirm past e before = before e
unfollowed_by tables id messages.Heartbeat past e before = before e
unfollowed_by tables id messages.ProtocolError past e before = before e
unfollowed_by tables id messages.SizeError past e before = before e
unfollowed_by tables id (messages.Update other life rest) past e before = before e
unfollowed_by tables id (messages.Acked other last) past e before = before e
unfollowed_by tables id (messages.Other class kind) past e before = before e

-- an id that never had a followed definition is under none
unfollowed : (tables : List Shape) (id : ℕ) (past : List Message)
    → is_in id (followed_ids tables past) ≡ false → followed_under tables id past ≡ None
unfollowed tables id [] e = refl
unfollowed tables id (message ∷ past) e =
    unfollowed_by tables id message past e (unfollowed tables id past)

-- under no followed definition there is no followed update
not_under : (tables : List Shape) (id : ℕ) (past : List Message) → followed_under tables id past
    ≡ None → is_under tables id past ≡ false
not_under tables id past none = rw none (and_false _)

id_given_not : (given : Option (Option ℕ)) (last : ℕ) → id_given false given last ≡ last
id_given_not None last = refl
id_given_not (Some explicit) last = refl

unused : (tables : List Shape) (id : ℕ) (past : List Message) → is_in id (followed_ids tables past)
    ≡ false → last_id tables id past ≡ 0
unused tables id [] e = refl
unused tables id (message ∷ past) e =
    let before = known_before tables id message (followed_ids tables past) e in
    rw (not_under tables id past (unfollowed tables id past before))
    (id_given_not (update_of_message message) (last_id tables id past)
    ∙ unused tables id past before)

not_updated : (tables : List Shape) (id newest : ℕ) (past : List Message)
    → is_in id (followed_ids tables past) ≡ false → is_updated tables id newest past ≡ false
not_updated tables id zero past e = refl
not_updated tables id (suc newest) [] e = refl
not_updated tables id (suc newest) (message ∷ past) e =
    let before = known_before tables id message (followed_ids tables past) e in
    rw (
      not_under tables id past (unfollowed tables id past before),
      and_false (is_some (update_of_message message)),
    ) (not_updated tables id newest past before)

-- ---- one message more

-- what is kept after a message of this meaning
abbrev pub kept_by : Meaning → Tracked → Tracked → Tracked
kept_by (End end) old new = old
kept_by Nothing old new = new
kept_by Confirm old new = new
kept_by Partial old new = new
kept_by (Fact fact) old new = new

-- the step of a message behind those before it, so many of which are this piece's
abbrev pub step_for : List Shape → ℕ → ℕ → List Message → Message → Step
step_for tables peer newest past message =
    record {
      track = kept_by (meaning tables peer past message) (track_for tables newest past)
          (track_for tables (suc newest) (message ∷ past));
      meaning = meaning tables peer past message;
    }

has_ids : (tables : List Shape) (newest : ℕ) (past : List Message)
    → HasIds (entry_for tables newest past)
has_ids tables newest past = λ id. refl

-- the place of an id is the same whatever is kept of it
pub place_for : (tables : List Shape) (id newest : ℕ) (past : List Message)
    → place id (entries_for tables newest past) ≡ place_in id (followed_ids tables past)
place_for tables id newest past =
    place_map (entry_for tables newest past) id (followed_ids tables past)
    (has_ids tables newest past)

entry_known : (tables : List Shape) (id newest : ℕ) (past : List Message)
    → is_in id (followed_ids tables past) ≡ true → entry_of id (entries_for tables newest past)
    ≡ Some (entry_for tables newest past id)
entry_known tables id newest past e =
    rw (
      place_for tables id newest past,
      found_in (entry_for tables newest past) id (followed_ids tables past)
          (ids_ascend tables past) e,
    ) (rw (eq-eqb id id refl) refl)

entry_unknown : (tables : List Shape) (id newest : ℕ) (past : List Message)
    → is_in id (followed_ids tables past) ≡ false
    → entry_of id (entries_for tables newest past) ≡ None
entry_unknown tables id newest past e =
    rw (place_for tables id newest past) (not_found (entry_for tables newest past) id
    (followed_ids tables past) (has_ids tables newest past) e)

place_switched : (tables : List Shape) (id newest : ℕ) (past : List Message) (at : ℕ)
    → place_of (entry_of id (entries_for tables newest past)) at
    ≡ place_if (followed_under tables id past) at
place_switched tables id newest past at =
    elim (bool_tells (is_in id (followed_ids tables past))) [
      | inl e ↦ rw (entry_known tables id newest past e) refl
      | inr e ↦ rw (entry_unknown tables id newest past e, unfollowed tables id past e) refl
    ]

switch_is : (tables : List Shape) (peer newest : ℕ) (past : List Message) (id : ℕ)
    → step_of tables peer (track_for tables newest past) (messages.Switch id) ≡ step_for tables peer
    newest past (messages.Switch id)
unfolding step_of meaning
switch_is tables peer newest past id =
    ap (λ (c : Option ℕ). let t : Tracked =
    record { entries = entries_for tables newest past; current = c } in let s : Step =
    record { track = t; meaning = Nothing } in
    s) (place_switched tables id newest past (place id (entries_for tables newest past)))

-- ---- a definition

ltb-same : (id : ℕ) → ltb id id ≡ false
ltb-same id = le-ltb id id (omega arith)

place_with : (id : ℕ) (ids : List ℕ) → place_in id (with_id id ids) ≡ place_in id ids
place_with id [] = rw (ltb-same id) refl
place_with id (x ∷ ids) =
    elim (lt_tells x id) [
      | inl p ↦ rw p.0 (rw p.0 (ap suc (place_with id ids)))
      | inr p ↦ rw p.0 (elim (eqb_tells x id) [
        | inl q ↦ rw q.0 (rw p.0 refl)
        | inr q ↦
            rw q.0 (rw (ltb-same id) refl)
      ])
    ]

place_new : (tables : List Shape) (definition : Definition) (past : List Message)
    → place_in definition.id (followed_ids tables (messages.Define definition ∷ past))
    ≡ place_in definition.id (followed_ids tables past)
place_new tables definition past =
    elim (bool_tells (is_some (followed_of tables definition))) [
      | inl e ↦
          rw e (place_with definition.id (followed_ids tables past))
      | inr e ↦ rw e refl
    ]

-- what a definition makes of the id that it is of
defined_own : (tables : List Shape) (newest : ℕ) (definition : Definition) (past : List Message)
    → followed_under tables definition.id (messages.Define definition ∷ past)
    ≡ followed_of tables definition
defined_own tables newest definition past = rw (eq-eqb definition.id definition.id refl) refl

own_entry : (tables : List Shape) (newest : ℕ) (definition : Definition) (past : List Message)
    → entry_for tables (suc newest) (messages.Define definition ∷ past) definition.id
    ≡ record (entry_for tables newest past definition.id) {
      followed =
          followed_of tables definition;
    }
own_entry tables newest definition past = rw (eq-eqb definition.id definition.id refl) refl

-- and of any other
other_entry : (tables : List Shape) (newest : ℕ) (definition : Definition) (past : List Message)
    (x : ℕ) → eqb x definition.id ≡ false
    → entry_for tables (suc newest) (messages.Define definition ∷ past) x
    ≡ entry_for tables newest past x
other_entry tables newest definition past x e =
    rw (ne_eqb definition.id x (λ s. eqb-false x definition.id e (sym s))) refl

quiet_same : {a b : List Entry} {c d : Option ℕ} → a ≡ b → c ≡ d
    → (let t : Tracked = record { entries = a; current = c } in let s : Step =
    record { track = t; meaning = Nothing } in s) ≡ (let t : Tracked =
    record { entries = b; current = d } in let s : Step = record { track = t; meaning = Nothing } in
    s)
quiet_same e f = rw (e, f) refl

-- the place that a definition puts in force
define_place : (tables : List Shape) (newest : ℕ) (definition : Definition) (past : List Message)
    → place_if (followed_of tables definition)
    (place definition.id (entries_for tables newest past))
    ≡ place_if (followed_under tables definition.id (messages.Define definition ∷ past))
    (place definition.id (entries_for tables (suc newest) (messages.Define definition ∷ past)))
define_place tables newest definition past =
    let new = messages.Define definition ∷ past in
    let old_place = place_for tables definition.id newest past in
    let new_place = place_for tables definition.id (suc newest) new
    ∙ place_new tables definition past in
    let e : place definition.id (entries_for tables newest past) ≡ place definition.id
    (entries_for tables (suc newest) new) = old_place ∙ sym new_place in
    let f = defined_own tables newest definition past in
    ap (place_if (followed_of tables definition)) e
    ∙ ap (λ (o : Option Followed). place_if o
    (place definition.id (entries_for tables (suc newest) new))) (sym f)

define_known : (tables : List Shape) (newest : ℕ) (definition : Definition) (past : List Message)
    → is_in definition.id (followed_ids tables past) ≡ true
    → defined (track_for tables newest past) definition.id (followed_of tables definition)
    (Some (entry_for tables newest past definition.id)) ≡ record {
      track =
          track_for tables (suc newest) (messages.Define definition ∷ past);
      meaning = Nothing;
    }
define_known tables newest definition past e =
    let new = messages.Define definition ∷ past in
    let ids = followed_ids tables past in
    let same : followed_ids tables new ≡ ids =
    elim (bool_tells (is_some (followed_of tables definition))) [
      | inl f ↦
          rw f (with_id_in definition.id ids (ids_ascend tables past) e)
      | inr f ↦ rw f refl
    ] in
    let set = set_in (entry_for tables newest past) (entry_for tables (suc newest) new)
    definition.id ids (ids_ascend tables past) e (other_entry tables newest definition past) in
    let entries : slice_set (entries_for tables newest past)
    (place definition.id (entries_for tables newest past))
    (record (entry_for tables newest past definition.id) {
      followed =
          followed_of tables definition;
    }) ≡ entries_for tables (suc newest) new =
    rw (place_for tables definition.id newest past, ← own_entry tables newest definition past) (set
    ∙ ap (map (entry_for tables (suc newest) new)) (sym same)) in
    quiet_same entries (define_place tables newest definition past)

define_skipped : (tables : List Shape) (newest : ℕ) (definition : Definition) (past : List Message)
    → is_in definition.id (followed_ids tables past) ≡ false → followed_of tables definition ≡ None
    → defined (track_for tables newest past) definition.id (followed_of tables definition) None
    ≡ record {
      track = track_for tables (suc newest) (messages.Define definition ∷ past);
      meaning =
          Nothing;
    }
define_skipped tables newest definition past e none =
    let new = messages.Define definition ∷ past in
    let own : entry_for tables (suc newest) new definition.id ≡ entry_for tables newest past
    definition.id =
    own_entry tables newest definition past ∙ ap (λ (o : Option Followed). let r : Entry =
    record (entry_for tables newest past definition.id) { followed = o } in r) (none
    ∙ sym (unfollowed tables definition.id past e)) in
    let each : (x : ℕ) → entry_for tables (suc newest) new x ≡ entry_for tables newest past x =
    λ x. elim (eqb_tells x definition.id) [
      | inl q ↦ ap (entry_for tables (suc newest) new) q.1 ∙ own
          ∙ sym (ap (entry_for tables newest past) q.1)
      | inr q ↦ other_entry tables newest definition past x q.0
    ] in
    let same : followed_ids tables new ≡ followed_ids tables past = rw none refl in
    let entries : entries_for tables newest past ≡ entries_for tables (suc newest) new =
    sym (map_same (entry_for tables newest past) (entry_for tables (suc newest) new)
    (followed_ids tables past) each)
    ∙ ap (map (entry_for tables (suc newest) new)) (sym same) in
    let current : None ≡ place_if (followed_under tables definition.id new)
    (place definition.id (entries_for tables (suc newest) new)) =
    rw (defined_own tables newest definition past, none) refl in
    ap (λ (o : Option Followed). defined (track_for tables newest past) definition.id o None) none
    ∙ quiet_same entries current

define_more : (tables : List Shape) (newest : ℕ) (definition : Definition) (past : List Message)
    (followed : Followed) → is_in definition.id (followed_ids tables past) ≡ false
    → followed_of tables definition ≡ Some followed
    → nat_le MOST_FOLLOWED (length (entries_for tables newest past)) ≡ false
    → defined (track_for tables newest past) definition.id (followed_of tables definition) None
    ≡ record {
      track = track_for tables (suc newest) (messages.Define definition ∷ past);
      meaning =
          Nothing;
    }
define_more tables newest definition past followed e some room =
    let new = messages.Define definition ∷ past in
    let ids = followed_ids tables past in
    let grown : followed_ids tables new ≡ with_id definition.id ids = rw some refl in
    let fresh : entry_for tables (suc newest) new definition.id ≡ record {
      id =
          definition.id;
      last = 0;
      updated = false;
      followed = Some followed;
    } =
    own_entry tables newest definition past ∙ rw (
      some,
      unused tables definition.id past e,
      not_updated tables definition.id newest past e,
    ) refl in
    let put = insert_in (entry_for tables newest past) (entry_for tables (suc newest) new)
    definition.id ids e (other_entry tables newest definition past) in
    let entries : insert (entries_for tables newest past)
    (place definition.id (entries_for tables newest past)) (record {
      id = definition.id;
      last =
          0;
      updated = false;
      followed = Some followed;
    }) ≡ entries_for tables (suc newest) new =
    rw (place_for tables definition.id newest past, ← fresh) (put
    ∙ ap (map (entry_for tables (suc newest) new)) (sym grown)) in
    let current : Some (place definition.id (entries_for tables newest past))
    ≡ place_if (followed_under tables definition.id new)
    (place definition.id (entries_for tables (suc newest) new)) =
    ap (λ (o : Option Followed). place_if o (place definition.id (entries_for tables newest past)))
    (sym some) ∙ define_place tables newest definition past in
    ap (λ (o : Option Followed). defined (track_for tables newest past) definition.id o None) some
    ∙ rw room (quiet_same entries current)

define_full : (tables : List Shape) (newest : ℕ) (definition : Definition) (past : List Message)
    (followed : Followed) → followed_of tables definition ≡ Some followed
    → nat_le MOST_FOLLOWED (length (entries_for tables newest past)) ≡ true
    → defined (track_for tables newest past) definition.id (followed_of tables definition) None
    ≡ record { track = track_for tables newest past; meaning = End (Wire BadField) }
define_full tables newest definition past followed some full =
    ap (λ (o : Option Followed). defined (track_for tables newest past) definition.id o None) some
    ∙ rw full refl

entries_len : (tables : List Shape) (newest : ℕ) (past : List Message)
    → length (entries_for tables newest past) ≡ length (followed_ids tables past)
entries_len tables newest past =
    length-map (followed_ids tables past) (entry_for tables newest past)

-- what a definition means, by whether it is of a known id, and whether it is followed
meaning_known : (tables : List Shape) (peer : ℕ) (definition : Definition) (past : List Message)
    → is_in definition.id (followed_ids tables past) ≡ true
    → meaning tables peer past (messages.Define definition) ≡ Nothing
unfolding meaning
meaning_known tables peer definition past e =
    rw (e, and_false (is_some (followed_of tables definition))) refl

meaning_skipped : (tables : List Shape) (peer : ℕ) (definition : Definition) (past : List Message)
    → followed_of tables definition ≡ None
    → meaning tables peer past (messages.Define definition) ≡ Nothing
unfolding meaning
meaning_skipped tables peer definition past none = rw none refl

meaning_new : (tables : List Shape) (peer : ℕ) (definition : Definition) (past : List Message)
    (followed : Followed) (full : Bool) → is_in definition.id (followed_ids tables past) ≡ false
    → followed_of tables definition ≡ Some followed
    → nat_le MOST_FOLLOWED (length (followed_ids tables past))
    ≡ full → meaning tables peer past (messages.Define definition)
    ≡ (if full then End (Wire BadField) else Nothing)
unfolding meaning
meaning_new tables peer definition past followed full e some is = rw (some, e, is) refl

step_same : {s : Step} {h : Meaning} (old new : Tracked) (m : Meaning) → m ≡ h
    → s ≡ record { track = kept_by h old new; meaning = h }
    → s ≡ record { track = kept_by m old new; meaning = m }
step_same old new m e f = rw e f

pub some_of : {A : Type 0} (o : Option A) → (o ≡ None) ⊎ ((x : A) × (o ≡ Some x))
some_of None = inl refl
some_of (Some x) = inr (x, refl)

define_is : (tables : List Shape) (peer newest : ℕ) (past : List Message) (definition : Definition)
    → step_of tables peer (track_for tables newest past) (messages.Define definition)
    ≡ step_for tables peer newest past (messages.Define definition)
unfolding step_of
define_is tables peer newest past definition =
    let t = track_for tables newest past in
    let u = track_for tables (suc newest) (messages.Define definition ∷ past) in
    elim (bool_tells (is_in definition.id (followed_ids tables past))) [
      | inl e ↦
          step_same t u (meaning tables peer past (messages.Define definition))
          (meaning_known tables peer definition past e)
          (ap (defined t definition.id (followed_of tables definition))
          (entry_known tables definition.id newest past e)
          ∙ define_known tables newest definition past e)
      | inr e ↦
          let unknown = ap (defined t definition.id (followed_of tables definition))
          (entry_unknown tables definition.id newest past e) in
          elim (some_of (followed_of tables definition)) [
            | inl none ↦ step_same t u (meaning tables peer past (messages.Define definition))
                (meaning_skipped tables peer definition past none) (unknown
                ∙ define_skipped tables newest definition past e none)
            | inr some ↦
                elim (bool_tells (nat_le MOST_FOLLOWED (length (followed_ids tables past)))) [
                  | inl full ↦
                      step_same t u (meaning tables peer past (messages.Define definition))
                      (meaning_new tables peer definition past some.0 true e some.1 full)
                      (unknown ∙ define_full tables newest definition past some.0 some.1
                      (ap (nat_le MOST_FOLLOWED) (entries_len tables newest past) ∙ full))
                  | inr room ↦
                      step_same t u (meaning tables peer past (messages.Define definition))
                      (meaning_new tables peer definition past some.0 false e some.1 room)
                      (unknown ∙ define_more tables newest definition past some.0 e some.1
                      (ap (nat_le MOST_FOLLOWED) (entries_len tables newest past) ∙ room))
                ]
          ]
    ]

-- ---- an update

update_entry : (tables : List Shape) (newest : ℕ) (past : List Message) (id life : Option ℕ)
    (rest : List ℕ) (x : ℕ) → is_under tables x past ≡ false
    → entry_for tables (suc newest) (messages.Update id life rest ∷ past) x
    ≡ entry_for tables newest past x
update_entry tables newest past id life rest x e = rw e refl

pub none_some : {A : Type 0} (x : A) → None ≡ Some x → ⊥
none_some x e = cc

fact_same : {a b : List Entry} {c d : Option ℕ} (put : What) → a ≡ b → c ≡ d
    → (let t : Tracked = record { entries = a; current = c } in let s : Step =
    record { track = t; meaning = Fact put } in s) ≡ (let t : Tracked =
    record { entries = b; current = d } in let s : Step =
    record { track = t; meaning = Fact put } in s)
fact_same put e f = rw (e, f) refl

-- an update that is skipped changes nothing that is kept
update_skipped : (tables : List Shape) (newest : ℕ) (past : List Message) (id life : Option ℕ)
    (rest : List ℕ) → ((x : ℕ) → is_under tables x past ≡ false) → track_for tables newest past
    ≡ track_for tables (suc newest) (messages.Update id life rest ∷ past)
update_skipped tables newest past id life rest none =
    let new = messages.Update id life rest ∷ past in
    let entries : entries_for tables newest past ≡ entries_for tables (suc newest) new =
    sym (map_same (entry_for tables newest past) (entry_for tables (suc newest) new)
    (followed_ids tables past) (λ x. update_entry tables newest past id life rest
    x (none x))) in
    ap (λ (es : List Entry). let t : Tracked =
    record { entries = es; current = current_for tables past es (id_in_force past) } in
    t) entries

update_none : (tables : List Shape) (peer newest : ℕ) (past : List Message) (id life : Option ℕ)
    (rest : List ℕ) → track_for tables newest past ≡ track_for tables (suc newest)
    (messages.Update id life rest ∷ past) → (track_for tables newest past).current ≡ None
    → meaning tables peer past (messages.Update id life rest) ≡ Nothing
    → step_of tables peer (track_for tables newest past) (messages.Update id life rest)
    ≡ step_for tables peer newest past (messages.Update id life rest)
unfolding step_of
update_none tables peer newest past id life rest same none means =
    step_same (track_for tables newest past)
    (track_for tables (suc newest) (messages.Update id life rest ∷ past))
    (meaning tables peer past (messages.Update id life rest)) means
    (ap (λ (at : Option ℕ). updated_under tables peer (track_for tables newest past)
    at id life rest) none ∙ ap (λ (t : Tracked). let s : Step =
    record { track = t; meaning = Nothing } in s) same)

other_under : (tables : List Shape) (past : List Message) (id x : ℕ) → id_in_force past ≡ Some id
    → eqb id x ≡ false → is_under tables x past ≡ false
other_under tables past id x force apart = rw (force, apart) refl

none_under : (tables : List Shape) (past : List Message) → id_in_force past ≡ None → (x : ℕ)
    → is_under tables x past ≡ false
none_under tables past none x = rw none refl

unfollowed_force : (tables : List Shape) (past : List Message) (id : ℕ) → id_in_force past ≡ Some id
    → followed_under tables id past ≡ None → (x : ℕ) → is_under tables x past ≡ false
unfollowed_force tables past id force none x =
    elim (eqb_tells id x) [
      | inl q ↦ not_under tables x past (ap (λ n. followed_under tables n past) (sym q.1) ∙ none)
      | inr q ↦ other_under tables past id x force q.0
    ]

meaning_update : (tables : List Shape) (peer : ℕ) (past : List Message) (id life : Option ℕ)
    (rest : List ℕ) → meaning tables peer past (messages.Update id life rest) ≡ update_under tables
    peer (table_in_force tables past) life rest
unfolding meaning
meaning_update tables peer past id life rest = refl

-- the entry of the id in force after a followed update
update_own : (tables : List Shape) (newest : ℕ) (past : List Message) (explicit life : Option ℕ)
    (rest : List ℕ) (id : ℕ) (followed : Followed) → id_in_force past ≡ Some id
    → followed_under tables id past ≡ Some followed
    → entry_for tables (suc newest) (messages.Update explicit life rest ∷ past) id
    ≡ record (entry_for tables newest past id) {
      last =
          id_after (last_id tables id past) explicit;
      updated = true;
    }
update_own tables newest past explicit life rest id followed force is =
    let under : is_under tables id past ≡ true = rw (force, eq-eqb id id refl, is) refl in
    rw under refl

known_id : (tables : List Shape) (past : List Message) (id : ℕ) (followed : Followed)
    → followed_under tables id past ≡ Some followed → is_in id (followed_ids tables past) ≡ true
known_id tables past id followed is =
    elim (bool_tells (is_in id (followed_ids tables past))) [
      | inl e ↦ e
      | inr e ↦ let clash = sym (unfollowed tables id past e) ∙ is in
          elim (none_some followed clash) [ ]
    ]

-- what an update does under the followed id in force
update_done : (tables : List Shape) (peer newest : ℕ) (past : List Message)
    (explicit life : Option ℕ) (rest : List ℕ) (id : ℕ) (followed : Followed) (put : Option What)
    → id_in_force past ≡ Some id → followed_under tables id past ≡ Some followed
    → updated_by (track_for tables newest past) (place id (entries_for tables newest past))
    (entry_for tables newest past id) explicit put ≡ record {
      track =
          kept_by (row_or_end put) (track_for tables newest past)
          (track_for tables (suc newest) (messages.Update explicit life rest ∷ past));
      meaning =
          row_or_end put;
    }
update_done tables peer newest past explicit life rest id followed None force is = refl
update_done tables peer newest past explicit life rest id followed (Some put) force is =
    let new = messages.Update explicit life rest ∷ past in
    let old_place = place_for tables id newest past in
    let new_place = place_for tables id (suc newest) new in
    let apart : (x : ℕ) → eqb x id ≡ false → entry_for tables (suc newest) new x
    ≡ entry_for tables newest past x =
    λ x e. update_entry tables newest past explicit life rest x
    (other_under tables past id x force (ne_eqb id x (λ s. eqb-false x id e (sym s)))) in
    let set = set_in (entry_for tables newest past) (entry_for tables (suc newest) new) id
    (followed_ids tables past) (ids_ascend tables past) (known_id tables past id followed is)
    apart in
    let entries : slice_set (entries_for tables newest past)
    (place id (entries_for tables newest past))
    (record (entry_for tables newest past id) {
      last =
          id_after (last_id tables id past) explicit;
      updated = true;
    })
    ≡ entries_for tables (suc newest) new =
    rw (old_place, ← update_own tables newest past explicit life rest id followed force is) set in
    let e : place id (entries_for tables newest past)
    ≡ place id (entries_for tables (suc newest) new) = old_place ∙ sym new_place in
    let current : current_for tables past (entries_for tables newest past) (id_in_force past)
    ≡ current_for tables new (entries_for tables (suc newest) new) (id_in_force past) =
    rw force (ap (place_if (followed_under tables id past)) e) in
    fact_same put entries current

update_is : (tables : List Shape) (peer newest : ℕ) (past : List Message) (id life : Option ℕ)
    (rest : List ℕ) → step_of tables peer (track_for tables newest past)
    (messages.Update id life rest) ≡ step_for tables peer newest past (messages.Update id life rest)
unfolding step_of
update_is tables peer newest past explicit life rest =
    let t = track_for tables newest past in
    let u = track_for tables (suc newest) (messages.Update explicit life rest ∷ past) in
    let m = meaning_update tables peer past explicit life rest in
    elim (some_of (id_in_force past)) [
      | inl none ↦
          update_none tables peer newest past explicit life rest
          (update_skipped tables newest past explicit life rest (none_under tables past none))
          (rw none refl) (m ∙ rw none refl)
      | inr force ↦
          elim (some_of (followed_under tables force.0 past)) [
            | inl none ↦
                update_none tables peer newest past explicit life rest
                (update_skipped tables newest past explicit life rest
                (unfollowed_force tables past force.0 force.1 none)) (rw (force.1, none) refl)
                (m ∙ rw (force.1, none) refl)
            | inr is ↦
                let known = known_id tables past force.0 is.0 is.1 in
                let at : t.current ≡ Some (place force.0 (entries_for tables newest past)) =
                rw (force.1, is.1) refl in
                let entry : slice_get (entries_for tables newest past)
                (place force.0 (entries_for tables newest past))
                ≡ Some (entry_for tables newest past force.0) =
                rw (place_for tables force.0 newest past)
                (found_in (entry_for tables newest past) force.0 (followed_ids tables past)
                (ids_ascend tables past) known) in
                let means : meaning tables peer past (messages.Update explicit life rest)
                ≡ row_or_end (put_of tables peer is.0 life rest) = m
                ∙ rw (force.1, is.1) refl in
                step_same t u (meaning tables peer past (messages.Update explicit life rest)) means
                (ap (λ (o : Option ℕ). updated_under tables peer t o explicit life rest) at
                ∙ ap (λ (o : Option Entry). updated_if tables peer t
                (place force.0 (entries_for tables newest past)) o explicit life rest) entry
                ∙ ap (λ (o : Option Followed). updated_at tables peer t
                (place force.0 (entries_for tables newest past))
                (entry_for tables newest past force.0) o explicit life rest) is.1
                ∙ update_done tables peer newest past explicit life rest force.0 is.0
                (put_of tables peer is.0 life rest) force.1 is.1)
          ]
    ]

-- any message
pub hear_is : (tables : List Shape) (peer newest : ℕ) (past : List Message) (message : Message)
    → step_of tables peer (track_for tables newest past) message ≡ step_for tables peer
    newest past message
unfolding step_of meaning
hear_is tables peer newest past messages.Request = refl
hear_is tables peer newest past messages.Finished = refl
hear_is tables peer newest past messages.Partial = refl
hear_is tables peer newest past messages.Confirm = refl
hear_is tables peer newest past messages.Heartbeat = refl
hear_is tables peer newest past messages.ProtocolError = refl
hear_is tables peer newest past messages.SizeError = refl
hear_is tables peer newest past (messages.Update id life rest) =
    update_is tables peer newest past id life rest
hear_is tables peer newest past (messages.Define definition) =
    define_is tables peer newest past definition
hear_is tables peer newest past (messages.Switch id) = switch_is tables peer newest past id
hear_is tables peer newest past (messages.Acked id last) = refl
hear_is tables peer newest past (messages.Other class kind) = refl
