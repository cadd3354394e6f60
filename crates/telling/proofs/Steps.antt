-- What is left of a turn, message by message.
use Rattle.std.proofs.Common.{◌≡◌, ◌≢◌, ℕ, zero, suc, ◌+◌, ◌-◌, ◌≤◌, ◌<◌, Bool, true}
use Rattle.std.proofs.Common.{false, List, [], ◌∷◌, ◌++◌, length, take, drop, None, Some, inl, inr}
use Rattle.std.proofs.Common.{refl, ap, sym, subst, ◌∙◌, arith, append_assoc, append-nil}
use Rattle.std.proofs.Common.{length-drop}
use Rattle.std.proofs.lemmas.Bool.Decides.{nat_tests}
use Rattle.std.proofs.lemmas.List.{drop-drop, drop_all}
use Rattle.std.proofs.lemmas.List.Concat.{flat_map-append}
use Rattle.std.specs.Prelude.{◌==◌, if◌then◌else◌, Option, MatchOption}
use Rattle.peers_msg.specs.Spelling.{message_spelling}
use Rattle.peers_msg.specs.declared.message.Message.{Message}
use Rattle.peers_msg.specs.declared.message.Message.TheVariants as messages
use Rattle.pushed_keys.specs.Turns.{AreSaid, next_id}
use Rattle.pushed_keys.specs.declared.change.Change.{Change}
use Rattle.pushed_keys.specs.declared.pushed.Pushed.{Pushed}
use Rattle.pushed_keys.specs.declared.told.UnsaidTable.{UnsaidTable}
use Rattle.telling.specs.Down.{ArePast, IsFirstLeft, IsFurther, IsNext, behind, next_message}
use Rattle.telling.specs.Down.{one_said}
use Rattle.telling.specs.Telling.{defined_after, define_unless, definition_of, definitions, text_of}
use Rattle.telling.specs.Telling.{update_of, updates, with_definition}
use Rattle.telling.specs.Unsaid.{IsPiece, IsSaid, Unsaid, undefined_from, unsaid_messages}
use Rattle.telling.specs.Unsaid.{unsaid_updates}
use Rattle.telling.specs.declared.unsaid.Found.{Found}
use Rattle.telling.specs.declared.unsaid.Step.{Step}

pub text_append : (ms ns : List Message) → text_of (ms ++ ns) ≡ text_of ms ++ text_of ns
text_append ms ns = flat_map-append message_spelling ms ns

-- ---- tables of which nothing is left

-- such a table is passed
pass_one : (d b : ℕ) (ps : List Pushed) (t : UnsaidTable) (ts : List UnsaidTable)
    → t.changes ≡ []
    → unsaid_updates d b ps (t ∷ ts) ≡ unsaid_updates d (b + 1) (drop 1 ps) ts
unfolding unsaid_updates
pass_one d b [] t ts none = refl
pass_one d b (p ∷ ps) t ts none =
    ap (λ (cs : List (List ℕ × Change)). with_definition d (b + 1) p (updates p t.last cs)
    ++ unsaid_updates (defined_after d (b + 1) (updates p t.last cs)) (b + 1) ps ts) none

pub none_left : (d b : ℕ) (ps : List Pushed) (ts : List UnsaidTable) → AreSaid ts
    → unsaid_updates d b ps ts ≡ []
unfolding unsaid_updates
none_left d b [] ts h = refl
none_left d b (p ∷ ps) [] h = refl
none_left d b (p ∷ ps) (t ∷ ts) h =
    pass_one d b (p ∷ ps) t ts h.0 ∙ none_left d (b + 1) ps ts h.1

pub said_none : (u : Unsaid) → IsSaid u → (pushed : List Pushed) → unsaid_messages pushed u ≡ []
unfolding unsaid_messages
said_none u h pushed =
    rw h.defined (none_left u.defined u.before (drop u.before pushed) u.tables h.told)

pub past_here : (place : ℕ) (ts : List UnsaidTable) → ArePast place place ts
past_here place ts = record {
  on = omega arith;
  none = (λ h. h, λ h. h);
  same = λ d ps. refl;
}

pub past_more : (place at : ℕ) (ts : List UnsaidTable) (t : UnsaidTable) → ArePast place at ts
    → drop at ts ≡ t ∷ drop (at + 1) ts → t.changes ≡ [] → ArePast place (at + 1) ts
past_more place at ts t past here none = record {
  on = omega (arith, past.on);
  none = (
    λ h. (subst AreSaid here (past.none.0 h)).1,
    λ h. past.none.1 (subst AreSaid (sym here) (none, h)),
  );
  same = λ d ps. past.same d ps ∙ ap (unsaid_updates d at (drop at ps)) here
      ∙ pass_one d at (drop at ps) t (drop (at + 1) ts) none
      ∙ ap (λ (qs : List Pushed). unsaid_updates d (at + 1) qs (drop (at + 1) ts))
      (drop-drop 1 at ps);
}

pub past_end : (place at : ℕ) (ts : List UnsaidTable) → ArePast place at ts → length ts ≤ at
    → AreSaid (drop place ts)
past_end place at ts past out = past.none.1 (subst AreSaid (sym (drop_all at ts out)) tt)

-- where a change is left, not all is said
pub found_left : (place : ℕ) (ts : List UnsaidTable) (found : Found)
    → IsFirstLeft place ts found → AreSaid (drop place ts) → ⊥
found_left place ts found is said =
    let none : is.table.changes ≡ [] = (subst AreSaid is.here (is.past.none.0 said)).0 in
    absurd (cc (none, is.first))

-- ---- the first change

still_defined : (id : ℕ) (us : List Message) → defined_after id id us ≡ id
still_defined id [] = refl
still_defined id (u ∷ us) = refl

same_id : (id : ℕ) → (id == id) ≡ true
same_id id = grind (arith, nat_tests)

none_defined : (id : ℕ) (p : Pushed) → define_unless id id p ≡ []
none_defined id p =
    ap (λ b. if b then [] else messages.Define (definition_of id p) ∷ []) (same_id id)

-- what is left of tables, by the changes that are left of the first
abbrev table_left : ℕ → ℕ → Pushed → ℕ → List Pushed → List UnsaidTable
    → List (List ℕ × Change) → List Message
table_left d id p last ps ts cs =
    with_definition d id p (updates p last cs)
    ++ unsaid_updates (defined_after d id (updates p last cs)) id ps ts

update_first : (id : ℕ) (p : Pushed) (last : ℕ) (ps : List Pushed) (ts : List UnsaidTable)
    (key : List ℕ) (change : Change) (cs : List (List ℕ × Change))
    → table_left id id p last ps ts ((key, change) ∷ cs)
    ≡ update_of p (next_id last) key change ∷ table_left id id p (next_id last) ps ts cs
update_first id p last ps ts key change cs =
    let us : List Message = updates p (next_id last) cs in
    let u : Message = update_of p (next_id last) key change in
    ap (λ (ms : List Message). (ms ++ u ∷ with_definition id id p us) ++ unsaid_updates id id ps ts)
    (none_defined id p)
    ∙ ap (λ (d : ℕ). u ∷ (with_definition id id p us ++ unsaid_updates d id ps ts))
    (sym (still_defined id us))

definition_first : (d id : ℕ) (p : Pushed) (last : ℕ) (ps : List Pushed) (ts : List UnsaidTable)
    (c : List ℕ × Change) (cs : List (List ℕ × Change)) → (d == id) ≡ false
    → table_left d id p last ps ts (c ∷ cs)
    ≡ messages.Define (definition_of id p) ∷ table_left id id p last ps ts (c ∷ cs)
definition_first d id p last ps ts c cs other =
    let define : Message = messages.Define (definition_of id p) in
    let us : List Message = update_of p (next_id last) c.0 c.1
    ∷ with_definition id id p (updates p (next_id last) cs) in
    ap (λ (b : Bool). ((if b then [] else define ∷ []) ++ us) ++ unsaid_updates id id ps ts) other
    ∙ ap (λ (ms : List Message). define ∷ ((ms ++ us) ++ unsaid_updates id id ps ts))
    (sym (none_defined id p))

-- the next message of tables of whose first a change is left, and what is left behind it
next_first : (d b : ℕ) (p : Pushed) (ps : List Pushed) (t : UnsaidTable) (ts : List UnsaidTable)
    (found : Found) → t.last ≡ found.last
    → t.changes ≡ (found.key.now, found.change) ∷ drop 1 t.changes
    → unsaid_updates d b (p ∷ ps) (t ∷ ts) ≡ next_message (d == b + 1) (b + 1) p found
    ∷ unsaid_updates (b + 1) b (p ∷ ps) (if d == b + 1 then one_said (t ∷ ts) else t ∷ ts)
unfolding unsaid_updates
next_first d b p ps t ts found l first = by (d == b + 1) refl
  where
    id : ℕ
    id = b + 1

    by : (is : Bool) → (d == id) ≡ is → unsaid_updates d b (p ∷ ps) (t ∷ ts)
        ≡ next_message is id p found
        ∷ unsaid_updates id b (p ∷ ps) (if is then one_said (t ∷ ts) else t ∷ ts)
    by true is =
        let same : d ≡ id = grind (arith, nat_tests, is) in
        ap (table_left d id p t.last ps ts) first
        ∙ ap (λ (e : ℕ). table_left e id p t.last ps ts
        ((found.key.now, found.change) ∷ drop 1 t.changes)) same
        ∙ update_first id p t.last ps ts found.key.now found.change (drop 1 t.changes)
        ∙ ap (λ (n : ℕ). update_of p (next_id n) found.key.now found.change
        ∷ table_left id id p (next_id t.last) ps ts (drop 1 t.changes)) l
    by false is =
        ap (table_left d id p t.last ps ts) first
        ∙ definition_first d id p t.last ps ts (found.key.now, found.change) (drop 1 t.changes) is
        ∙ ap (λ (cs : List (List ℕ × Change)). messages.Define (definition_of id p)
        ∷ table_left id id p t.last ps ts cs) (sym first)

-- ---- the next message

tables_behind : (place at : ℕ) (ts : List UnsaidTable) → place ≤ at
    → drop (at - place) (drop place ts) ≡ drop at ts
tables_behind place at ts on =
    drop-drop (at - place) place ts ∙ ap (λ (n : ℕ). drop n ts) (omega (arith, on))

abbrev pub left_at : ℕ → ℕ → List UnsaidTable → Unsaid
left_at d place ts =
    record { undefined = None; defined = d; before = place; tables = drop place ts }

pub none_next : (d place : ℕ) (ts : List UnsaidTable) (pushed : List Pushed)
    → AreSaid (drop place ts) → unsaid_messages pushed (left_at d place ts) ≡ []
unfolding unsaid_messages
none_next d place ts pushed said = none_left d place (drop place pushed) (drop place ts) said

-- there is no message where no table stands at the place of the change
pub none_there : (d place : ℕ) (ts : List UnsaidTable) (pushed : List Pushed) (found : Found)
    → IsFirstLeft place ts found → length pushed ≤ found.place
    → unsaid_messages pushed (left_at d place ts) ≡ []
unfolding unsaid_messages unsaid_updates
none_there d place ts pushed found is out =
    is.past.same d pushed ∙ ap (λ (ps : List Pushed).
    unsaid_updates d found.place ps (drop found.place ts)) (drop_all found.place pushed out)

pub is_next : (d place : ℕ) (ts : List UnsaidTable) (pushed : List Pushed) (p : Pushed)
    (found : Found) (step : Step) (bytes : List ℕ) → IsFirstLeft place ts found
    → drop found.place pushed ≡ p ∷ drop (found.place + 1) pushed
    → bytes ≡ message_spelling (next_message (d == found.place + 1) (found.place + 1) p found)
    → step ≡ record {
      undefined = None;
      defined = found.place + 1;
      place = found.place;
      is_update = d == found.place + 1;
    } → IsNext pushed (left_at d place ts) step bytes
unfolding unsaid_messages
is_next d place ts pushed p found step bytes is here spelled step_is =
    let at : ℕ = found.place in
    let left : List UnsaidTable = is.table ∷ is.others in
    let ps : List Pushed = p ∷ drop (at + 1) pushed in
    let ours : drop (at - place) (drop place ts) ≡ left =
    tables_behind place at ts is.past.on ∙ is.here in
    let first : unsaid_messages pushed (left_at d place ts) ≡ unsaid_updates d at ps left =
    is.past.same d pushed ∙ (λ i. unsaid_updates d at (here i) (is.here i)) in
    let after : unsaid_messages pushed (behind step (left_at d place ts))
    ≡ unsaid_updates (at + 1) at ps (if d == at + 1 then one_said left else left) =
    ap (λ (s : Step). unsaid_messages pushed (behind s (left_at d place ts))) step_is
    ∙ (λ i. unsaid_updates (at + 1) at (here i)
    (if d == at + 1 then one_said (ours i) else ours i)) in
    record {
      message = next_message (d == at + 1) (at + 1) p found;
      spelled = spelled;
      on = subst (λ (s : Step). place ≤ s.place) (sym step_is) is.past.on;
      left = first ∙ next_first d at p (drop (at + 1) pushed) is.table is.others found is.last
          is.first ∙ ap (λ (ms : List Message). next_message (d == at + 1) (at + 1) p found ∷ ms)
          (sym after);
    }

-- where no definition is left, the next message is an update or the definition before it
no_first : (pushed : List Pushed) (u : Unsaid) → undefined_from pushed u.undefined ≡ []
    → unsaid_messages pushed u ≡ unsaid_messages pushed
    (record { undefined = None; defined = u.defined; before = u.before; tables = u.tables })
unfolding unsaid_messages
no_first pushed u none =
    ap (λ (ms : List Message). ms
    ++ unsaid_updates u.defined u.before (drop u.before pushed) u.tables) none

pub next_behind : (pushed : List Pushed) (u : Unsaid) (next : Option Step) (bytes : List ℕ)
    → undefined_from pushed u.undefined ≡ []
    → MatchOption next (unsaid_messages pushed
    (record { undefined = None; defined = u.defined; before = u.before; tables = u.tables }) ≡ [])
    (λ step. IsNext pushed
    (record { undefined = None; defined = u.defined; before = u.before; tables = u.tables }) step
    bytes) → MatchOption next (unsaid_messages pushed u ≡ []) (λ step. IsNext pushed u step bytes)
next_behind pushed u None bytes none h = no_first pushed u none ∙ h
next_behind pushed u (Some step) bytes none h = record {
  message = h.message;
  spelled = h.spelled;
  on = h.on;
  left = no_first pushed u none ∙ h.left;
}

-- no definition is left from the end of the tables on
pub none_defined_from : (pushed : List Pushed) (place : ℕ) → length pushed ≤ place
    → definitions place (drop place pushed) ≡ []
unfolding definitions
none_defined_from pushed place out = ap (definitions place) (drop_all place pushed out)

-- the next message is a definition that is left
pub first_next : (pushed : List Pushed) (u : Unsaid) (place : ℕ) (p : Pushed) (step : Step)
    (bytes : List ℕ) → u.undefined ≡ Some place
    → drop place pushed ≡ p ∷ drop (place + 1) pushed
    → undefined_from pushed step.undefined ≡ definitions (place + 1) (drop (place + 1) pushed)
    → step.defined ≡ u.defined → step.place ≡ u.before → step.is_update ≡ false
    → bytes ≡ message_spelling (messages.Define (definition_of (place + 1) p))
    → IsNext pushed u step bytes
unfolding unsaid_messages definitions
first_next pushed u place p step bytes is here next d b define spelled =
    let first : undefined_from pushed u.undefined
    ≡ messages.Define (definition_of (place + 1) p)
    ∷ definitions (place + 1) (drop (place + 1) pushed) =
    ap (undefined_from pushed) is ∙ ap (definitions place) here in
    let none : step.place - u.before ≡ 0 = omega (arith, b) in
    let ours : drop (step.place - u.before) u.tables ≡ u.tables =
    ap (λ (n : ℕ). drop n u.tables) none in
    let rest : List Message =
    unsaid_updates u.defined u.before (drop u.before pushed) u.tables in
    let after : unsaid_messages pushed (behind step u)
    ≡ definitions (place + 1) (drop (place + 1) pushed) ++ rest =
    (λ i. next i ++ unsaid_updates (d i) (b i) (drop (b i) pushed)
    (if define i then one_said (drop (step.place - u.before) u.tables)
    else drop (step.place - u.before) u.tables))
    ∙ ap (λ (ts : List UnsaidTable). definitions (place + 1) (drop (place + 1) pushed)
    ++ unsaid_updates u.defined u.before (drop u.before pushed) ts) ours in
    record {
      message = messages.Define (definition_of (place + 1) p);
      spelled = spelled;
      on = omega (arith, b);
      left = ap (λ (ms : List Message). ms ++ rest) first
          ∙ ap (λ (ms : List Message). messages.Define (definition_of (place + 1) p) ∷ ms)
          (sym after);
    }

-- ---- pieces

take_more : (n : ℕ) (ms rest : List Message) (m : Message) → drop n ms ≡ m ∷ rest
    → take (suc n) ms ≡ take n ms ++ m ∷ []
take_more zero ms rest m e = ap (take 1) e
take_more (suc n) [] rest m e = absurd (cc e)
take_more (suc n) (x ∷ ms) rest m e =
    ap (λ (xs : List Message). x ∷ xs) (take_more n ms rest m e)

drop_more : (n : ℕ) (ms rest : List Message) (m : Message) → drop n ms ≡ m ∷ rest
    → drop (suc n) ms ≡ rest
drop_more zero ms rest m e = ap (drop 1) e
drop_more (suc n) [] rest m e = absurd (cc e)
drop_more (suc n) (x ∷ ms) rest m e = drop_more n ms rest m e

pub no_piece : (pushed : List Pushed) (u : Unsaid) (piece : List ℕ)
    → unsaid_messages pushed u ≡ [] → piece ≡ [] → IsPiece pushed u u piece
no_piece pushed u piece none nil = record {
  count = 0;
  goes_on = λ some. absurd (some none);
  says = nil;
  left = refl;
  small = inl (rw nil (omega arith));
}

pub first_piece : (pushed : List Pushed) (u : Unsaid) (step : Step) (bytes piece : List ℕ)
    → IsNext pushed u step bytes → piece ≡ bytes → IsPiece pushed u (behind step u) piece
first_piece pushed u step bytes piece next is = record {
  count = 1;
  goes_on = λ some. omega arith;
  says = is ∙ next.spelled ∙ sym (append-nil (message_spelling next.message))
      ∙ ap (λ (ms : List Message). text_of (take 1 ms)) (sym next.left);
  left = ap (drop 1) (sym next.left);
  small = inr refl;
}

pub more_piece : (pushed : List Pushed) (old at new : Unsaid) (was piece : List ℕ)
    → IsPiece pushed old at was → IsFurther pushed at new was piece
    → IsPiece pushed old new piece
more_piece pushed old at new was piece before more =
    let all : List Message = unsaid_messages pushed old in
    let here : drop before.count all ≡ more.message ∷ unsaid_messages pushed new =
    sym before.left ∙ more.left in
    record {
      count = suc before.count;
      goes_on = λ some. omega arith;
      says = more.says ∙ ap (λ (bytes : List ℕ). bytes ++ message_spelling more.message) before.says
          ∙ ap (λ (bytes : List ℕ). text_of (take before.count all) ++ bytes)
          (sym (append-nil (message_spelling more.message)))
          ∙ sym (text_append (take before.count all) (more.message ∷ []))
          ∙ ap text_of (sym (take_more before.count all (unsaid_messages pushed new) more.message
          here));
      left = sym (drop_more before.count all (unsaid_messages pushed new) more.message here);
      small = inl more.small;
    }

pub same_piece : (pushed : List Pushed) (old at new : Unsaid) (piece : List ℕ)
    → IsPiece pushed old at piece → unsaid_messages pushed new ≡ unsaid_messages pushed at
    → IsPiece pushed old new piece
same_piece pushed old at new piece is same = record {
  count = is.count;
  goes_on = is.goes_on;
  says = is.says;
  left = same ∙ is.left;
  small = is.small;
}

-- ---- whether a message is left

pub no_update : (d place : ℕ) (ts : List UnsaidTable) (pushed : List Pushed)
    → AreSaid (drop place ts) → unsaid_updates d place (drop place pushed) (drop place ts) ≡ []
no_update d place ts pushed said = none_left d place (drop place pushed) (drop place ts) said

pub not_there : (d place : ℕ) (ts : List UnsaidTable) (pushed : List Pushed) (found : Found)
    → IsFirstLeft place ts found → length pushed ≤ found.place
    → unsaid_updates d place (drop place pushed) (drop place ts) ≡ []
unfolding unsaid_updates
not_there d place ts pushed found is out =
    is.past.same d pushed ∙ ap (λ (ps : List Pushed).
    unsaid_updates d found.place ps (drop found.place ts)) (drop_all found.place pushed out)

pub some_update : (d place : ℕ) (ts : List UnsaidTable) (pushed : List Pushed) (found : Found)
    → IsFirstLeft place ts found → found.place < length pushed
    → unsaid_updates d place (drop place pushed) (drop place ts) ≢ []
some_update d place ts pushed found is lt none = by (drop found.place pushed) refl
  where
    by : (ps : List Pushed) → drop found.place pushed ≡ ps → ⊥
    by [] here = absurd (omega (arith, lt, length-drop found.place pushed, ap length here))
    by (p ∷ ps) here =
        let all : unsaid_updates d place (drop place pushed) (drop place ts)
        ≡ unsaid_updates d found.place (p ∷ ps) (is.table ∷ is.others) =
        is.past.same d pushed ∙ (λ i. unsaid_updates d found.place (here i) (is.here i)) in
        absurd (cc (sym none ∙ all ∙ next_first d found.place p ps is.table is.others found is.last
        is.first))

pub no_message : (pushed : List Pushed) (u : Unsaid) → undefined_from pushed u.undefined ≡ []
    → unsaid_updates u.defined u.before (drop u.before pushed) u.tables ≡ []
    → unsaid_messages pushed u ≡ []
unfolding unsaid_messages
no_message pushed u first updates = rw (first, updates) refl

pub some_definition : (pushed : List Pushed) (u : Unsaid) (place : ℕ) → u.undefined ≡ Some place
    → place < length pushed → unsaid_messages pushed u ≢ []
unfolding unsaid_messages definitions
some_definition pushed u place is lt none = by (drop place pushed) refl
  where
    by : (ps : List Pushed) → drop place pushed ≡ ps → ⊥
    by [] here = absurd (omega (arith, lt, length-drop place pushed, ap length here))
    by (p ∷ ps) here =
        absurd (cc (sym none
        ∙ ap (λ (ms : List Message). ms
        ++ unsaid_updates u.defined u.before (drop u.before pushed) u.tables)
        (ap (undefined_from pushed) is ∙ ap (definitions place) here)))

pub some_message : (pushed : List Pushed) (u : Unsaid) → undefined_from pushed u.undefined ≡ []
    → unsaid_updates u.defined u.before (drop u.before pushed) u.tables ≢ []
    → unsaid_messages pushed u ≢ []
unfolding unsaid_messages
some_message pushed u first updates none =
    updates (ap (λ (ms : List Message). ms
    ++ unsaid_updates u.defined u.before (drop u.before pushed) u.tables) (sym first) ∙ none)

-- the bytes so far and those of what is left are those of all
pub more_text : (pushed : List Pushed) (at : Unsaid) (step : Step) (bytes was text all : List ℕ)
    → IsNext pushed at step bytes → was ++ text_of (unsaid_messages pushed at) ≡ all
    → text ≡ was ++ bytes → text ++ text_of (unsaid_messages pushed (behind step at)) ≡ all
more_text pushed at step bytes was text all next before is =
    ap (λ (t : List ℕ). t ++ text_of (unsaid_messages pushed (behind step at)))
    (is ∙ ap (λ (b : List ℕ). was ++ b) next.spelled)
    ∙ append_assoc was (message_spelling next.message)
    (text_of (unsaid_messages pushed (behind step at)))
    ∙ ap (λ (ms : List Message). was ++ text_of ms) (sym next.left) ∙ before
