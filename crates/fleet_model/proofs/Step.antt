-- One more event: recomputing from the longer list gives what the event makes of the state before
-- it.
use Rattle.std.proofs.Common.{◌≡◌, ℕ, ◌<◌, ◌≤◌, ◌⊎◌, inl, inr, Bool, true, false, cond, not, ◌&&◌}
use Rattle.std.proofs.Common.{◌==◌, nat_lt, nat_le, max, List, [], ◌∷◌, ◌++◌, map, length, Option}
use Rattle.std.proofs.Common.{refl, sym, ap, ◌∙◌, subst, arith}
use Rattle.std.proofs.lemmas.Bool.{and_parts, eqb-true, leb-true, ltb-true}
use Rattle.std.proofs.lemmas.List.{append-nil, map-append}
use Rattle.std.proofs.lemmas.List.Elements.{filter-append}
use Rattle.std.proofs.lemmas.List.Sums.{fold-append}
use Rattle.std.specs.Bool.{then_some}
use Rattle.std.specs.List.{filter, fold}
use Rattle.agg_types.specs.Fits.{fits}
use Rattle.agg_types.specs.declared.config.Config.{Config}
use Rattle.agg_types.specs.declared.config.Filter.{Filter}
use Rattle.agg_types.specs.declared.event.Event.{Event}
use Rattle.agg_types.specs.declared.event.What.{What}
use Rattle.agg_types.specs.declared.event.What.TheVariants.{Sit, Open, Put, Clear, AddFilter}
use Rattle.agg_types.specs.declared.event.What.TheVariants.{DropFilter, Moment, Leave}
use Rattle.agg_types.specs.declared.limits.TheConstants.{MOST_SEATS}
use Rattle.agg_types.specs.declared.row_key.RowKey.{RowKey}
use Rattle.fleet_model.proofs.InForce.{Clears_none, rows-cleared, rows-later, rows-put, rows-same}
use Rattle.fleet_model.proofs.Seats.{SitFirst, SitFirst-push, above-sit, ever_sat}
use Rattle.fleet_model.proofs.Seats.{ever_sat-from_number, ever_seen, found-seats, new_seat}
use Rattle.fleet_model.proofs.Seats.{seats-leave, seats-plain, seats-sit, seats_of-other}
use Rattle.fleet_model.proofs.Sessions.{found-session, sessions-leave, sessions-open}
use Rattle.fleet_model.proofs.Sessions.{sessions-plain, sessions-sit, sits_from_number}
use Rattle.fleet_model.specs.Filters.{filters_after, filters_in}
use Rattle.fleet_model.specs.History.{judge, judged}
use Rattle.fleet_model.specs.Machine.{after, counts_now, happened, with_put, with_row}
use Rattle.fleet_model.specs.Moments.{moment_after, now_of}
use Rattle.fleet_model.specs.Rows.{Judged, by_place, clears_at, counted_of, has_room, if_counted}
use Rattle.fleet_model.specs.Rows.{in_force, judge_at, arrival_of, putter, row_of, rows_in}
use Rattle.fleet_model.specs.Seats.{above_all, counts, is_leave, is_next, is_number, is_sit}
use Rattle.fleet_model.specs.Seats.{number, seats_in, seats_of}
use Rattle.fleet_model.specs.Sessions.{opens, session, sessions_in}
use Rattle.fleet_model.specs.State.{IsStateOf, State, state_after, state_of, with_filters}
use Rattle.fleet_model.specs.declared.arrival.Arrival.{Arrival}

abbrev state : Config → ℕ → ℕ → List (RowKey × Arrival) → List (ℕ × ℕ) → List (ℕ × ℕ) → ℕ → State
state c k m r s b n = record {
  config = c;
  configured = k;
  moment = m;
  rows = r;
  sessions = s;
  seats =
      b;
  next_seat = n;
}

same_state : {c c' : Config} {k m m' : ℕ} {r r' : List (RowKey × Arrival)}
    {s s' b b' : List (ℕ × ℕ)}
    {n n' : ℕ} → c ≡ c' → m ≡ m' → r ≡ r' → s ≡ s' → b ≡ b' → n ≡ n'
    → state c k m r s b n ≡ state c' k m' r' s' b' n'
same_state {k = k} ec em er es eb en = λ i. record {
  config = ec i;
  configured = k;
  moment = em i;
  rows = er i;
  sessions =
      es i;
  seats = eb i;
  next_seat = en i;
}

now-push : (opening : ℕ) (counted : List Event) (e : Event) → now_of opening (counted ++ e ∷ [])
    ≡ moment_after (now_of opening counted) e.what
unfolding now_of
now-push opening counted e = fold-append (λ (now : ℕ) (e : Event). moment_after now e.what) opening
    counted (e ∷ [])

filters-push : (config : Config) (counted : List Event) (e : Event)
    → filters_in config (counted ++ e ∷ [])
    ≡ filters_after (length config.filters) (filters_in config counted) e.what
unfolding filters_in
filters-push config counted e =
    fold-append (λ (filters : List Filter) (e : Event).
    filters_after (length config.filters) filters e.what) config.filters
    counted (e ∷ [])

-- the state after one more event that counted, of which the rows are known
abbrev longer : Config → ℕ → List Judged → Judged → List Event → State
longer config opening h j counted =
    state (with_filters config counted) (length config.filters) (now_of opening counted)
    (by_place (in_force (now_of opening counted) (h ++ j ∷ []))) (sessions_in config counted)
    (seats_in counted) (above_all (seats_of counted))

abbrev shorter : Config → ℕ → List Judged → List Event → State
shorter config opening h counted =
    state (with_filters config counted) (length config.filters) (now_of opening counted)
    (by_place (in_force (now_of opening counted) h)) (sessions_in config counted)
    (seats_in counted) (above_all (seats_of counted))

put_or_same : (t : ℕ) (j : Judged) (h : List Judged) (taken : Bool) (row : RowKey × Arrival)
    → j.row ≡ then_some taken row → Clears_none j → by_place (in_force t (h ++ j ∷ []))
    ≡ cond taken (with_row t (by_place (in_force t h)) row.0 row.1) (by_place (in_force t h))
put_or_same t j h true row is clears = rows-put t j row is clears h
put_or_same t j h false row is clears = rows-same t j is clears h

number_due : (due : Bool) (small : Bool) → (due && small) ≡ true → due ≡ true
number_due true small e = refl
number_due false small e = e

record SitsDown (seat seq above : ℕ) : Type 0 where
  at_zero : seq ≡ 0
  above_others : above ≤ seat

sits_down : (seat seq above : ℕ) (small free : Bool)
    → ((seq == 0) && small && nat_le above seat && free) ≡ true → SitsDown seat seq above
sits_down seat seq above small free e =
    let a = and_parts ((seq == 0) && small && nat_le above seat) free e in
    let b = and_parts ((seq == 0) && small) (nat_le above seat) a.0 in
    let c = and_parts (seq == 0) small b.0 in
    record { at_zero = eqb-true seq 0 c.0; above_others = leb-true above seat b.1 }

abbrev rows_before : ℕ → List Judged → List Event → List (RowKey × Arrival)
rows_before opening h counted = by_place (in_force (now_of opening counted) h)

-- what it does to the configuration and the moment is the same for all kinds
by_parts : (config : Config) (opening : ℕ) (h : List Judged) (counted : List Event) (e : Event)
    (j : Judged) (w : What) → e.what ≡ w
    → {rows : List (RowKey × Arrival)} {sessions seats : List (ℕ × ℕ)} {next_seat : ℕ}
    → by_place (in_force (moment_after (now_of opening counted) w) (h ++ j ∷ [])) ≡ rows
    → sessions_in config (counted ++ e ∷ []) ≡ sessions → seats_in (counted ++ e ∷ []) ≡ seats
    → above_all (seats_of (counted ++ e ∷ [])) ≡ next_seat
    → longer config opening h j (counted ++ e ∷ [])
    ≡ state (record config {
      filters = filters_after (length config.filters) (filters_in config counted) w;
    }) (length config.filters)
    (moment_after (now_of opening counted) w) rows sessions seats next_seat
by_parts config opening h counted e j w is rows sessions seats next_seat =
    let filters = filters-push config counted e
    ∙ ap (filters_after (length config.filters) (filters_in config counted)) is in
    let moment = now-push opening counted e ∙ ap (moment_after (now_of opening counted)) is in
    same_state (λ i. record config { filters = filters i }) moment
    (ap (λ t. by_place (in_force t (h ++ j ∷ []))) moment ∙ rows) sessions seats next_seat

-- what an event that counts leaves, by its kind
by_kind : (config : Config) (opening : ℕ) (h : List Judged) (counted : List Event) (e : Event)
    (j : Judged) (w : What) → e.what ≡ w → j.row ≡ row_of config (session counted (putter w))
    (rows_before opening h counted) (now_of opening counted) e w
    → ((place : RowKey) → j.clears place ≡ clears_at config (rows_before opening h counted)
    (now_of opening counted) w place) → SitFirst counted → fits config w ≡ true
    → is_next w e.seat e.seq (nat_lt (length (seats_in counted)) MOST_SEATS)
    (above_all (seats_of counted)) (number counted e.seat) ≡ true
    → longer config opening h j (counted ++ e ∷ [])
    ≡ happened (shorter config opening h counted) e w
unfolding happened row_of clears_at with_put has_room
by_kind config opening h counted e j Sit is row clears first fit next =
    let down = sits_down e.seat e.seq (above_all (seats_of counted)) _ _ next in
    let new : ever_seen e.seat counted ≡ false = new_seat counted e.seat first down.above_others in
    by_parts config opening h counted e j Sit is
    (rows-same (now_of opening counted) j row clears h)
    (sessions-sit config counted e (ap is_sit is) (ap is_leave is) (λ peer. ap (opens peer) is) new)
    (seats-sit counted e (ap is_sit is) (ap is_leave is) down.at_zero new)
    (above-sit counted e (ap is_sit is) down.above_others)
by_kind config opening h counted e j (Open peer) is row clears first fit next =
    let due = number_due (is_number (number counted e.seat) e.seq) _ next in
    by_parts config opening h counted e j (Open peer) is
    (rows-same (now_of opening counted) j row clears h)
    (sessions-open config counted e peer (ap is_sit is) (ap is_leave is) (λ p. ap (opens p) is)
    (ltb-true peer (length config.peers) fit) (sits_from_number e.seat e.seq counted due))
    (seats-plain counted e (ap is_sit is) (ap is_leave is) due)
    (ap above_all (seats_of-other counted e (ap is_sit is)))
by_kind config opening h counted e j (Put peer table key life cells) is row clears first fit next =
    let due = number_due (is_number (number counted e.seat) e.seq) _ next in
    let rows = rows_before opening h counted in
    let place : RowKey = record { table = table; key = key; peer = peer } in
    let arrival : Arrival = arrival_of config.tables table (now_of opening counted) life cells in
    let in_range : peer < length config.peers =
    ltb-true peer (length config.peers) (and_parts (nat_lt peer (length config.peers)) _
    (and_parts _ _ fit).0).0 in
    by_parts config opening h counted e j (Put peer table key life cells) is
    (put_or_same (now_of opening counted) j h (is_number (session counted peer) e.seat
    && has_room config rows place life) (place, arrival) row clears
    ∙ ap (λ seated. cond (is_number seated e.seat && has_room config rows place life)
    (with_row (now_of opening counted) rows place arrival) rows)
    (sym (found-session config counted peer in_range)))
    (sessions-plain config counted e (ap is_sit is) (ap is_leave is) (λ p. ap (opens p) is))
    (seats-plain counted e (ap is_sit is) (ap is_leave is) due)
    (ap above_all (seats_of-other counted e (ap is_sit is)))
by_kind config opening h counted e j (Clear table sel) is row clears first fit next =
    let due = number_due (is_number (number counted e.seat) e.seq) _ next in
    by_parts config opening h counted e j (Clear table sel) is
    (rows-cleared (now_of opening counted) j row h
    ∙ (λ i. filter (λ r. not (clears r.0 i)) (rows_before opening h counted)))
    (sessions-plain config counted e (ap is_sit is) (ap is_leave is) (λ p. ap (opens p) is))
    (seats-plain counted e (ap is_sit is) (ap is_leave is) due)
    (ap above_all (seats_of-other counted e (ap is_sit is)))
by_kind config opening h counted e j (AddFilter added) is row clears first fit next =
    let due = number_due (is_number (number counted e.seat) e.seq) _ next in
    by_parts config opening h counted e j (AddFilter added) is
    (rows-same (now_of opening counted) j row clears h)
    (sessions-plain config counted e (ap is_sit is) (ap is_leave is) (λ p. ap (opens p) is))
    (seats-plain counted e (ap is_sit is) (ap is_leave is) due)
    (ap above_all (seats_of-other counted e (ap is_sit is)))
by_kind config opening h counted e j (DropFilter name) is row clears first fit next =
    let due = number_due (is_number (number counted e.seat) e.seq) _ next in
    by_parts config opening h counted e j (DropFilter name) is
    (rows-same (now_of opening counted) j row clears h)
    (sessions-plain config counted e (ap is_sit is) (ap is_leave is) (λ p. ap (opens p) is))
    (seats-plain counted e (ap is_sit is) (ap is_leave is) due)
    (ap above_all (seats_of-other counted e (ap is_sit is)))
by_kind config opening h counted e j (Moment told) is row clears first fit next =
    let due = number_due (is_number (number counted e.seat) e.seq) _ next in
    let later : now_of opening counted ≤ max (now_of opening counted) told = omega arith in
    by_parts config opening h counted e j (Moment told) is
    (rows-later (now_of opening counted) (max (now_of opening counted) told) later j row clears h)
    (sessions-plain config counted e (ap is_sit is) (ap is_leave is) (λ p. ap (opens p) is))
    (seats-plain counted e (ap is_sit is) (ap is_leave is) due)
    (ap above_all (seats_of-other counted e (ap is_sit is)))
by_kind config opening h counted e j Leave is row clears first fit next =
    by_parts config opening h counted e j Leave is
    (rows-same (now_of opening counted) j row clears h)
    (sessions-leave config counted e (ap is_sit is) (ap is_leave is) (λ p. ap (opens p) is))
    (seats-leave counted e (ap is_sit is) (ap is_leave is))
    (ap above_all (seats_of-other counted e (ap is_sit is)))

-- ---- events that don't count, and those that do
fits_same : (config : Config) (filters : List Filter) (w : What)
    → fits (record config { filters = filters }) w ≡ fits config w
fits_same config filters Sit = refl
fits_same config filters (Open peer) = refl
fits_same config filters (Put peer table key life cells) = refl
fits_same config filters (Clear table sel) = refl
fits_same config filters (AddFilter filter) = refl
fits_same config filters (DropFilter name) = refl
fits_same config filters (Moment moment) = refl
fits_same config filters Leave = refl

counted-push : (h : List Judged) (j : Judged) → counted_of (h ++ j ∷ []) ≡ counted_of h
    ++ cond j.counted (j.event ∷ []) []
unfolding counted_of
counted-push h j =
    ap (map (λ (j : Judged). j.event)) (filter-append (λ (j : Judged). j.counted) h (j ∷ []))
    ∙ map-append (λ (j : Judged). j.event) (filter (λ j. j.counted) h) (cond j.counted (j ∷ []) [])
    ∙ ap (λ es. counted_of h ++ es)
    (elim j.counted as (λ b. map (λ (j : Judged). j.event) (cond b (j ∷ []) [])
    ≡ cond b (j.event ∷ []) []) [ true ↦ refl | false ↦ refl ])

judged_counts : (config : Config) (opening : ℕ) (h : List Judged) (e : Event) (b : Bool)
    → counts config (counted_of h) e ≡ b → counted_of (h ++ judge config opening h e ∷ [])
    ≡ counted_of h ++ cond b (e ∷ []) []
unfolding judge judge_at
judged_counts config opening h e b does = counted-push h (judge config opening h e)
    ∙ ap (λ b. counted_of h ++ cond b (e ∷ []) []) does

judged_row : (config : Config) (opening : ℕ) (h : List Judged) (e : Event) (b : Bool)
    → counts config (counted_of h) e ≡ b → (judge config opening h e).row
    ≡ if_counted b (row_of config (session (counted_of h) (putter e.what))
    (rows_before opening h (counted_of h)) (now_of opening (counted_of h)) e e.what)
unfolding judge judge_at rows_in
judged_row config opening h e b does =
    ap (λ b. if_counted b (row_of config (session (counted_of h) (putter e.what))
    (rows_before opening h (counted_of h)) (now_of opening (counted_of h)) e e.what)) does

judged_clears : (config : Config) (opening : ℕ) (h : List Judged) (e : Event) (b : Bool)
    → counts config (counted_of h) e ≡ b → (place : RowKey) → (judge config opening h e).clears
    place ≡ (b && clears_at config (rows_before opening h (counted_of h))
    (now_of opening (counted_of h)) e.what place)
unfolding judge judge_at rows_in
judged_clears config opening h e b does place =
    ap (λ b. b && clears_at config (rows_before opening h (counted_of h))
    (now_of opening (counted_of h)) e.what place) does

pub counts_same : (config : Config) (opening : ℕ) (h : List Judged) (counted : List Event)
    (e : Event) → counts_now (shorter config opening h counted) e ≡ counts config counted e
unfolding counts_now counts
counts_same config opening h counted e =
    λ i. fits_same config (filters_in config counted) e.what i && is_next e.what e.seat e.seq
    (nat_lt (length (seats_in counted)) MOST_SEATS) (above_all (seats_of counted))
    (found-seats e.seat counted i)

after_is : (state : State) (e : Event) (b : Bool) → counts_now state e ≡ b
    → after state e ≡ cond b (happened state e e.what) state
unfolding after
after_is state e b does = ap (λ b. cond b (happened state e e.what) state) does

counts_parts : (config : Config) (counted : List Event) (e : Event) → counts config counted e ≡ true
    → (fits config e.what ≡ true) ×
    (is_next e.what e.seat e.seq (nat_lt (length (seats_in counted)) MOST_SEATS)
    (above_all (seats_of counted)) (number counted e.seat) ≡ true)
unfolding counts
counts_parts config counted e does = and_parts (fits config e.what) _ does

-- the judged history after one more event, against the machine
history-push : (config : Config) (opening : ℕ) (h : List Judged) (e : Event)
    → SitFirst (counted_of h) → longer config opening h (judge config opening h e)
    (counted_of (h ++ judge config opening h e ∷ []))
    ≡ after (shorter config opening h (counted_of h)) e
history-push config opening h e first =
    elim (counts config (counted_of h) e) as (λ b. counts config (counted_of h) e ≡ b
    → longer config opening h (judge config opening h e)
    (counted_of (h ++ judge config opening h e ∷ []))
    ≡ after (shorter config opening h (counted_of h)) e) [
      | true ↦ λ does.
          let parts = counts_parts config (counted_of h) e does in
          ap (longer config opening h (judge config opening h e))
          (judged_counts config opening h e true does)
          ∙ by_kind config opening h (counted_of h) e (judge config opening h e) e.what refl
          (judged_row config opening h e true does) (judged_clears config opening h e true does)
          first parts.0 parts.1
          ∙ sym (after_is (shorter config opening h (counted_of h)) e true
          (counts_same config opening h (counted_of h) e ∙ does))
      | false ↦ λ does.
          ap (longer config opening h (judge config opening h e))
          (judged_counts config opening h e false does ∙ append-nil (counted_of h))
          ∙ same_state refl refl (rows-same (now_of opening (counted_of h))
          (judge config opening h e) (judged_row config opening h e false does)
          (judged_clears config opening h e false does) h) refl refl refl
          ∙ sym (after_is (shorter config opening h (counted_of h)) e false
          (counts_same config opening h (counted_of h) e ∙ does))
    ] refl

sits_or_sat : (config : Config) (counted : List Event) (e : Event) → counts config counted e ≡ true
    → (is_sit e.what ≡ true) ⊎ (ever_sat e.seat counted ≡ true)
sits_or_sat config counted e does =
    one_of e.what e.seat e.seq _ (above_all (seats_of counted)) (number counted e.seat)
    (ever_sat e.seat counted) (ever_sat-from_number e.seat e.seq counted)
    (counts_parts config counted e does).1
  where
    one_of : (w : What) (seat seq : ℕ) (free : Bool) (above : ℕ) (due : Option ℕ) (sat : Bool)
        → (is_number due seq ≡ true → sat ≡ true) → is_next w seat seq free above due ≡ true
        → (is_sit w ≡ true) ⊎ (sat ≡ true)
    one_of Sit seat seq free above due sat h next = inl refl
    one_of (Open peer) seat seq free above due sat h next = inr (h (number_due _ _ next))
    one_of (Put peer table key life cells) seat seq free above due sat h next =
        inr (h (number_due _ _ next))
    one_of (Clear table sel) seat seq free above due sat h next = inr (h (number_due _ _ next))
    one_of (AddFilter filter) seat seq free above due sat h next = inr (h (number_due _ _ next))
    one_of (DropFilter name) seat seq free above due sat h next = inr (h (number_due _ _ next))
    one_of (Moment moment) seat seq free above due sat h next = inr (h (number_due _ _ next))
    one_of Leave seat seq free above due sat h next = inr (h (number_due _ _ next))

SitFirst-judge : (config : Config) (opening : ℕ) (h : List Judged) (e : Event)
    → SitFirst (counted_of h) → SitFirst (counted_of (h ++ judge config opening h e ∷ []))
SitFirst-judge config opening h e first =
    elim (counts config (counted_of h) e) as (λ b. counts config (counted_of h) e ≡ b
    → SitFirst (counted_of (h ++ judge config opening h e ∷ []))) [
      | true ↦ λ does. subst SitFirst (sym (judged_counts config opening h e true does))
          (SitFirst-push (counted_of h) e first (sits_or_sat config (counted_of h) e does))
      | false ↦ λ does. subst SitFirst (sym (judged_counts config opening h e false does
          ∙ append-nil (counted_of h))) first
    ] refl

SitFirst-from : (config : Config) (opening : ℕ) (h : List Judged) → SitFirst (counted_of h)
    → (events : List Event) → SitFirst
    (counted_of (fold (λ history e. history ++ judge config opening history e ∷ []) h events))
SitFirst-from config opening h first [] = first
SitFirst-from config opening h first (e ∷ events) =
    SitFirst-from config opening (h ++ judge config opening h e ∷ [])
    (SitFirst-judge config opening h e first) events

SitFirst-nil : SitFirst (counted_of [])
unfolding counted_of
SitFirst-nil q none = refl

sit_first : (config : Config) (opening : ℕ) (events : List Event)
    → SitFirst (counted_of (judged config opening events))
unfolding judged
sit_first config opening events = SitFirst-from config opening [] SitFirst-nil events

judged-push : (config : Config) (opening : ℕ) (events : List Event) (e : Event)
    → judged config opening (events ++ e ∷ []) ≡ judged config opening events
    ++ judge config opening (judged config opening events) e ∷ []
unfolding judged
judged-push config opening events e =
    fold-append (λ (history : List Judged) (e : Event). history ++ judge config opening history e ∷
    []) [] events (e ∷ [])

-- recomputing from a list with one more event gives what the event makes of the state that the list
-- leaves
pub one_more : (config : Config) (opening : ℕ) (events : List Event) (e : Event)
    → state_of config opening (events ++ e ∷ []) ≡ after (state_of config opening events) e
unfolding state_of rows_in
one_more config opening events e =
    ap (λ h. state_after config opening h (counted_of h)) (judged-push config opening events e)
    ∙ history-push config opening (judged config opening events) e (sit_first config opening events)

pub state_more : (state : State) (config : Config) (opening : ℕ) (events : List Event) (e : Event)
    → IsStateOf state config opening events → IsStateOf (after state e) config opening
    (events ++ e ∷ [])
unfolding IsStateOf
state_more state config opening events e stands = ap (λ s. after s e) stands
    ∙ sym (one_more config opening events e)
