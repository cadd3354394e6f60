-- What a peer that connects leaves.
use Rattle.std.proofs.Common.{◌≡◌, inl, inr, ℕ, ◌+◌, ◌<◌, ◌≤◌, Bool, true, false, ◌==◌, List}
use Rattle.std.proofs.Common.{[], ◌∷◌, ◌++◌, length, Option, None, Some, if◌then◌else◌, nat_le}
use Rattle.std.proofs.Common.{nat_lt, sym, ap, ◌∙◌, refl, add-zero, zero-add, append-nil, arith}
use Rattle.std.proofs.Common.{option_map}
use Rattle.std.proofs.lemmas.Bool.{eqb-false, eqb-true, le-leb, leb-true, lt-ltb}
use Rattle.std.specs.Bool.{then_some}
use Rattle.std.specs.List.{list_any}
use Rattle.agg_types.specs.declared.config.Config.{Config}
use Rattle.agg_types.specs.declared.event.Event.{Event}
use Rattle.agg_types.specs.declared.event.What.TheVariants.{Sit}
use Rattle.agg_types.specs.declared.limits.TheConstants.{LAST_SEAT, MOST_SEATS}
use Rattle.fleet_model.specs.Seats.{numbered}
use Rattle.fleet_model.specs.State.{state_of}
use Rattle.session_core.specs.Hello.{hello_of, line_at}
use Rattle.session_core.specs.Piece.{Setup, setup_of}
use Rattle.session_core.specs.Talk.{stage_of, talk}
use Rattle.fleet_core.specs.declared.connection.Connection.{Connection}
use Rattle.fleet_core.specs.declared.step.Step.{Step}
use Rattle.fleet_core.specs.declared.step.Step.TheVariants.{Connect}
use Rattle.fleet_core.specs.Events.{added, count_of, events_of, has_free_seat, talk_of}
use Rattle.fleet_core.specs.Feeding.{IsSet}
use Rattle.fleet_core.specs.Links.{Link, as_link, found, is_open, link_of, linked, open_link}
use Rattle.fleet_core.specs.Possible.{can_be, is_possible, is_spent}
use Rattle.telling.specs.Telling.{untold}
use Rattle.fleet_core.specs.Represents.{Collected, Represents, WasTold}
use Rattle.fleet_core.specs.Steps.{connects, is_lost, names, stream}
use Rattle.fleet_core.proofs.Counts.{apart_from_lt, bool_tells, count-append, count-other}
use Rattle.fleet_core.proofs.Counts.{count-own, count-to_come, eq_self, not_le, none-lost}
use Rattle.fleet_core.proofs.Counts.{none-stream, stream_other}
use Rattle.fleet_core.proofs.Fed.{eq_sym}
use Rattle.fleet_core.proofs.Links.{link_same}
use Rattle.fleet_core.proofs.HandingOver.{Queued, done}
use Rattle.fleet_core.proofs.Telling.{told_other, told_stranger}

no_talk : (setup : Setup) (seated : Bool) → (talk setup seated []).end ≡ None
unfolding talk hello_of line_at
no_talk setup seated = refl

count_sits : (conn other : ℕ) (seated : Bool) → (conn == other) ≡ false
    → count_of other (if seated then numbered conn 0 (Sit ∷ []) else []) ≡ 0
count_sits conn other true apart = count-other conn other 0 (Sit ∷ []) apart
count_sits conn other false apart = refl

own_sits : (conn : ℕ) (seated : Bool)
    → count_of conn (if seated then numbered conn 0 (Sit ∷ []) else []) ≡ (if seated then 1 else 0)
own_sits conn true = count-own conn 0 (Sit ∷ [])
own_sits conn false = refl

-- another connection came before or not, as it did
came_too : (many other : ℕ) → (other == many + 1) ≡ false
    → nat_le other (many + 1) ≡ nat_le other many
came_too many other apart =
    elim (bool_tells (nat_le other (many + 1))) [
      | inl e ↦ (let le = leb-true other (many + 1) e in e ∙ sym (le-leb other many (below le)))
      | inr e ↦ elim (bool_tells (nat_le other many)) [
        | inl d ↦ (let le = leb-true other many d in let yes : nat_le other (many + 1) ≡ true =
            le-leb other (many + 1) (omega (arith, le)) in yes ∙ sym d)
        | inr d ↦ e ∙ sym d
      ]
    ]
  where
    below : other ≤ many + 1 → other ≤ many
    below le = omega (arith, le, eqb-false other (many + 1) apart)

-- the book has taken all events
pub all_taken : (f : Collected) (config : Config) (opening : ℕ) (past : List Step)
    → Represents f config opening past → f.waiting ≡ []
    → f.book ≡ state_of config opening (events_of config opening past)
all_taken f config opening past h none = h.book
    ∙ ap (state_of config opening) (sym (h.split ∙ ap (λ waiting. h.handed ++ waiting) none
    ∙ append-nil h.handed))

connect_possible : (config : Config) (opening : ℕ) (past : List Step)
    → nat_le LAST_SEAT (connects past) ≡ false → is_possible config opening past Connect ≡ true
unfolding can_be is_spent
connect_possible config opening past some = rw some refl

-- a new connection is open
new_link : (config : Config) (events : List Event) (past : List Step) (seated : Bool)
    (connection : Connection)
    → count_of (connects past + 1) events ≡ 0 → list_any (names (connects past + 1)) past ≡ false
    → ((setup : Setup) → connection.session.stage ≡ stage_of setup seated [])
    → connection.session.seated ≡ seated → connection.next_seq ≡ then_some seated 1
    → Some (as_link connection) ≡ link_of config
    (events ++ (if seated then numbered (connects past + 1) 0 (Sit ∷ []) else []))
    (Connect ∷ past) (connects past + 1)
unfolding link_of is_open open_link talk_of
new_link config events past seated connection count named stands is_seated_now seat =
    let conn : ℕ = connects past + 1 in
    let counted : count_of conn (events ++ (if seated then numbered conn 0 (Sit ∷ []) else []))
    ≡ (if seated then 1 else 0) =
    count-append conn events (if seated then numbered conn 0 (Sit ∷ []) else [])
    ∙ rw (count, own_sits conn seated) (zero-add _) in
    let no_stream : stream (Connect ∷ past) conn ≡ [] = stream_other Connect past conn refl
    ∙ none-stream past conn named in
    let unlost : is_lost past conn ≡ false = none-lost past conn named in
    let came_now : nat_le conn conn ≡ true = le-leb conn conn (omega arith) in
    let positive : nat_lt 0 conn ≡ true = lt-ltb 0 conn (omega arith) in
    rw (
      counted,
      no_stream,
      unlost,
      came_now,
      positive,
      no_talk (setup_of config) (nat_lt 0 (if seated then 1 else 0)),
      stands (setup_of config),
      is_seated_now,
      seat,
    ) (by seated)
  where
    by : (seated : Bool) → ◌≡◌ {A = Option Link}
        (Some (record {
          seated = seated;
          stage = stage_of (setup_of config) seated [];
          next_seq =
              then_some seated 1;
        }))
        (Some (record {
          seated = nat_lt 0 (if seated then 1 else 0);
          stage =
              stage_of (setup_of config) (nat_lt 0 (if seated then 1 else 0)) [];
          next_seq =
              then_some (nat_lt 0 (if seated then 1 else 0)) (if seated then 1 else 0);
        }))
    by true = refl
    by false = refl

pub accepted : (f g : Collected) (config : Config) (opening : ℕ) (past : List Step) (seated : Bool)
    (connection : Connection)
    → Represents f config opening past → f.waiting ≡ []
    → seated ≡ nat_lt (length f.book.seats) MOST_SEATS
    → ((setup : Setup) → connection.session.stage ≡ stage_of setup seated [])
    → connection.session.seated ≡ seated → connection.next_seq ≡ then_some seated 1
    → connection.teller ≡ untold → IsSet f.links g.links (f.connected + 1) (Some connection)
    → g.book ≡ f.book → g.waiting ≡ numbered (f.connected + 1) 0 (if seated then Sit ∷ [] else [])
    → g.connected ≡ f.connected + 1 → g.next_seq ≡ f.next_seq
    → f.connected < LAST_SEAT
    → Queued g config opening past Connect
unfolding events_of added
accepted f g config opening past seated connection h none free stands is_seated_now seat unsaid set
    book
    waiting connected front few =
    done f g config opening past Connect h none book
    (ap (λ b. events ++ (if b then numbered conn 0 (Sit ∷ []) else [])) (sym is_free)
    ∙ ap (λ some. events ++ some) (waited seated ∙ sym (waiting ∙ rw h.connected refl)))
    kept
    (connected ∙ ap (λ n. n + 1) h.connected)
    (front ∙ h.next_seq ∙ sym (counted 0 (apart_from_zero conn (omega arith))))
    (λ other later. h.strangers other (omega (arith, later)))
    (connect_possible config opening past (not_le _ _ (rw h.connected at few)))
    told
  where
    conn : ℕ
    conn = connects past + 1

    events : List Event
    events = events_of config opening past

    is_free : seated ≡ has_free_seat config opening events
    is_free = free ∙ ap (λ state. nat_lt (length state.seats) MOST_SEATS)
        (all_taken f config opening past h none)

    waited : (b : Bool) → (if b then numbered conn 0 (Sit ∷ []) else [])
        ≡ numbered conn 0 (if b then Sit ∷ [] else [])
    waited true = refl
    waited false = refl

    apart_from_zero : (n : ℕ) → 0 < n → (n == 0) ≡ false
    apart_from_zero n some = eq_sym 0 n (apart_from_lt 0 n some)

    counted : (other : ℕ) → (conn == other) ≡ false
        → count_of other (events ++ (if has_free_seat config opening events
        then numbered conn 0 (Sit ∷ []) else [])) ≡ count_of other events
    counted other apart =
        count-append other events _ ∙ ap (λ n. count_of other events + n)
        (count_sits conn other (has_free_seat config opening events) apart)
        ∙ add-zero (count_of other events)

    at_conn : Some (as_link connection)
        ≡ link_of config (events ++ (if has_free_seat config opening events
        then numbered conn 0 (Sit ∷ []) else [])) (Connect ∷ past) conn
    at_conn = rw (← is_free) (new_link config events past seated connection
        (count-to_come config opening past conn (omega arith)) (h.strangers conn (omega arith))
        stands is_seated_now seat)

    there : found g.links conn ≡ Some connection
    there = set conn ∙ rw (h.connected, eq_self conn) refl

    as_before : (other : ℕ) → (other == conn) ≡ false → found g.links other ≡ found f.links other
    as_before other apart = set other ∙ rw (h.connected, apart) refl

    told : (other : ℕ) → WasTold g.links config opening (Connect ∷ past) other
    told other =
        elim (bool_tells (other == conn)) [
          | inl e ↦ (let at : other ≡ conn = eqb-true other conn e in
              rw at (rw there (unsaid ∙ sym (told_other config opening past Connect conn refl
              ∙ told_stranger config opening past conn (h.strangers conn (omega arith))))))
          | inr e ↦ rw (as_before other e, told_other config opening past Connect other refl)
              (h.told other)
        ]

    kept : (other : ℕ) → linked g.links other
        ≡ link_of config (events ++ (if has_free_seat config opening events
        then numbered conn 0 (Sit ∷ []) else [])) (Connect ∷ past) other
    kept other =
        elim (bool_tells (other == conn)) [
          | inl e ↦ (let at : other ≡ conn = eqb-true other conn e in
              rw at (ap (option_map as_link) there ∙ at_conn))
          | inr e ↦ ap (option_map as_link) (as_before other e)
              ∙ h.links other
              ∙ sym (link_same config events _ past (Connect ∷ past) other
              (counted other (eq_sym other conn e)) (stream_other Connect past other refl) refl
              (came_too (connects past) other e))
        ]
