-- What a piece of a connection's stream, and a loss, leave.
use Rattle.std.proofs.Common.{◌≡◌, inl, inr, ℕ, subst, ◌-◌, ◌+◌, ◌<◌, ◌≤◌, Bool, true, false, ◌==◌}
use Rattle.std.proofs.Common.{◌&&◌, not, is_none, is_some, List, [], ◌∷◌, ◌++◌, length, drop}
use Rattle.std.proofs.Common.{Option, None, Some, IfSome, if◌then◌else◌, nat_le}
use Rattle.std.proofs.Common.{nat_lt, sym, ap, ◌∙◌, refl}
use Rattle.std.proofs.Common.{add-zero, append-nil, arith, option_map}
use Rattle.std.proofs.lemmas.Bool.{and_parts, eqb-true, leb-true, lt-ltb, ltb-true}
use Rattle.std.specs.Bool.{then_some}
use Rattle.std.specs.Option.{option_map_or}
use Rattle.agg_types.specs.declared.config.Config.{Config}
use Rattle.agg_types.specs.declared.event.Event.{Event}
use Rattle.agg_types.specs.declared.event.What.{What}
use Rattle.agg_types.specs.declared.event.What.TheVariants.{Leave}
use Rattle.fleet_model.specs.Seats.{numbered}
use Rattle.fleet_model.specs.State.{state_of}
use Rattle.session_core.specs.Cause.{cause_of}
use Rattle.session_core.specs.Piece.{setup_of, Setup}
use Rattle.session_core.specs.Talk.{acks_among, stage_of, talk}
use Rattle.session_core.specs.declared.cause.End.{End}
use Rattle.session_core.specs.declared.cause.SessionCause.{SessionCause}
use Rattle.fleet_core.specs.declared.connection.Connection.{Connection}
use Rattle.fleet_core.specs.declared.connection.Outcome.{Outcome}
use Rattle.fleet_core.specs.declared.step.Step.{Step}
use Rattle.fleet_core.specs.declared.step.Step.TheVariants.{Bytes, Lost}
use Rattle.fleet_core.specs.Possible.{end_by, is_possible, sent_between, sent_by}
use Rattle.fleet_core.specs.Events.{added, at_seat, count_of, events_of, is_seated, leave_at, news}
use Rattle.fleet_core.specs.Events.{talk_of, talk_with}
use Rattle.fleet_core.specs.Feeding.{Feeds, FeedsAt, IsClosedIf, IsSet}
use Rattle.fleet_core.specs.Links.{Link, as_link, found, is_open, link_of, linked, open_link}
use Rattle.fleet_core.specs.Links.{next_seq_of}
use Rattle.fleet_core.specs.Represents.{Collected, Represents, WasTold}
use Rattle.fleet_core.specs.Telling.{is_asked, told_of}
use Rattle.telling.specs.Telling.{Told as WasToldOf, asked}
use Rattle.fleet_core.specs.Steps.{connects, is_lost, stream}
use Rattle.fleet_core.specs.Waiting.{leave_if}
use Rattle.fleet_core.proofs.Counts.{apart_from_lt, bool_tells, count-append, count-at_other}
use Rattle.fleet_core.proofs.Counts.{count-own, eq_self}
use Rattle.fleet_core.proofs.Links.{is_kept, link_kept}
use Rattle.fleet_core.proofs.HandingOver.{Queued, done}
use Rattle.fleet_core.proofs.Telling.{told_bytes, told_lost, told_other}

-- what a seat has waiting: its number, and then as many events as things that happen there
waits : (events : List Event) (conn : ℕ) (whats : List What)
    → option_map_or (λ seq. numbered conn seq whats) (next_seq_of conn events) []
    ≡ at_seat events conn whats
waits events conn whats =
    elim (is_seated conn events) as (λ b. option_map_or (λ seq. numbered conn seq whats)
    (then_some b (count_of conn events)) []
    ≡ (if b then numbered conn (count_of conn events) whats else [])) [
      | true ↦ refl
      | false ↦ refl
    ]

-- the book's tables, peers and name are those of the opening
pub same_setup : (config : Config) (opening : ℕ) (events : List Event)
    → setup_of (state_of config opening events).config ≡ setup_of config
unfolding state_of
same_setup config opening events = refl

-- after an event at its seat a connection is still seated
still_seated : (n m : ℕ) → nat_lt 0 n ≡ true → nat_lt 0 (n + m) ≡ true
still_seated n m h = lt-ltb 0 (n + m) (omega (arith, ltb-true 0 n h))

-- how many events a connection's seat has, once these happened there
seat_count : (events : List Event) (conn : ℕ) (whats : List What)
    → count_of conn (events ++ at_seat events conn whats)
    ≡ (if is_seated conn events then count_of conn events + length whats else count_of conn events)
seat_count events conn whats =
    count-append conn events (at_seat events conn whats)
    ∙ elim (is_seated conn events) as (λ b. count_of conn events + count_of conn
    (if b then numbered conn (count_of conn events) whats else [])
    ≡ (if b then count_of conn events + length whats else count_of conn events)) [
      | true ↦ ap (λ n. count_of conn events + n) (count-own conn (count_of conn events) whats)
      | false ↦ add-zero (count_of conn events)
    ]

seated_after : (events : List Event) (conn : ℕ) (whats : List What)
    → is_seated conn (events ++ at_seat events conn whats) ≡ is_seated conn events
seated_after events conn whats =
    ap (λ n. nat_lt 0 n) (seat_count events conn whats)
    ∙ elim (bool_tells (is_seated conn events)) [
      | inl e ↦ rw e (still_seated (count_of conn events) (length whats) e)
      | inr e ↦ rw e e
    ]

seat_after : (events : List Event) (conn : ℕ) (whats : List What)
    → next_seq_of conn (events ++ at_seat events conn whats)
    ≡ option_map (λ seq. seq + length whats) (next_seq_of conn events)
seat_after events conn whats =
    rw (seated_after events conn whats, seat_count events conn whats)
    (elim (is_seated conn events) as
    (λ b. then_some b (if b then count_of conn events + length whats else count_of conn events)
    ≡ option_map (λ seq. seq + length whats) (then_some b (count_of conn events))) [
      | true ↦ refl
      | false ↦ refl
    ])

-- the number of the next event at the seat of an open connection
pub seat_is : (config : Config) (events : List Event) (past : List Step) (conn : ℕ)
    (before : Connection) → as_link before ≡ open_link config events past conn
    → before.next_seq ≡ next_seq_of conn events
unfolding open_link
seat_is config events past conn before is = ap (λ (link : Link). link.next_seq) is

open_then : (config : Config) (events : List Event) (past : List Step) (conn : ℕ)
    → is_open config events past conn ≡ true → link_of config events past conn
    ≡ Some (open_link config events past conn)
unfolding link_of
open_then config events past conn is = rw is refl

-- where the stream of an open connection stands, in the words of what its session is fed with
pub here_stage : (f : Collected) (config : Config) (opening : ℕ) (past : List Step) (conn : ℕ)
    (before : Connection) → Represents f config opening past
    → as_link before ≡ open_link config (events_of config opening past) past conn
    → before.session.stage ≡ stage_of (setup_of f.book.config) before.session.seated
    (stream past conn)
unfolding open_link
here_stage f config opening past conn before h is =
    ap (λ (link : Link). link.stage) is
    ∙ rw (
      ap (λ state. setup_of state.config) h.book,
      same_setup config opening h.handed,
      ap (λ (link : Link). link.seated) is,
    ) refl

-- ---- a piece

-- what the connection heard, in the words of the steps
record FedHere (config : Config) (events : List Event) (past : List Step) (conn : ℕ)
    (piece : List ℕ) (given : Outcome) (after : Connection) : Type 0 where
  facts : given.facts ≡ drop (length (talk_of config events past conn).facts)
      (talk_with config events past conn piece).facts
  out : given.out ≡ sent_between config (talk_of config events past conn)
      (talk_with config events past conn piece)
  end : given.end ≡ option_map cause_of (talk_with config events past conn piece).end
  stage : after.session.stage ≡ stage_of (setup_of config) (is_seated conn events)
      (stream past conn ++ piece)
  seated : after.session.seated ≡ is_seated conn events
  next_seq : after.next_seq ≡ option_map (λ seq. seq + length given.facts) (next_seq_of conn events)

here : (config config' : Config) (events : List Event) (past : List Step) (conn : ℕ)
    (piece : List ℕ) (given : Outcome) (before after : Connection)
    → setup_of config' ≡ setup_of config → as_link before ≡ open_link config events past conn
    → Feeds given before after config' (stream past conn) piece
    → FedHere config events past conn piece given after
unfolding talk_of talk_with open_link
here config config' events past conn piece given before after same is feeds =
    let seated : before.session.seated ≡ is_seated conn events =
    ap (λ (link : Link). link.seated) is in
    let seat : before.next_seq ≡ next_seq_of conn events = ap (λ (link : Link). link.next_seq) is in
    record {
      facts = rw (same, seated) at feeds.facts;
      out =
          subst (λ (setup : Setup). given.out
          ≡ drop (length (talk setup (is_seated conn events) (stream past conn)).replies)
          (talk setup (is_seated conn events) (stream past conn ++ piece)).replies
          ++ acks_among setup.tables ((talk setup (is_seated conn events)
          (stream past conn ++ piece)).count -
          (talk setup (is_seated conn events) (stream past conn)).count)
          (talk setup (is_seated conn events) (stream past conn ++ piece)).past) same
          (rw seated at feeds.out);
      end = rw (same, seated) at feeds.end;
      stage = rw (same, seated) at feeds.stage;
      seated = feeds.seated ∙ seated;
      next_seq = rw seat at feeds.next_seq;
    }

-- whether the piece asked for all, in the words of the steps
asked_here : (config config' : Config) (opening : ℕ) (past : List Step) (conn : ℕ)
    (piece : List ℕ) (given : Outcome) (before after : Connection)
    → setup_of config' ≡ setup_of config
    → as_link before ≡ open_link config (events_of config opening past) past conn
    → Feeds given before after config' (stream past conn) piece
    → after.teller ≡ (if is_asked config opening past conn piece then asked before.teller
    else before.teller)
unfolding talk_of talk_with open_link is_asked
asked_here config config' opening past conn piece given before after same is feeds =
    let seated : before.session.seated ≡ is_seated conn (events_of config opening past) =
    ap (λ (link : Link). link.seated) is in
    rw (same, seated) at feeds.teller

leaves : (facts : List What) (end : Option End) (cause : Option SessionCause)
    → cause ≡ option_map cause_of end → facts ++ leave_if (is_some cause) ≡ facts ++ leave_at end
leaves facts None cause is = rw is refl
leaves facts (Some end) cause is = rw is refl

-- the facts of an end that didn't come are all that happened
unended : (facts : List What) (end : Option End) → end ≡ None → length (facts ++ leave_at end)
    ≡ length facts
unended facts end is = rw is (ap length (append-nil facts))

is_none_tells : {X : Type 0} (o : Option X) → is_none o ≡ true → o ≡ None
is_none_tells None h = refl
is_none_tells (Some x) h = cc

none_cause : (end : Option End) → option_map cause_of end ≡ None → end ≡ None
none_cause None h = refl
none_cause (Some end) h = cc

some_cause : (end : Option End) (cause : SessionCause)
    → option_map cause_of end ≡ Some cause → is_none end ≡ false
some_cause None cause h = cc
some_cause (Some end) cause h = refl

-- the stream and the talk with the piece
stream_with : (past : List Step) (conn : ℕ) (piece : List ℕ) → stream (Bytes conn piece ∷ past) conn
    ≡ stream past conn ++ piece
unfolding stream
stream_with past conn piece = ap (λ b. stream past conn ++ (if b then piece else [])) (eq_self conn)

talk_then : (config : Config) (events : List Event) (past : List Step) (conn : ℕ) (piece : List ℕ)
    (whats : List What) → talk_of config (events ++ at_seat events conn whats)
    (Bytes conn piece ∷ past) conn ≡ talk_with config events past conn piece
unfolding talk_of talk_with
talk_then config events past conn piece whats =
    rw (seated_after events conn whats, stream_with past conn piece) refl

still_open : (a b : Bool) (c : Bool) → (a && b) ≡ true → c ≡ true → (a && c) ≡ true
still_open true b c h is = is
still_open false b c h is = cc

-- an open connection whose stream goes on
goes_on : (config : Config) (events : List Event) (past : List Step) (conn : ℕ) (piece : List ℕ)
    (whats : List What) → is_open config events past conn ≡ true
    → (talk_with config events past conn piece).end ≡ None
    → is_open config (events ++ at_seat events conn whats) (Bytes conn piece ∷ past) conn ≡ true
unfolding is_open
goes_on config events past conn piece whats was none =
    still_open (nat_lt 0 conn && (nat_le conn (connects past) && not (is_lost past conn)))
    (is_none (talk_of config events past conn).end) _ was
    (rw (talk_then config events past conn piece whats, none) refl)

-- one whose stream ended
has_ended : (config : Config) (events : List Event) (past : List Step) (conn : ℕ) (piece : List ℕ)
    (whats : List What) → is_none (talk_with config events past conn piece).end ≡ false
    → link_of config (events ++ at_seat events conn whats) (Bytes conn piece ∷ past) conn ≡ None
unfolding link_of is_open
has_ended config events past conn piece whats ended =
    rw (talk_then config events past conn piece whats, ended)
    (never (nat_lt 0 conn && (nat_le conn (connects past) && not (is_lost past conn))) _)
  where
    never : (a : Bool) (link : Link) → then_some (a && false) link ≡ None
    never true link = refl
    never false link = refl

link_then : (config : Config) (events : List Event) (past : List Step) (conn : ℕ) (piece : List ℕ)
    (given : Outcome) (after : Connection) → FedHere config events past conn piece given after
    → (talk_with config events past conn piece).end ≡ None
    → as_link after ≡ open_link config
    (events ++ at_seat events conn
    (news (talk_of config events past conn) (talk_with config events past conn piece)))
    (Bytes conn piece ∷ past) conn
unfolding open_link
link_then config events past conn piece given after heard none =
    let whats : List What = news (talk_of config events past conn)
    (talk_with config events past conn piece) in
    let many : length whats ≡ length given.facts = unended _ _ none ∙ ap length (sym heard.facts) in
    rw (
      seat_after events conn whats,
      seated_after events conn whats,
      stream_with past conn piece,
      many,
      heard.seated,
      heard.stage,
      heard.next_seq,
    ) refl

-- what is found of the connection, after it heard and was closed if its stream ended
found_then : (end : Option SessionCause) (old heard new : List (ℕ × Connection)) (conn : ℕ)
    (after : Connection) → IsSet old heard conn (Some after)
    → IsClosedIf (is_some end) heard new conn
    → found new conn ≡ (if is_some end then None else Some after)
found_then None old heard new conn after set closed = closed conn ∙ set conn
    ∙ rw (eq_self conn) refl
found_then (Some cause) old heard new conn after set closed = closed conn ∙ rw (eq_self conn) refl

found_other : (end : Option SessionCause) (old heard new : List (ℕ × Connection)) (conn other : ℕ)
    (after : Connection) → IsSet old heard conn (Some after)
    → IsClosedIf (is_some end) heard new conn → (other == conn) ≡ false
    → found new other ≡ found old other
found_other None old heard new conn other after set closed apart = closed other ∙ set other
    ∙ rw apart refl
found_other (Some cause) old heard new conn other after set closed apart = closed other
    ∙ rw apart (set other ∙ rw apart refl)

pub eq_sym : (a b : ℕ) → (a == b) ≡ false → (b == a) ≡ false
eq_sym a b apart = elim (bool_tells (b == a)) [
  | inl e ↦
      (let same = eqb-true b a e in let no = rw same at apart in cc)
  | inr e ↦ e
]

-- of an open connection: it isn't number 0, and it came
pub came : (config : Config) (events : List Event) (past : List Step) (conn : ℕ)
    → is_open config events past conn ≡ true → (0 < conn) × (conn ≤ connects past)
unfolding is_open
came config events past conn is =
    let first = and_parts _ _ is in
    let second = and_parts _ _ first.0 in
    let third = and_parts _ _ second.1 in
    (ltb-true 0 conn second.0, leb-true conn (connects past) third.0)

-- a piece was fed, and its events wait
pub record FedQueued (bytes : List ℕ) (end : Option SessionCause) (new : Collected)
    (config : Config) (opening : ℕ) (past : List Step) (conn : ℕ) (piece : List ℕ) : Type 0 where
  pub queued : Queued new config opening past (Bytes conn piece)
  pub ended : end_by config opening past (Bytes conn piece) ≡ end
  pub out : bytes ≡ (sent_by config opening past (Bytes conn piece)).out

pub heard : (f g : Collected) (config : Config) (opening : ℕ) (past : List Step) (conn : ℕ)
    (piece : List ℕ) (given : Outcome) (links : List (ℕ × Connection)) (before : Connection)
    → Represents f config opening past → f.waiting ≡ [] → found f.links conn ≡ Some before
    → FeedsAt given f.links links conn before f.book.config (stream past conn) piece
    → IsClosedIf (is_some given.end) links g.links conn
    → g.book ≡ f.book → g.waiting ≡ option_map_or
    (λ seq. numbered conn seq (given.facts ++ leave_if (is_some given.end))) before.next_seq []
    → g.connected ≡ f.connected → g.next_seq ≡ f.next_seq
    → is_possible config opening past (Bytes conn piece) ≡ true
    → FedQueued given.out given.end g config opening past conn piece
unfolding events_of added end_by sent_by
heard f g config opening past conn piece given links before h none is feeds closed book waiting
    connected front possible =
    record {
      queued = done f g config opening past (Bytes conn piece) h none book
          (ap (λ some. events ++ some) (sym (waiting ∙ waited)))
          kept
          (connected ∙ h.connected)
          (front ∙ h.next_seq ∙ sym (count-append 0 events added_now
          ∙ ap (λ n. count_of 0 events + n)
          (count-at_other events conn 0 whats (eq_sym 0 conn (apart_from_lt 0 conn arrived.0)))
          ∙ add-zero (count_of 0 events)))
          (λ other later. rw (apart_from_lt conn other (omega (arith, later, arrived.1)))
          (h.strangers other later))
          possible
          told;
      ended = sym heard_here.end;
      out = heard_here.out;
    }
  where
    events : List Event
    events = events_of config opening past

    whats : List What
    whats = news (talk_of config events past conn) (talk_with config events past conn piece)

    added_now : List Event
    added_now = at_seat events conn whats

    kept_here : (is_open config events past conn ≡ true)
        × (as_link before ≡ open_link config events past conn)
    kept_here = is_kept config events past conn (as_link before) (sym (ap (option_map as_link) is)
        ∙ h.links conn)

    arrived : (0 < conn) × (conn ≤ connects past)
    arrived = came config events past conn kept_here.0

    same : setup_of f.book.config ≡ setup_of config
    same = ap (λ state. setup_of state.config) h.book ∙ same_setup config opening h.handed

    heard_here : FedHere config events past conn piece given feeds.after
    heard_here = here config f.book.config events past conn piece given before feeds.after same
        kept_here.1 feeds.feeds

    waited : option_map_or (λ seq. numbered conn seq (given.facts ++ leave_if (is_some given.end)))
        before.next_seq [] ≡ added_now
    waited =
        rw (
          leaves given.facts (talk_with config events past conn piece).end given.end
              heard_here.end,
          heard_here.facts,
          seated_at,
        ) (waits events conn whats)
      where
        seated_at : before.next_seq ≡ next_seq_of conn events
        seated_at = seat_is config events past conn before kept_here.1

    told_here : (end : Option SessionCause)
        → IfSome (if is_some end then None else Some feeds.after)
        (λ connection. connection.teller ≡ told_of config opening (Bytes conn piece ∷ past) conn)
    told_here None =
        asked_here config f.book.config opening past conn piece given before feeds.after same
        kept_here.1 feeds.feeds
        ∙ ap (λ (t : WasToldOf). if is_asked config opening past conn piece then asked t else t)
        (rw is at (h.told conn)) ∙ sym (told_bytes config opening past conn piece)
    told_here (Some cause) = tt

    told : (other : ℕ) → WasTold g.links config opening (Bytes conn piece ∷ past) other
    told other =
        elim (bool_tells (other == conn)) [
          | inl e ↦ (let at : other ≡ conn = eqb-true other conn e in
              rw at (rw (found_then given.end f.links links g.links conn feeds.after feeds.set
              closed) (told_here given.end)))
          | inr e ↦ rw (
            found_other given.end f.links links g.links conn other feeds.after feeds.set
                closed e,
            told_other config opening past (Bytes conn piece) other
                (eq_sym other conn e),
          ) (h.told other)
        ]

    kept : (other : ℕ) → linked g.links other ≡ link_of config (events ++ added_now)
        (Bytes conn piece ∷ past) other
    kept other =
        elim (bool_tells (other == conn)) [
          | inl e ↦ (let at : other ≡ conn = eqb-true other conn e in rw at at_conn)
          | inr e ↦ ap (option_map as_link) (found_other given.end f.links links g.links conn other
              feeds.after feeds.set closed e)
              ∙ h.links other
              ∙ sym (link_kept config events (events ++ added_now) past (Bytes conn piece) other
              refl (eq_sym other conn e)
              (count-append other events added_now
              ∙ ap (λ n. count_of other events + n)
              (count-at_other events conn other whats (eq_sym other conn e))
              ∙ add-zero (count_of other events)))
        ]
      where
        at_conn : linked g.links conn ≡ link_of config (events ++ added_now)
            (Bytes conn piece ∷ past) conn
        at_conn = ap (option_map as_link) (found_then given.end f.links links g.links conn
            feeds.after feeds.set closed) ∙ ended_or_not given.end heard_here.end
          where
            ended_or_not : (end : Option SessionCause)
                → end ≡ option_map cause_of (talk_with config events past conn piece).end
                → option_map as_link (if is_some end then None else Some feeds.after)
                ≡ link_of config (events ++ added_now) (Bytes conn piece ∷ past) conn
            ended_or_not None ends =
                let goes : (talk_with config events past conn piece).end ≡ None =
                none_cause _ (sym ends) in
                sym (open_then config (events ++ added_now) (Bytes conn piece ∷ past) conn
                (goes_on config events past conn piece whats kept_here.0 goes)
                ∙ ap (λ link. Some link) (sym (link_then config events past conn piece given
                feeds.after heard_here goes)))
            ended_or_not (Some cause) ends =
                sym (has_ended config events past conn piece whats (some_cause _ cause (sym ends)))

-- ---- a loss

lost_now : (config : Config) (events : List Event) (past : List Step) (conn : ℕ)
    → link_of config events (Lost conn ∷ past) conn ≡ None
unfolding link_of is_open
lost_now config events past conn =
    rw (eq_self conn) (never (nat_lt 0 conn) (nat_le conn (connects past)) _ _)
  where
    never : (a b c : Bool) (link : Link) → then_some ((a && (b && false)) && c) link ≡ None
    never true true c link = refl
    never true false c link = refl
    never false b c link = refl

pub closed_now : (f g : Collected) (config : Config) (opening : ℕ) (past : List Step) (conn : ℕ)
    (before : Connection)
    → Represents f config opening past → f.waiting ≡ [] → found f.links conn ≡ Some before
    → IsSet f.links g.links conn None
    → g.book ≡ f.book → g.waiting ≡ option_map_or (λ seq. numbered conn seq (Leave ∷ []))
    before.next_seq [] → g.connected ≡ f.connected → g.next_seq ≡ f.next_seq
    → is_possible config opening past (Lost conn) ≡ true
    → Queued g config opening past (Lost conn)
unfolding events_of added
closed_now f g config opening past conn before h none is set book waiting connected front possible =
    done f g config opening past (Lost conn) h none book
    (ap (λ some. events ++ some) (sym (waiting
    ∙ ap (λ seat. option_map_or (λ seq. numbered conn seq (Leave ∷ [])) seat [])
    (seat_is config events past conn before kept_here.1) ∙ waits events conn (Leave ∷ []))))
    kept
    (connected ∙ h.connected)
    (front ∙ h.next_seq ∙ sym (count-append 0 events added_now
    ∙ ap (λ n. count_of 0 events + n) (count-at_other events conn 0 (Leave ∷ [])
    (eq_sym 0 conn (apart_from_lt 0 conn arrived.0))) ∙ add-zero (count_of 0 events)))
    (λ other later. rw (apart_from_lt conn other (omega (arith, later, arrived.1)))
    (h.strangers other later))
    possible
    told
  where
    events : List Event
    events = events_of config opening past

    added_now : List Event
    added_now = at_seat events conn (Leave ∷ [])

    kept_here : (is_open config events past conn ≡ true)
        × (as_link before ≡ open_link config events past conn)
    kept_here = is_kept config events past conn (as_link before) (sym (ap (option_map as_link) is)
        ∙ h.links conn)

    arrived : (0 < conn) × (conn ≤ connects past)
    arrived = came config events past conn kept_here.0

    told : (other : ℕ) → WasTold g.links config opening (Lost conn ∷ past) other
    told other =
        elim (bool_tells (other == conn)) [
          | inl e ↦ (let at : other ≡ conn = eqb-true other conn e in
              rw at (rw (gone) tt))
          | inr e ↦ rw (as_before other e, told_lost config opening past conn other) (h.told other)
        ]
      where
        gone : found g.links conn ≡ None
        gone = set conn ∙ rw (eq_self conn) refl

        as_before : (other : ℕ) → (other == conn) ≡ false
            → found g.links other ≡ found f.links other
        as_before other apart = set other ∙ rw apart refl

    kept : (other : ℕ) → linked g.links other ≡ link_of config (events ++ added_now)
        (Lost conn ∷ past) other
    kept other =
        elim (bool_tells (other == conn)) [
          | inl e ↦ (let at : other ≡ conn = eqb-true other conn e in rw at at_conn)
          | inr e ↦ ap (option_map as_link) (as_before other e)
              ∙ h.links other
              ∙ sym (link_kept config events (events ++ added_now) past (Lost conn) other refl
              (eq_sym other conn e)
              (count-append other events added_now
              ∙ ap (λ n. count_of other events + n)
              (count-at_other events conn other (Leave ∷ []) (eq_sym other conn e))
              ∙ add-zero (count_of other events)))
        ]
      where
        gone : found g.links conn ≡ None
        gone = set conn ∙ rw (eq_self conn) refl

        as_before : (other : ℕ) → (other == conn) ≡ false
            → found g.links other ≡ found f.links other
        as_before other apart = set other ∙ rw apart refl

        at_conn : linked g.links conn ≡ link_of config (events ++ added_now) (Lost conn ∷ past) conn
        at_conn = ap (option_map as_link) gone
            ∙ sym (lost_now config (events ++ added_now) past conn)
