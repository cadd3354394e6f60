-- What a connection's turn leaves, once what waited was taken.
use Rattle.std.proofs.Common.{◌≡◌, ℕ, ◌<◌, ◌≤◌, Bool, true, false, ◌==◌, is_some, List, [], ◌∷◌}
use Rattle.std.proofs.Common.{◌++◌, Option, None, Some, IfSome, if◌then◌else◌, sym, ap, ◌∙◌, refl}
use Rattle.std.proofs.Common.{append-nil, arith, inl, inr, Ok, IsSome, option_map}
use Rattle.std.proofs.lemmas.Bool.{eqb-true}
use Rattle.std.specs.Bool.{then_some}
use Rattle.agg_types.specs.declared.config.Config.{Config}
use Rattle.agg_types.specs.declared.event.Event.{Event}
use Rattle.fleet_model.specs.State.{State}
use Rattle.session_core.specs.Silence.{peer_of}
use Rattle.pushed_keys.specs.Pushes.{pushed_of}
use Rattle.pushed_keys.specs.declared.pushed.Pushed.{Pushed}
use Rattle.telling.specs.Telling.{told_after, turn_text}
use Rattle.fleet_core.specs.declared.connection.Connection.{Connection}
use Rattle.fleet_core.specs.declared.step.Replies.{Replies}
use Rattle.fleet_core.specs.declared.step.Step.{Step}
use Rattle.fleet_core.specs.declared.step.Step.TheVariants.{Told}
use Rattle.fleet_core.specs.Adds.{IsTurn}
use Rattle.fleet_core.specs.Answers.{Answers}
use Rattle.fleet_core.specs.Events.{added, count_of, events_of}
use Rattle.fleet_core.specs.Feeding.{Tells, TellsAt}
use Rattle.fleet_core.specs.Links.{Link, as_link, found, is_open, link_of, linked, next_seq_at}
use Rattle.fleet_core.specs.Links.{open_link}
use Rattle.fleet_core.specs.Possible.{can_be, end_by, is_open_after, is_spent, sent_by}
use Rattle.fleet_core.specs.Represents.{Collected, Represents, WasTold}
use Rattle.fleet_core.specs.Steps.{connects, stream}
use Rattle.fleet_core.specs.Telling.{book_after, is_greeted, sets_of, told_of, told_turn, turn_out}
use Rattle.fleet_core.proofs.Answered.{Finds, at_ok}
use Rattle.fleet_core.proofs.Counts.{apart_from_lt, bool_tells, eq_self}
use Rattle.fleet_core.proofs.Fed.{came, eq_sym}
use Rattle.fleet_core.proofs.HandingOver.{Queued, done, handed_on, none_taken}
use Rattle.fleet_core.proofs.Links.{is_kept, link_same}
use Rattle.fleet_core.proofs.Opening.{all_taken}
use Rattle.fleet_core.proofs.Steps.{closed_at, open_at, possible_with}
use Rattle.fleet_core.proofs.Telling.{told_other, told_told}

told_can_be : (config : Config) (opening : ℕ) (past : List Step) (conn : ℕ) (b : Bool)
    → is_open config (events_of config opening past) past conn ≡ b
    → can_be config opening past (Told conn) ≡ b
unfolding can_be
told_can_be config opening past conn b is = is

pub told_closed : (f : Collected) (config : Config) (opening : ℕ) (past : List Step) (conn : ℕ)
    → Represents f config opening past → next_seq_at f.links conn ≡ None
    → can_be config opening past (Told conn) ≡ false
told_closed f config opening past conn h none =
    told_can_be config opening past conn false (closed_at f config opening past conn h none)

pub told_finds : (f : Collected) (config : Config) (opening : ℕ) (past : List Step) (conn : ℕ)
    (next_seq : Option ℕ) → Represents f config opening past
    → next_seq_at f.links conn ≡ Some next_seq → Finds config opening past (Told conn) false
unfolding is_spent
told_finds f config opening past conn next_seq h at =
    record {
      could_be = told_can_be config opening past conn true
          (open_at f config opening past conn next_seq h at).open_now;
      numbers = refl;
    }

unspent : (config : Config) (opening : ℕ) (past : List Step) (conn : ℕ)
    → is_spent config opening past (Told conn) ≡ false
unfolding is_spent
unspent config opening past conn = refl

-- whether the hello was accepted, by what is kept of the connection
greeted_here : (config : Config) (opening : ℕ) (past : List Step) (conn : ℕ) (before : Connection)
    → as_link before ≡ open_link config (events_of config opening past) past conn
    → is_some (peer_of before.session.stage) ≡ is_greeted config opening past conn
unfolding is_greeted open_link
greeted_here config opening past conn before is =
    ap (λ (link : Link). is_some (peer_of link.stage)) is

-- a turn's step adds no event
same_events : (config : Config) (opening : ℕ) (past : List Step) (conn : ℕ)
    → events_of config opening (Told conn ∷ past) ≡ events_of config opening past
unfolding events_of added
same_events config opening past conn = append-nil (events_of config opening past)

no_bytes : (past : List Step) (conn other : ℕ)
    → stream (Told conn ∷ past) other ≡ stream past other
unfolding stream
no_bytes past conn other = append-nil (stream past other)

-- and keeps what is kept of each connection
same_kept : (config : Config) (opening : ℕ) (past : List Step) (conn other : ℕ)
    → link_of config (events_of config opening (Told conn ∷ past)) (Told conn ∷ past) other
    ≡ link_of config (events_of config opening past) past other
same_kept config opening past conn other =
    link_same config (events_of config opening past)
    (events_of config opening (Told conn ∷ past)) past (Told conn ∷ past) other
    (ap (count_of other) (same_events config opening past conn)) (no_bytes past conn other) refl
    refl

-- what a turn writes and leaves of a connection, in the words of the steps
turned : (f : Collected) (config : Config) (opening : ℕ) (past : List Step) (conn : ℕ)
    (before after : Connection) (bytes : List ℕ) (pushed : List Pushed)
    (sets : List (List (List ℕ))) (now : ℕ)
    → f.book ≡ book_after config opening past
    → as_link before ≡ open_link config (events_of config opening past) past conn
    → before.teller ≡ told_of config opening past conn → pushed ≡ pushed_of f.book.config
    → sets ≡ sets_of f.book pushed → now ≡ f.book.moment → Tells bytes before after pushed sets now
    → (bytes ≡ turn_out config opening past conn)
    × (after.teller ≡ told_turn config opening past conn (told_of config opening past conn))
unfolding turn_out
turned f config opening past conn before after bytes pushed sets now book is told p s n tells =
    let greeted = greeted_here config opening past conn before is in
    let sets_are : sets ≡ sets_of f.book (pushed_of f.book.config) =
    s ∙ ap (sets_of f.book) p in (
      tells.out ∙ (λ i. if greeted i then turn_text (p i) (sets_are i) (n i) (told i) else [])
          ∙ ap (λ (book : State). if is_greeted config opening past conn
          then turn_text (pushed_of book.config) (sets_of book (pushed_of book.config)) book.moment
          (told_of config opening past conn) else []) book,
      tells.teller ∙ (λ i. if greeted i then told_after (p i) (sets_are i) (n i) (told i)
          else told i) ∙ ap (λ (book : State). if is_greeted config opening past conn
          then told_after (pushed_of book.config) (sets_of book (pushed_of book.config)) book.moment
          (told_of config opening past conn) else told_of config opening past conn) book,
    )

pub told_taken : (f g : Collected) (config : Config) (opening : ℕ) (past : List Step) (conn : ℕ)
    (before : Connection) (bytes : List ℕ) (pushed : List Pushed) (sets : List (List (List ℕ)))
    (now : ℕ) → Represents f config opening past → f.waiting ≡ []
    → found f.links conn ≡ Some before → TellsAt bytes f.links g.links conn before pushed sets now
    → pushed ≡ pushed_of f.book.config → sets ≡ sets_of f.book pushed → now ≡ f.book.moment
    → g.book ≡ f.book → g.waiting ≡ [] → g.connected ≡ f.connected → g.next_seq ≡ f.next_seq
    → IsTurn bytes g config opening past conn
told_taken f g config opening past conn before bytes pushed sets now h none is tells p s n book
    waiting connected front =
    record {
      adds = handed_on g g config opening past (Told conn) (none_taken g.waiting g.book) refl refl
          refl queued;
      out = said.0;
    }
  where
    events : List Event
    events = events_of config opening past

    kept_here : (is_open config events past conn ≡ true)
        × (as_link before ≡ open_link config events past conn)
    kept_here = is_kept config events past conn (as_link before) (sym (ap (option_map as_link) is)
        ∙ h.links conn)

    arrived : (0 < conn) × (conn ≤ connects past)
    arrived = came config events past conn kept_here.0

    said : (bytes ≡ turn_out config opening past conn) × (tells.after.teller
        ≡ told_turn config opening past conn (told_of config opening past conn))
    said = turned f config opening past conn before tells.after bytes pushed sets now
        (all_taken f config opening past h none) kept_here.1 (rw is at (h.told conn)) p s n
        tells.tells

    same_link : as_link tells.after ≡ as_link before
    same_link = λ i. record {
      seated = tells.tells.seated i;
      stage = tells.tells.stage i;
      next_seq = tells.tells.next_seq i;
    }

    there : found g.links conn ≡ Some tells.after
    there = tells.set conn ∙ rw (eq_self conn) refl

    as_before : (other : ℕ) → (other == conn) ≡ false → found g.links other ≡ found f.links other
    as_before other apart = tells.set other ∙ rw apart refl

    kept : (other : ℕ) → linked g.links other
        ≡ link_of config (events_of config opening (Told conn ∷ past)) (Told conn ∷ past) other
    kept other =
        elim (bool_tells (other == conn)) [
          | inl e ↦ (let at : other ≡ conn = eqb-true other conn e in
              rw at (ap (option_map as_link) there ∙ ap (λ link. Some link) same_link
              ∙ sym (ap (option_map as_link) is) ∙ h.links conn
              ∙ sym (same_kept config opening past conn conn)))
          | inr e ↦ ap (option_map as_link) (as_before other e) ∙ h.links other
              ∙ sym (same_kept config opening past conn other)
        ]

    told : (other : ℕ) → WasTold g.links config opening (Told conn ∷ past) other
    told other =
        elim (bool_tells (other == conn)) [
          | inl e ↦ (let at : other ≡ conn = eqb-true other conn e in
              rw at (rw there (said.1 ∙ sym (told_told config opening past conn))))
          | inr e ↦ rw (
            as_before other e,
            told_other config opening past (Told conn) other
                (eq_sym other conn e),
          ) (h.told other)
        ]

    queued : Queued g config opening past (Told conn)
    queued = done f g config opening past (Told conn) h none book
        (same_events config opening past conn ∙ sym (append-nil events)
        ∙ ap (λ some. events ++ some) (sym waiting)) kept (connected ∙ h.connected)
        (front ∙ h.next_seq ∙ sym (ap (count_of 0) (same_events config opening past conn)))
        (λ other later. rw (apart_from_lt conn other (omega (arith, later, arrived.1)))
        (h.strangers other later))
        (possible_with config opening past (Told conn) (record {
          could_be = told_can_be config opening past conn true kept_here.0;
          numbers = unspent config opening past conn;
        }) refl) told

pub told_answers : (f g : Collected) (config : Config) (opening : ℕ) (past : List Step) (conn : ℕ)
    (replies : Replies) → Finds config opening past (Told conn) false → replies.conn ≡ conn
    → IsTurn replies.out g config opening past conn
    → Answers (Ok replies) f g config opening past (Told conn)
unfolding end_by sent_by
told_answers f g config opening past conn replies finds same turn =
    at_ok replies f g config opening past (Told conn) finds turn.adds refl same turn.out

-- what is found of a connection was told what its steps say, and is found where it is open
pub teller_is : (f : Collected) (config : Config) (opening : ℕ) (past : List Step) (conn : ℕ)
    → Represents f config opening past
    → option_map (λ connection. connection.teller) (found f.links conn)
    ≡ then_some (is_open_after config opening past conn) (told_of config opening past conn)
unfolding link_of
teller_is f config opening past conn h =
    by (found f.links conn) (is_open config (events_of config opening past) past conn)
    (open_link config (events_of config opening past) past conn) (h.links conn) (h.told conn)
  where
    by : (o : Option Connection) (b : Bool) (link : Link) → option_map as_link o ≡ then_some b link
        → IfSome o (λ connection. connection.teller ≡ told_of config opening past conn)
        → option_map (λ connection. connection.teller) o
        ≡ then_some b (told_of config opening past conn)
    by None true link is told = cc
    by None false link is told = refl
    by (Some connection) true link is told = ap (λ t. Some t) told
    by (Some connection) false link is told = cc

-- the same, of a connection that is open
pub turn_taken : (f g : Collected) (config : Config) (opening : ℕ) (past : List Step) (conn : ℕ)
    (bytes : List ℕ) (pushed : List Pushed) (sets : List (List (List ℕ))) (now : ℕ)
    → Represents f config opening past → f.waiting ≡ [] → IsSome (found f.links conn)
    → ((before : Connection) → found f.links conn ≡ Some before
    → TellsAt bytes f.links g.links conn before pushed sets now)
    → pushed ≡ pushed_of f.book.config → sets ≡ sets_of f.book pushed → now ≡ f.book.moment
    → g.book ≡ f.book → g.waiting ≡ [] → g.connected ≡ f.connected → g.next_seq ≡ f.next_seq
    → IsTurn bytes g config opening past conn
turn_taken f g config opening past conn bytes pushed sets now h none open_now tells p s n book
    waiting connected front = by (found f.links conn) refl open_now
  where
    by : (o : Option Connection) → found f.links conn ≡ o → IsSome o
        → IsTurn bytes g config opening past conn
    by None is some = cc
    by (Some before) is some = told_taken f g config opening past conn before bytes pushed sets now
        h none is (tells before is) p s n book waiting connected front
