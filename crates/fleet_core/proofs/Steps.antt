-- What each kind of step leaves, once what waited was taken.
use Rattle.std.proofs.Common.{arith, ◌≤◌, ◌<◌, ◌≡◌, ℕ, ◌+◌, Bool, true, false, ◌&&◌}
use Rattle.std.proofs.Common.{is_some, List, [], ◌∷◌, ◌++◌, length, Option, None, Some, Result, Ok}
use Rattle.std.proofs.Common.{Err, option_map, option_to_list, IsSome, IsErrAnd, MatchResult}
use Rattle.std.proofs.Common.{if◌then◌else◌, nat_lt, nat_le, sym, ap, ◌∙◌, refl, append-nil}
use Rattle.std.specs.Bool.{then_some}
use Rattle.std.specs.Option.{option_map_or}
use Rattle.agg_types.specs.declared.config.Config.{Config}
use Rattle.agg_types.specs.declared.event.Event.{Event}
use Rattle.agg_types.specs.declared.event.What.{What}
use Rattle.agg_types.specs.declared.event.What.TheVariants.{Leave, Sit}
use Rattle.agg_types.specs.declared.limits.TheConstants.{LAST_SEAT, MOST_SEATS}
use Rattle.agg_types.specs.declared.no_memory.NoMemory.{NoMemory}
use Rattle.fleet_model.specs.Seats.{numbered}
use Rattle.fleet_model.specs.State.{state_of}
use Rattle.session_core.specs.Piece.{Setup}
use Rattle.session_core.specs.Talk.{stage_of}
use Rattle.session_core.specs.declared.cause.SessionCause.{SessionCause}
use Rattle.telling.specs.Telling.{untold}
use Rattle.fleet_core.specs.declared.connection.Connection.{Connection}
use Rattle.fleet_core.specs.declared.connection.Outcome.{Outcome}
use Rattle.fleet_core.specs.declared.step.FleetFault.TheVariants.{Session}
use Rattle.fleet_core.specs.declared.step.Replies.{Replies}
use Rattle.fleet_core.specs.declared.step.Step.{Step}
use Rattle.fleet_core.specs.declared.step.Step.TheVariants.{Connect, Bytes, Lost, Clear, AddFilter}
use Rattle.fleet_core.specs.declared.step.Step.TheVariants.{DropFilter, Moment, Told}
use Rattle.fleet_core.specs.Adds.{Adds, IsFed}
use Rattle.fleet_core.specs.Answers.{Answers}
use Rattle.fleet_core.specs.Events.{count_of, events_of, is_seated}
use Rattle.fleet_core.specs.Feeding.{FeedsAt, IsAfter, IsClosedIf, IsSet}
use Rattle.fleet_core.specs.Links.{as_link, found, is_open, next_seq_at, next_seq_of, open_link}
use Rattle.fleet_core.specs.Possible.{can_be, does_fit, end_by, is_full, is_possible, is_spent}
use Rattle.fleet_core.specs.Possible.{sent_by}
use Rattle.fleet_core.specs.Represents.{Collected, Represents}
use Rattle.fleet_core.specs.Steps.{connects, stream, what_at}
use Rattle.fleet_core.specs.Waiting.{AreHandedOver, leave_if}
use Rattle.fleet_core.proofs.Answered.{Finds, at_ok, at_session}
use Rattle.fleet_core.proofs.Counts.{some_is}
use Rattle.fleet_core.proofs.Fed.{FedQueued, closed_now, heard, here_stage, seat_is}
use Rattle.fleet_core.proofs.Front.{front_done}
use Rattle.fleet_core.proofs.HandingOver.{handed_on}
use Rattle.fleet_core.proofs.Links.{is_closed, is_kept}
use Rattle.fleet_core.proofs.Opening.{accepted}

-- the exit of a `?`
pub left_early : {A : Type 0} (P : A → Type 0) (S : NoMemory → Type 0) (Q : Type 0)
    (r : Result A NoMemory) → IsErrAnd r S → Q → MatchResult r P (λ _. Q)
left_early P S Q (Ok x) is q = elim is [ ]
left_early P S Q (Err e) is q = q

pub possible_with : (config : Config) (opening : ℕ) (past : List Step) (step : Step)
    → Finds config opening past step false → does_fit config step ≡ true
    → is_possible config opening past step ≡ true
possible_with config opening past step finds fits = rw (finds.could_be, finds.numbers, fits) refl

-- what fits doesn't hang on the filters that were added
fits_then : (config : Config) (opening : ℕ) (taken : List Event) (step : Step)
    → does_fit (state_of config opening taken).config step ≡ does_fit config step
unfolding state_of
fits_then config opening taken Connect = refl
fits_then config opening taken (Bytes conn piece) = refl
fits_then config opening taken (Lost conn) = refl
fits_then config opening taken (Clear table sel) = refl
fits_then config opening taken (AddFilter filter) = refl
fits_then config opening taken (DropFilter name) = refl
fits_then config opening taken (Moment moment) = refl
fits_then config opening taken (Told conn) = refl

pub fits_now : (fleet : Collected) (config : Config) (opening : ℕ) (past : List Step) (step : Step)
    → Represents fleet config opening past → does_fit fleet.book.config step ≡ does_fit config step
fits_now fleet config opening past step h = ap (λ state. does_fit state.config step) h.book
    ∙ fits_then config opening h.handed step

-- ---- seat 0

record FrontTells (config : Config) (opening : ℕ) (past : List Step) (step : Step) : Type 0 where
  could_be : can_be config opening past step ≡ true
  numbers : is_spent config opening past step
      ≡ is_full (count_of 0 (events_of config opening past)) 1
  ended : end_by config opening past step ≡ None
  out : (sent_by config opening past step).out ≡ []
  conn : (sent_by config opening past step).conn ≡ 0

front_tells : (config : Config) (opening : ℕ) (past : List Step) (step : Step)
    → IsSome (what_at step) → FrontTells config opening past step
unfolding can_be is_spent end_by sent_by
front_tells config opening past Connect some = cc
front_tells config opening past (Bytes conn piece) some = cc
front_tells config opening past (Lost conn) some = cc
front_tells config opening past (Told conn) some = cc
front_tells config opening past (Clear table sel) some =
    record { could_be = refl; numbers = refl; ended = refl; out = refl; conn = refl }
front_tells config opening past (AddFilter filter) some =
    record { could_be = refl; numbers = refl; ended = refl; out = refl; conn = refl }
front_tells config opening past (DropFilter name) some =
    record { could_be = refl; numbers = refl; ended = refl; out = refl; conn = refl }
front_tells config opening past (Moment moment) some =
    record { could_be = refl; numbers = refl; ended = refl; out = refl; conn = refl }

-- whether seat 0's numbers are spent
pub front_finds : (f : Collected) (config : Config) (opening : ℕ) (past : List Step) (step : Step)
    (spent : Bool) → IsSome (what_at step) → Represents f config opening past
    → is_full f.next_seq 1 ≡ spent → Finds config opening past step spent
front_finds f config opening past step spent some h is =
    let tells = front_tells config opening past step some in
    record {
      could_be = tells.could_be;
      numbers = tells.numbers
          ∙ ap (λ n. is_full n 1) (sym h.next_seq) ∙ is;
    }

pub front_taken : (f g : Collected) (config : Config) (opening : ℕ) (past : List Step) (step : Step)
    (what : Option What) (events : List Event) → what_at step ≡ what → IsSome what
    → Represents f config opening past → f.waiting ≡ [] → is_full f.next_seq 1 ≡ false
    → does_fit config step ≡ true
    → events ≡ numbered 0 f.next_seq (option_to_list what ++ leave_if false)
    → AreHandedOver events f.book g.waiting g.book → g.links ≡ f.links → g.connected ≡ f.connected
    → g.next_seq ≡ f.next_seq + 1 → Adds g config opening past step
front_taken f g config opening past step None events is some h none unspent fits waits are links
    connected next_seq = cc
front_taken f g config opening past step (Some what) events is some h none unspent fits waits are
    links connected front =
    handed_on waited g config opening past step are links connected front
    (front_done f waited config opening past step what is h none refl waits refl refl refl
    (possible_with config opening past step (front_finds f config opening past step false
    (rw is some) h unspent) fits))
  where
    waited : Collected
    waited = record {
      book = f.book;
      waiting = events;
      links = f.links;
      connected =
          f.connected;
      next_seq = f.next_seq + 1;
    }

pub front_answers : (f g : Collected) (config : Config) (opening : ℕ) (past : List Step)
    (step : Step) (replies : Replies) → IsSome (what_at step) → Represents f config opening past
    → is_full f.next_seq 1 ≡ false → replies ≡ record { conn = 0; out = [] }
    → Adds g config opening past step → Answers (Ok replies) f g config opening past step
front_answers f g config opening past step replies some h unspent silent adds =
    let tells = front_tells config opening past step some in
    at_ok replies f g config opening past step (front_finds f config opening past step false some h
    unspent) adds tells.ended
    (ap (λ (r : Replies). r.conn) silent ∙ sym tells.conn) (ap (λ (r : Replies). r.out) silent
    ∙ sym tells.out)

-- ---- open connections

pub record OpenAt (f : Collected) (config : Config) (opening : ℕ) (past : List Step) (conn : ℕ)
    (next_seq : Option ℕ) : Type 0 where
  pub connection : Connection
  pub is : found f.links conn ≡ Some connection
  pub open_now : is_open config (events_of config opening past) past conn ≡ true
  pub kept : as_link connection ≡ open_link config (events_of config opening past) past conn
  pub number_here : connection.next_seq ≡ next_seq
  pub number_told : next_seq ≡ next_seq_of conn (events_of config opening past)

pub open_at : (f : Collected) (config : Config) (opening : ℕ) (past : List Step) (conn : ℕ)
    (next_seq : Option ℕ) → Represents f config opening past
    → next_seq_at f.links conn ≡ Some next_seq → OpenAt f config opening past conn next_seq
open_at f config opening past conn next_seq h at = by (found f.links conn) refl at
  where
    by : (o : Option Connection) → found f.links conn ≡ o
        → option_map (λ connection. connection.next_seq) o ≡ Some next_seq
        → OpenAt f config opening past conn next_seq
    by None is at = cc
    by (Some connection) is at =
        let kept = is_kept config (events_of config opening past) past conn (as_link connection)
        (sym (ap (option_map as_link) is) ∙ h.links conn) in
        let same : connection.next_seq ≡ next_seq = some_is at in
        record {
          connection = connection;
          is = is;
          open_now = kept.0;
          kept = kept.1;
          number_here = same;
          number_told = sym same ∙ seat_is config (events_of config opening past) past conn
              connection kept.1;
        }

pub closed_at : (f : Collected) (config : Config) (opening : ℕ) (past : List Step) (conn : ℕ)
    → Represents f config opening past → next_seq_at f.links conn ≡ None
    → is_open config (events_of config opening past) past conn ≡ false
closed_at f config opening past conn h at = is_closed config (events_of config opening past) past
    conn (sym (no_link_at (found f.links conn) at) ∙ h.links conn)
  where
    no_link_at : (o : Option Connection) → option_map (λ connection. connection.next_seq) o ≡ None
        → option_map as_link o ≡ None
    no_link_at None at = refl
    no_link_at (Some connection) at = cc

-- ---- a piece

seat_spent : (events : List Event) (conn more : ℕ)
    → option_map_or (λ count. is_full count more) (next_seq_of conn events) false
    ≡ (is_seated conn events && is_full (count_of conn events) more)
seat_spent events conn more =
    elim (is_seated conn events) as (λ b. option_map_or (λ count. is_full count more)
    (then_some b (count_of conn events)) false ≡ (b && is_full (count_of conn events) more))
    [ true ↦ refl | false ↦ refl ]

bytes_can_be : (config : Config) (opening : ℕ) (past : List Step) (conn : ℕ) (piece : List ℕ)
    (b : Bool) → is_open config (events_of config opening past) past conn ≡ b
    → can_be config opening past (Bytes conn piece) ≡ b
unfolding can_be
bytes_can_be config opening past conn piece b is = is

pub bytes_closed : (f : Collected) (config : Config) (opening : ℕ) (past : List Step) (conn : ℕ)
    (piece : List ℕ) → Represents f config opening past → next_seq_at f.links conn ≡ None
    → can_be config opening past (Bytes conn piece) ≡ false
bytes_closed f config opening past conn piece h none =
    bytes_can_be config opening past conn piece false (closed_at f config opening past conn h none)

pub bytes_finds : (f : Collected) (config : Config) (opening : ℕ) (past : List Step) (conn : ℕ)
    (piece : List ℕ) (next_seq : Option ℕ) (spent : Bool)
    → OpenAt f config opening past conn next_seq → option_map_or (λ seq. is_full seq (length piece))
    next_seq false ≡ spent
    → Finds config opening past (Bytes conn piece) spent
unfolding is_spent
bytes_finds f config opening past conn piece next_seq spent at is =
    record {
      could_be = bytes_can_be config opening past conn piece true at.open_now;
      numbers = sym (seat_spent (events_of config opening past) conn (length piece))
          ∙ ap (λ o. option_map_or (λ count. is_full count (length piece)) o false)
          (sym at.number_told) ∙ is;
    }

pub bytes_ok : (replies : Replies) (end : Option SessionCause) (f g : Collected) (config : Config)
    (opening : ℕ) (past : List Step) (conn : ℕ) (piece : List ℕ) → end ≡ None → replies.conn ≡ conn
    → Finds config opening past (Bytes conn piece) false
    → IsFed replies.out end g config opening past conn piece
    → Answers (Ok replies) f g config opening past (Bytes conn piece)
unfolding sent_by
bytes_ok replies end f g config opening past conn piece is same finds fed =
    at_ok replies f g config opening past (Bytes conn piece) finds fed.adds (fed.ended
    ∙ is) same fed.out

pub bytes_ended : (out : List ℕ) (end : Option SessionCause) (cause : SessionCause)
    (f g : Collected) (config : Config) (opening : ℕ) (past : List Step) (conn : ℕ) (piece : List ℕ)
    → end ≡ Some cause
    → Finds config opening past (Bytes conn piece) false
    → IsFed out end g config opening past conn piece
    → Answers (Err (Session cause out)) f g config opening past (Bytes conn piece)
bytes_ended out end cause f g config opening past conn piece is finds fed =
    at_session cause out f g config opening past (Bytes conn piece) finds fed.adds
    (fed.ended ∙ is) fed.out

-- a piece, once what waited was taken
pub bytes_taken : (f g : Collected) (config : Config) (opening : ℕ) (past : List Step) (conn : ℕ)
    (piece : List ℕ) (next_seq : Option ℕ) (given : Outcome)
    (fed_links links : List (ℕ × Connection)) (events : List Event)
    → Represents f config opening past → f.waiting ≡ [] → next_seq_at f.links conn ≡ Some next_seq
    → option_map_or (λ seq. is_full seq (length piece)) next_seq false ≡ false
    → ((before : Connection) (bytes : List ℕ) → found f.links conn ≡ Some before
    → IsAfter before f.book.config bytes
    → FeedsAt given f.links fed_links conn before f.book.config bytes piece)
    → IsClosedIf (is_some given.end) fed_links links conn
    → events ≡ option_map_or (λ seq. numbered conn seq
    (given.facts ++ leave_if (is_some given.end))) next_seq []
    → AreHandedOver events f.book g.waiting g.book → g.links ≡ links → g.connected ≡ f.connected
    → g.next_seq ≡ f.next_seq
    → IsFed given.out given.end g config opening past conn piece
bytes_taken f g config opening past conn piece next_seq given fed_links links events h none
    at unspent feeds closed waits are same_links connected front =
    record {
      adds = handed_on waited g config opening past (Bytes conn piece) are same_links connected
          front done.queued;
      ended = done.ended;
      out = done.out;
    }
  where
    here : OpenAt f config opening past conn next_seq
    here = open_at f config opening past conn next_seq h at

    waited : Collected
    waited = record {
      book = f.book;
      waiting = events;
      links = links;
      connected =
          f.connected;
      next_seq = f.next_seq;
    }

    done : FedQueued given.out given.end waited config opening past conn piece
    done = heard f waited config opening past conn piece given fed_links here.connection
        h none here.is
        (feeds here.connection (stream past conn) here.is
        (here_stage f config opening past conn here.connection h here.kept))
        closed refl
        (waits ∙ ap (λ o. option_map_or
        (λ seq. numbered conn seq (given.facts ++ leave_if (is_some given.end))) o [])
        (sym here.number_here))
        refl refl
        (possible_with config opening past (Bytes conn piece)
        (bytes_finds f config opening past conn piece next_seq false here unspent) refl)

-- ---- a loss

lost_can_be : (config : Config) (opening : ℕ) (past : List Step) (conn : ℕ) (b : Bool)
    → is_open config (events_of config opening past) past conn ≡ b
    → can_be config opening past (Lost conn) ≡ b
unfolding can_be
lost_can_be config opening past conn b is = is

pub lost_closed : (f : Collected) (config : Config) (opening : ℕ) (past : List Step) (conn : ℕ)
    → Represents f config opening past → next_seq_at f.links conn ≡ None
    → can_be config opening past (Lost conn) ≡ false
lost_closed f config opening past conn h none =
    lost_can_be config opening past conn false (closed_at f config opening past conn h none)

pub lost_finds : (f : Collected) (config : Config) (opening : ℕ) (past : List Step) (conn : ℕ)
    (next_seq : Option ℕ) → Represents f config opening past
    → next_seq_at f.links conn ≡ Some next_seq → Finds config opening past (Lost conn) false
unfolding is_spent
lost_finds f config opening past conn next_seq h at =
    record {
      could_be = lost_can_be config opening past conn true
          (open_at f config opening past conn next_seq h at).open_now;
      numbers = refl;
    }

pub lost_taken : (f g : Collected) (config : Config) (opening : ℕ) (past : List Step) (conn : ℕ)
    (next_seq : Option ℕ) (links : List (ℕ × Connection)) (events : List Event)
    → Represents f config opening past → f.waiting ≡ [] → next_seq_at f.links conn ≡ Some next_seq
    → IsSet f.links links conn None
    → events ≡ option_map_or (λ seq. numbered conn seq (Leave ∷ [])) next_seq []
    → AreHandedOver events f.book g.waiting g.book → g.links ≡ links → g.connected ≡ f.connected
    → g.next_seq ≡ f.next_seq
    → Adds g config opening past (Lost conn)
lost_taken f g config opening past conn next_seq links events h none at set waits are same_links
    connected front =
    handed_on waited g config opening past (Lost conn) are same_links connected front
    (closed_now f waited config opening past conn here.connection h none here.is set refl (waits
    ∙ ap (λ o. option_map_or (λ seq. numbered conn seq (Leave ∷ [])) o [])
    (sym here.number_here)) refl refl
    (possible_with config opening past (Lost conn)
    (lost_finds f config opening past conn next_seq h at) refl))
  where
    here : OpenAt f config opening past conn next_seq
    here = open_at f config opening past conn next_seq h at

    waited : Collected
    waited = record {
      book = f.book;
      waiting = events;
      links = links;
      connected =
          f.connected;
      next_seq = f.next_seq;
    }

pub lost_answers : (f g : Collected) (config : Config) (opening : ℕ) (past : List Step) (conn : ℕ)
    (replies : Replies) → Finds config opening past (Lost conn) false
    → replies ≡ record { conn = conn; out = [] } → Adds g config opening past (Lost conn)
    → Answers (Ok replies) f g config opening past (Lost conn)
unfolding end_by sent_by
lost_answers f g config opening past conn replies finds silent adds =
    at_ok replies f g config opening past (Lost conn) finds adds refl
    (ap (λ (r : Replies). r.conn) silent) (ap (λ (r : Replies). r.out) silent)

-- ---- a peer connects

pub connect_taken : (f g : Collected) (config : Config) (opening : ℕ) (past : List Step)
    (seated : Bool) (connection : Connection) (links : List (ℕ × Connection)) (events : List Event)
    (facts : List What)
    → Represents f config opening past → f.waiting ≡ [] → f.connected < LAST_SEAT
    → seated ≡ nat_lt (length f.book.seats) MOST_SEATS
    → ((setup : Setup) → connection.session.stage ≡ stage_of setup seated [])
    → connection.session.seated ≡ seated → connection.next_seq ≡ then_some seated 1
    → connection.teller ≡ untold → IsSet f.links links (f.connected + 1) (Some connection)
    → facts ≡ (if seated then Sit ∷ [] else [])
    → events ≡ numbered (f.connected + 1) 0 (facts ++ leave_if false)
    → AreHandedOver events f.book g.waiting g.book → g.links ≡ links → g.connected ≡ f.connected + 1
    → g.next_seq ≡ f.next_seq
    → Adds g config opening past Connect
connect_taken f g config opening past seated connection links events facts h none few free stands
    is_seated_now number told set sits waits are same_links connected front =
    handed_on waited g config opening past Connect are same_links connected front
    (accepted f waited config opening past seated connection h none free stands is_seated_now number
    told set refl (waits ∙ ap (numbered (f.connected + 1) 0) (append-nil facts ∙ sits))
    refl refl few)
  where
    waited : Collected
    waited = record {
      book = f.book;
      waiting = events;
      links = links;
      connected =
          f.connected + 1;
      next_seq = f.next_seq;
    }

pub connect_finds : (f : Collected) (config : Config) (opening : ℕ) (past : List Step)
    (spent : Bool) → Represents f config opening past → nat_le LAST_SEAT f.connected ≡ spent
    → Finds config opening past Connect spent
unfolding can_be is_spent
connect_finds f config opening past spent h is =
    record { could_be = refl; numbers = ap (nat_le LAST_SEAT) (sym h.connected) ∙ is }

pub connect_answers : (f g : Collected) (config : Config) (opening : ℕ) (past : List Step)
    (conn : ℕ) (replies : Replies) → Finds config opening past Connect false
    → conn ≡ connects past + 1 → replies ≡ record { conn = conn; out = [] }
    → Adds g config opening past Connect → Answers (Ok replies) f g config opening past Connect
unfolding end_by sent_by
connect_answers f g config opening past conn replies finds is silent adds =
    at_ok replies f g config opening past Connect finds adds refl
    (ap (λ (r : Replies). r.conn) silent ∙ is) (ap (λ (r : Replies). r.out) silent)

pub nothing_waits : (waiting : List Event) (n : ℕ) → n ≡ length waiting → n ≤ 0 → waiting ≡ []
nothing_waits [] n is none = refl
nothing_waits (e ∷ rest) n is none = let no : ⊥ = omega (arith, is, none) in elim no [ ]
