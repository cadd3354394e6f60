-- How a session at work goes on, and how it stops.
use Rattle.std.proofs.Common.{is_some, ◌≡◌, ℕ, ◌-◌, ◌≤◌, Bool, List, [], ◌∷◌, ◌++◌, length, drop}
use Rattle.std.proofs.Common.{Option, None, Some, Result, Ok, Err, refl, sym, ap, ◌∙◌, subst, arith}
use Rattle.std.proofs.Common.{append-nil, inl, inr, length-append}
use Rattle.std.proofs.Math.Seq.{drop-append_seam}
use Rattle.std.specs.Option.{option_map}
use Rattle.agg_types.specs.declared.event.What.{What}
use Rattle.session_core.specs.declared.batch.SessionFault.{SessionFault}
use Rattle.session_core.specs.declared.cause.SessionCause.{SessionCause}
use Rattle.session_core.specs.declared.cause.SessionCause.TheVariants as causes
use Rattle.session_core.proofs.FactLemmas.{facts_few}
use Rattle.session_core.specs.State.{FaultAnswers, SessionState}
use Rattle.agg_types.specs.declared.config.Config.{Config}
use Rattle.session_core.specs.Batched.{Batched}
use Rattle.session_core.specs.Piece.{Setup, piece_of, setup_of}
use Rattle.session_core.specs.Talk.{Grows, Talk, acks_among, stage_of, talk}
use Rattle.session_core.specs.TalkAnswers.{FaultAnswersTalk, ContinuesTalk}
use Rattle.session_core.specs.declared.stage.Stage.{Stage}
use Rattle.hub.specs.History.{Beginning}
use Rattle.peer_worker.proofs.Ends.{never_late}
use Rattle.worker_frame.specs.declared.poster.Poster.{Poster}
use Rattle.peer_worker.specs.declared.faults.AnswerFault.{AnswerFault}
use Rattle.peer_worker.specs.declared.faults.AnswerFault.TheVariants as answers
use Rattle.worker_frame.specs.declared.served.Cause.{Cause}
use Rattle.worker_frame.specs.declared.served.Cause.TheVariants.{Read, Write, Session, Post, Look}
use Rattle.worker_frame.specs.declared.served.Faulted.{Faulted}
use Rattle.worker_frame.specs.declared.served.Served.{Served}
use Rattle.peer_worker.specs.declared.worker.Worker.{Worker}
use Rattle.std.specs.Io.KnownBytes.{Appends}
use Rattle.peer_worker.specs.Faults.{cause_of_turn, turn_fault_of}
use Rattle.peer_worker.proofs.Tellings.{shown_at, tells_piece, tells_signal}
use Rattle.peer_worker.specs.Tellings.{AreTellings, TellsOn, asked_pushing}
use Rattle.worker_frame.specs.Told.{stored_of}
use Rattle.worker_frame.specs.Traffic.{Advances, Traffic, so_far}
use Rattle.worker_frame.proofs.Sent.{wrote_more, wrote_none}
use Rattle.peer_worker.specs.declared.waiting.Signal.{Signal}
use Rattle.peer_worker.specs.Turns.{PosterTells, EndsBy, EndsBySession, IsPosterOf, IsAnswered}
use Rattle.peer_worker.specs.Turns.{IsRefused, SeatIsServed, answer_at, answers_in, facts_in, Piece}
use Rattle.peer_worker.specs.Turns.{Send, Turn, WroteSignal, said_beyond, seat_at, taken_in}
use Rattle.peer_worker.specs.Turns.{text_of_signal}
use Rattle.session_core.specs.Asking.{asks_all}
use Rattle.peer_worker.specs.Working.{EndsFor, EndsTo, IsAtWork, IsServedUntil, IsServedWhole}
use Rattle.peer_worker.specs.Working.{SettlesThen, SettlesTo, Stops, Works, WorksOn}

-- what a piece's batch says is what its talk says beyond the talk before it
pub says_beyond : (setup : Setup) (old new : Talk) (batch : Batched) → Grows setup old new batch
    → said_beyond setup old new ≡ batch.replies ++ batch.acks
says_beyond setup old new batch grows =
    ap (λ rs. drop (length old.replies) rs ++ acks_among setup.tables (new.count - old.count)
    new.past) grows.replies
    ∙ (ap (λ rs. rs ++ acks_among setup.tables (new.count - old.count) new.past)
    (drop-append_seam old.replies batch.replies)
    ∙ ap (λ acks. batch.replies ++ acks) (sym grows.acks))

less_old : (some more : List What) (all : List What) → all ≡ some ++ more
    → length all - length some ≡ length more
less_old some more all is = let l = ap length is in omega (arith, length-append some more)

-- a cause of a session that took its last piece
abbrev pub TookIt : SessionCause → Type 0
TookIt (causes.Refused status) = Unit {0}
TookIt (causes.Wire wire) = Unit {0}
TookIt causes.PeerError = Unit {0}
TookIt causes.TimedOut = Unit {0}
TookIt causes.NoMemory = ⊥

by_session : (setup : Setup) (seated : Bool) (Shown : List Turn → Type 0)
    (Told : List What → ℕ → Type 0) (bytes written : List ℕ) (cause : SessionCause) → TookIt cause
    → IsAnswered setup seated Shown Told (Some cause) bytes written
    → EndsBySession setup seated Shown Told bytes written cause
by_session setup seated Shown Told bytes written (causes.Refused status) took is = is
by_session setup seated Shown Told bytes written (causes.Wire wire) took is = is
by_session setup seated Shown Told bytes written causes.PeerError took is = is
by_session setup seated Shown Told bytes written causes.TimedOut took is =
    absurd (never_late setup seated bytes is.ends)
by_session setup seated Shown Told bytes written causes.NoMemory took is = absurd took

pub took_it : (cause : SessionCause) → (cause ≡ causes.NoMemory → ⊥) → TookIt cause
took_it (causes.Refused status) other = tt
took_it (causes.Wire wire) other = tt
took_it causes.PeerError other = tt
took_it causes.TimedOut other = tt
took_it causes.NoMemory other = other refl

-- a fault that took its piece
pub fault_stands : (cause : SessionCause) (batch : Batched) (setup : Setup) (seated : Bool)
    (taken piece : List ℕ) (stage : Stage) → TookIt cause
    → FaultAnswersTalk cause batch setup seated taken piece stage
    → ContinuesTalk setup seated taken piece batch (Some cause) stage
fault_stands (causes.Refused status) batch setup seated taken piece stage took is = is
fault_stands (causes.Wire wire) batch setup seated taken piece stage took is = is
fault_stands causes.PeerError batch setup seated taken piece stage took is = is
fault_stands causes.TimedOut batch setup seated taken piece stage took is = is
fault_stands causes.NoMemory batch setup seated taken piece stage took is = absurd took

-- what a session at work is answered, where the answer is told of what the session keeps
pub stage_at : (config0 config : Config) (seat0 seated : Bool) (taken : List ℕ) (before : Stage)
    → config0 ≡ config → seat0 ≡ seated
    → before ≡ stage_of (setup_of config) seated taken
    → before ≡ stage_of (setup_of config0) seat0 taken
stage_at config0 config seat0 seated taken before same_config same is =
    is ∙ (ap (λ c. stage_of (setup_of c) seated taken) (sym same_config)
    ∙ ap (λ b. stage_of (setup_of config0) b taken) (sym same))

pub stands_at : (config0 config : Config) (seat0 seated : Bool) (taken piece : List ℕ)
    (before after : Stage) (batch : Batched) (end : Option SessionCause)
    → config0 ≡ config → seat0 ≡ seated → before ≡ stage_of (setup_of config) seated taken
    → ((bytes : List ℕ) → before ≡ stage_of (setup_of config0) seat0 bytes
    → ContinuesTalk (setup_of config0) seat0 bytes piece batch end after)
    → ContinuesTalk (setup_of config) seated taken piece batch end after
stands_at config0 config seat0 seated taken piece before after batch end same_config same is f =
    subst (λ c. ContinuesTalk (setup_of c) seated taken piece batch end after) same_config
    (subst (λ b. ContinuesTalk (setup_of config0) b taken piece batch end after) same
    (f taken (stage_at config0 config seat0 seated taken before same_config same is)))

pub fault_at : (config0 config : Config) (seat0 seated : Bool) (taken piece : List ℕ)
    (before after : Stage) (fault : SessionFault)
    → config0 ≡ config → seat0 ≡ seated → before ≡ stage_of (setup_of config) seated taken
    → ((bytes : List ℕ) → before ≡ stage_of (setup_of config0) seat0 bytes
    → FaultAnswersTalk fault.cause fault.batch (setup_of config0) seat0 bytes piece after)
    → FaultAnswersTalk fault.cause fault.batch (setup_of config) seated taken piece after
fault_at config0 config seat0 seated taken piece before after fault same_config same is f =
    subst (λ c. FaultAnswersTalk fault.cause fault.batch (setup_of c) seated taken piece after)
    same_config
    (subst (λ b. FaultAnswersTalk fault.cause fault.batch (setup_of config0) b taken piece after)
    same (f taken (stage_at config0 config seat0 seated taken before same_config same is)))

-- a fault leaves the seat
pub seat_kept : (cause : SessionCause) (batch : Batched) (old new : SessionState) (piece : List ℕ)
    (now : ℕ) (setup : Setup) (seated : Bool) (stage : Stage)
    → FaultAnswers cause batch old new piece now (piece_of setup seated stage piece)
    → new.seated ≡ old.seated
seat_kept (causes.Refused status) batch old new piece now setup seated stage is =
    ap (λ (s : SessionState). s.seated) is.2
seat_kept (causes.Wire wire) batch old new piece now setup seated stage is =
    ap (λ (s : SessionState). s.seated) is.2
seat_kept causes.PeerError batch old new piece now setup seated stage is =
    ap (λ (s : SessionState). s.seated) is.2
seat_kept causes.TimedOut batch old new piece now setup seated stage is =
    ap (λ (s : SessionState). s.seated) is.2
seat_kept causes.NoMemory batch old new piece now setup seated stage is =
    ap (λ (s : SessionState). s.seated) is.1

-- a session that works stops, since a read failed
pub stops_by_read : (hub : Beginning) (seated : Bool) (worker : Worker)
    (start now : Traffic)
    → Works hub seated worker start now
    → Stops hub seated worker start now Read
stops_by_read hub seated worker start now w =
    let setup : Setup = setup_of hub.config in record {
      bytes = taken_in w.turns;
      written = answers_in setup seated w.turns;
      carried = w.carried;
      ends = record {
        turns = w.turns;
        shown = w.work.shown;
        read = refl;
        ends = w.work.goes_on;
        told = w.work.told;
        answered = refl;
      };
    }

-- the same worker, after a read that gave nothing
pub works_same : (hub : Beginning) (seated : Bool) (worker : Worker)
    (start : Traffic) (given after taken : Option (List ℕ)) → Appends given after []
    → Works hub seated worker start (so_far given taken)
    → Works hub seated worker start (so_far after taken)
works_same hub seated worker start given after taken none w = record {
  turns = w.turns;
  work = w.work;
  carried = record {
    gave = subst (λ bytes. Appends start.given after bytes) (append-nil (taken_in w.turns))
        (wrote_more start.given given after (taken_in w.turns) [] w.carried.gave none);
    took = w.carried.took;
  };
}

-- out of memory, nothing of a piece is taken
pub stops_for_memory : (hub : Beginning) (seated : Bool) (old new : Worker)
    (start : Traffic) (given after taken : Option (List ℕ)) (piece : List ℕ)
    → Appends given after piece → new.poster ≡ old.poster
    → Works hub seated old start (so_far given taken)
    → Stops hub seated new start (so_far after taken) (Session causes.NoMemory)
stops_for_memory hub seated old new start given after taken piece gives poster w =
    let setup : Setup = setup_of hub.config in record {
      bytes = taken_in w.turns ++ piece;
      written = answers_in setup seated w.turns;
      carried = record {
        gave = wrote_more start.given given after (taken_in w.turns) piece w.carried.gave gives;
        took = w.carried.took;
      };
      ends = record {
        turns = w.turns;
        shown = shown_at hub seated old.poster new.poster w.turns (ap seat_at poster) w.work.shown;
        piece = piece;
        goes_on = w.work.goes_on;
        read = refl;
        told = subst (λ d. PosterTells hub d (facts_in setup seated w.turns) 0)
            (sym poster) w.work.told;
        answered = refl;
      };
    }

-- what was read and written once a piece was taken and its batch settled
carried_on : (hub : Beginning) (seated : Bool) (old : Worker) (start : Traffic)
    (given after taken more : Option (List ℕ)) (piece : List ℕ) (batch : Batched)
    → Appends given after piece
    → (w : Works hub seated old start (so_far given taken))
    → Grows (setup_of hub.config) (talk (setup_of hub.config) seated (taken_in w.turns))
    (talk (setup_of hub.config) seated (taken_in w.turns ++ piece)) batch
    → Appends taken more (batch.replies ++ batch.acks)
    → Advances start (so_far after more) (taken_in (Piece piece ∷ w.turns))
    (answers_in (setup_of hub.config) seated (Piece piece ∷ w.turns))
carried_on hub seated old start given after taken more piece batch gives w grows wrote =
    let setup : Setup = setup_of hub.config in
    let says : answer_at setup seated w.turns (Piece piece) ≡ batch.replies ++ batch.acks =
    says_beyond setup (talk setup seated (taken_in w.turns))
    (talk setup seated (taken_in w.turns ++ piece)) batch grows in record {
      gave = wrote_more start.given given after (taken_in w.turns) piece w.carried.gave gives;
      took = wrote_more start.taken taken more (answers_in setup seated w.turns)
          (answer_at setup seated w.turns (Piece piece)) w.carried.took
          (subst (λ bytes. Appends taken more bytes) (sym says) wrote);
    }

-- a session whose batch was settled, and whose talk goes on
pub settled : (hub : Beginning) (seated : Bool) (old new : Worker)
    (start : Traffic) (given after taken more : Option (List ℕ)) (piece : List ℕ) (batch : Batched)
    → Appends given after piece
    → (w : Works hub seated old start (so_far given taken))
    → ContinuesTalk (setup_of hub.config) seated (taken_in w.turns) piece batch None
    new.session.stage
    → new.session.seated ≡ seated → seat_at new.poster ≡ seat_at old.poster
    → new.pushing ≡ option_map (asked_pushing (asks_all batch.replies)) old.pushing
    → PosterTells hub new.poster (facts_in (setup_of hub.config) seated w.turns ++ batch.facts) 0
    → Appends taken more (batch.replies ++ batch.acks)
    → Works hub seated new start (so_far after more)
settled hub seated old new start given after taken more piece batch gives w stands same seat asks
    told wrote = record {
      turns = Piece piece ∷ w.turns;
      work = record {
        has_seat = same;
        stands = stands.stands;
        goes_on = stands.ends;
        told = subst (λ facts. PosterTells hub new.poster facts 0) (sym stands.grows.facts) told;
        shown = shown_at hub seated old.poster new.poster w.turns seat w.work.shown;
        tells = tells_piece hub seated w.turns piece batch old.pushing new.pushing stands.grows asks
            w.work.tells;
      };
      carried = carried_on hub seated old start given after taken more piece batch gives w
          stands.grows wrote;
    }

-- a session whose last batch was settled, and whose talk has ended
stops_settled : (hub : Beginning) (seated : Bool) (old new : Worker)
    (start : Traffic) (given after taken more : Option (List ℕ)) (piece : List ℕ) (batch : Batched)
    (cause : SessionCause) → TookIt cause → Appends given after piece
    → (w : Works hub seated old start (so_far given taken))
    → ContinuesTalk (setup_of hub.config) seated (taken_in w.turns) piece batch (Some cause)
    new.session.stage → seat_at new.poster ≡ seat_at old.poster
    → PosterTells hub new.poster (facts_in (setup_of hub.config) seated w.turns ++ batch.facts) 0
    → Appends taken more (batch.replies ++ batch.acks)
    → Stops hub seated new start (so_far after more) (Session cause)
stops_settled hub seated old new start given after taken more piece batch cause took gives w
    stands seat told wrote =
    let setup : Setup = setup_of hub.config in record {
      bytes = taken_in (Piece piece ∷ w.turns);
      written = answers_in setup seated (Piece piece ∷ w.turns);
      carried = carried_on hub seated old start given after taken more piece batch gives w
          stands.grows wrote;
      ends = by_session setup seated (AreTellings hub seated (seat_at new.poster))
          (PosterTells hub new.poster) (taken_in (Piece piece ∷ w.turns))
          (answers_in setup seated (Piece piece ∷ w.turns)) cause took (record {
            turns = Piece piece ∷ w.turns;
            shown = shown_at hub seated old.poster new.poster w.turns seat w.work.shown;
            read = refl;
            ends = stands.ends;
            told = subst (λ facts. PosterTells hub new.poster facts 0) (sym stands.grows.facts)
                told;
            answered = refl;
          });
    }

-- a session whose batch couldn't be settled
pub unsettled : (A : Type 0) (hub : Beginning) (seated : Bool) (old new : Worker)
    (start : Traffic) (given after taken more : Option (List ℕ)) (piece : List ℕ) (batch : Batched)
    (end : Option SessionCause) (fault : AnswerFault) → Appends given after piece
    → (w : Works hub seated old start (so_far given taken))
    → ContinuesTalk (setup_of hub.config) seated (taken_in w.turns) piece batch end
    new.session.stage → seat_at new.poster ≡ seat_at old.poster
    → SettlesTo {A = A} hub new.poster (facts_in (setup_of hub.config) seated w.turns) batch
    taken more (Err fault)
    → Stops hub seated new start (so_far after more) (cause_of_turn (turn_fault_of fault))
unsettled A hub seated old new start given after taken more piece batch end answers.Write gives
    w stands seat settles =
    let setup : Setup = setup_of hub.config in
    let says : answer_at setup seated w.turns (Piece piece) ≡ batch.replies ++ batch.acks =
    says_beyond setup (talk setup seated (taken_in w.turns))
    (talk setup seated (taken_in w.turns ++ piece)) batch stands.grows in record {
      bytes = taken_in w.turns ++ piece;
      written = answers_in setup seated w.turns ++ settles.1.front;
      carried = record {
        gave = wrote_more start.given given after (taken_in w.turns) piece w.carried.gave gives;
        took = wrote_more start.taken taken more (answers_in setup seated w.turns) settles.1.front
            w.carried.took settles.1.wrote;
      };
      ends = inl (record {
        turns = w.turns;
        shown = shown_at hub seated old.poster new.poster w.turns seat w.work.shown;
        last = Piece piece;
        front = settles.1.front;
        rest = settles.1.rest;
        goes_on = w.work.goes_on;
        read = refl;
        told = subst (λ facts. PosterTells hub new.poster facts 0) (sym stands.grows.facts)
            settles.0;
        answer = says ∙ settles.1.split;
        answered = refl;
      });
    }
unsettled A hub seated old new start given after taken more piece batch end
    (answers.Post fault) gives w stands seat (told, inl wrote) =
    let setup : Setup = setup_of hub.config in
    let count : length (talk setup seated (taken_in w.turns ++ piece)).facts - length
    (facts_in setup seated w.turns) ≡ length batch.facts =
    less_old (facts_in setup seated w.turns) batch.facts
    (talk setup seated (taken_in w.turns ++ piece)).facts stands.grows.facts in record {
      bytes = taken_in w.turns ++ piece;
      written = answers_in setup seated w.turns;
      carried = record {
        gave = wrote_more start.given given after (taken_in w.turns) piece w.carried.gave gives;
        took = subst (λ bytes. Appends start.taken more bytes)
            (append-nil (answers_in setup seated w.turns))
            (wrote_more start.taken taken more (answers_in setup seated w.turns) []
            w.carried.took wrote);
      };
      ends = inl (record {
        turns = w.turns;
        shown = shown_at hub seated old.poster new.poster w.turns seat w.work.shown;
        piece = piece;
        goes_on = w.work.goes_on;
        read = refl;
        told = subst (λ n. PosterTells hub new.poster (facts_in setup seated w.turns)
            (stored_of fault n)) (sym count) told;
        answered = refl;
      });
    }
unsettled A hub seated old new start given after taken more piece batch end
    (answers.Post fault) gives w stands seat (told, inr (is, cut)) =
    let setup : Setup = setup_of hub.config in
    let count : length (talk setup seated (taken_in w.turns ++ piece)).facts - length
    (facts_in setup seated w.turns) ≡ length batch.facts =
    less_old (facts_in setup seated w.turns) batch.facts
    (talk setup seated (taken_in w.turns ++ piece)).facts stands.grows.facts in record {
      bytes = taken_in w.turns ++ piece;
      written = answers_in setup seated w.turns ++ cut.front.front;
      carried = record {
        gave = wrote_more start.given given after (taken_in w.turns) piece w.carried.gave gives;
        took = wrote_more start.taken taken more (answers_in setup seated w.turns)
            cut.front.front w.carried.took cut.front.wrote;
      };
      ends = inr (
        is,
        record {
          turns = w.turns;
          shown = shown_at hub seated old.poster new.poster w.turns seat w.work.shown;
          piece = piece;
          front = cut.front.front;
          rest = cut.front.rest;
          goes_on = w.work.goes_on;
          read = refl;
          told = subst (λ n. PosterTells hub new.poster (facts_in setup seated w.turns) n) (sym count)
              (subst (λ f. PosterTells hub new.poster (facts_in setup seated w.turns)
              (stored_of f (length batch.facts))) is told);
          signal = cut.signal;
          cut = cut.front.split;
          answered = refl;
        },
      );
    }
unsettled A hub seated old new start given after taken more piece batch end answers.Signal gives
    w stands seat settles =
    let setup : Setup = setup_of hub.config in record {
      bytes = taken_in w.turns ++ piece;
      written = answers_in setup seated w.turns ++ settles.1.front.front;
      carried = record {
        gave = wrote_more start.given given after (taken_in w.turns) piece w.carried.gave gives;
        took = wrote_more start.taken taken more (answers_in setup seated w.turns)
            settles.1.front.front w.carried.took settles.1.front.wrote;
      };
      ends = inr (record {
        turns = w.turns;
        shown = shown_at hub seated old.poster new.poster w.turns seat w.work.shown;
        piece = piece;
        front = settles.1.front.front;
        rest = settles.1.front.rest;
        goes_on = w.work.goes_on;
        read = refl;
        told = subst (λ facts. PosterTells hub new.poster facts 0) (sym stands.grows.facts)
            settles.0;
        signal = settles.1.signal;
        cut = settles.1.front.split;
        answered = refl;
      });
    }

nothing_in : (whats : List What) → length whats ≤ 0 → whats ≡ []
nothing_in [] le = refl
nothing_in (what ∷ whats) le = absurd (omega arith)

-- no bytes tell nothing
pub no_facts : (setup : Setup) (seated : Bool) → [] ≡ (talk setup seated []).facts
no_facts setup seated = sym (nothing_in (talk setup seated []).facts (facts_few setup seated []))

pub works_at_start : (hub : Beginning) (seated : Bool) (worker : Worker)
    (start : Traffic)
    → IsAtWork hub seated worker [] → Works hub seated worker start start
works_at_start hub seated worker start work = record {
  turns = [];
  work = work;
  carried = record {
    gave = wrote_none start.given;
    took = wrote_none start.taken;
  };
}

pub stops_at_start : (hub : Beginning) (seated : Bool) (worker : Worker)
    (start : Traffic)
    → IsAtWork hub seated worker []
    → Stops hub seated worker start start (Session causes.NoMemory)
stops_at_start hub seated worker start work = record {
  bytes = [];
  written = [];
  carried = record {
    gave = wrote_none start.given;
    took = wrote_none start.taken;
  };
  ends = record {
    turns = [];
    shown = tt;
    piece = [];
    goes_on = work.goes_on;
    read = refl;
    told = work.told;
    answered = refl;
  };
}

answered_as : (setup : Setup) (seated : Bool) (S : List Turn → Type 0)
    (P Q : List What → ℕ → Type 0)
    (end : Option SessionCause) (bytes written : List ℕ)
    → ((whats : List What) (n : ℕ) → P whats n → Q whats n)
    → IsAnswered setup seated S P end bytes written → IsAnswered setup seated S Q end bytes written
answered_as setup seated S P Q end bytes written f is = record {
  turns = is.turns;
  shown = is.shown;
  read = is.read;
  ends = is.ends;
  told = f (facts_in setup seated is.turns) 0 is.told;
  answered = is.answered;
}

refused_as : (setup : Setup) (seated : Bool) (S : List Turn → Type 0) (P Q : List What → ℕ → Type 0)
    (bytes written : List ℕ)
    (stored : ℕ → ℕ) → ((whats : List What) (n : ℕ) → P whats n → Q whats n)
    → IsRefused setup seated S P bytes written stored
    → IsRefused setup seated S Q bytes written stored
refused_as setup seated S P Q bytes written stored f is = record {
  turns = is.turns;
  shown = is.shown;
  piece = is.piece;
  goes_on = is.goes_on;
  read = is.read;
  told = f (facts_in setup seated is.turns)
      (stored (length (talk setup seated bytes).facts - length (facts_in setup seated is.turns)))
      is.told;
  answered = is.answered;
}

by_session_as : (setup : Setup) (seated : Bool) (S : List Turn → Type 0)
    (P Q : List What → ℕ → Type 0)
    (bytes written : List ℕ) (cause : SessionCause)
    → ((whats : List What) (n : ℕ) → P whats n → Q whats n)
    → EndsBySession setup seated S P bytes written cause → EndsBySession setup seated S Q
    bytes written cause
by_session_as setup seated S P Q bytes written (causes.Refused status) f is =
    answered_as setup seated S P Q (Some (causes.Refused status)) bytes written f is
by_session_as setup seated S P Q bytes written (causes.Wire wire) f is =
    answered_as setup seated S P Q (Some (causes.Wire wire)) bytes written f is
by_session_as setup seated S P Q bytes written causes.PeerError f is =
    answered_as setup seated S P Q (Some causes.PeerError) bytes written f is
by_session_as setup seated S P Q bytes written causes.TimedOut f is =
    answered_as setup seated S P Q None bytes written f is
by_session_as setup seated S P Q bytes written causes.NoMemory f is =
    refused_as setup seated S P Q bytes written (λ count. 0) f is

ends_as : (setup : Setup) (seated : Bool) (S : List Turn → Type 0) (P Q : List What → ℕ → Type 0)
    (bytes written : List ℕ)
    (cause : Cause) → ((whats : List What) (n : ℕ) → P whats n → Q whats n)
    → EndsBy setup seated S P bytes written cause → EndsBy setup seated S Q bytes written cause
ends_as setup seated S P Q bytes written Read f is =
    answered_as setup seated S P Q None bytes written f is
ends_as setup seated S P Q bytes written Write f (inl is) = inl (record {
  turns = is.turns;
  shown = is.shown;
  last = is.last;
  front = is.front;
  rest = is.rest;
  goes_on = is.goes_on;
  read = is.read;
  told = f (facts_in setup seated (is.last ∷ is.turns)) 0 is.told;
  answer = is.answer;
  answered = is.answered;
})
ends_as setup seated S P Q bytes written Write f (inr is) = inr (record {
  turns = is.turns;
  shown = is.shown;
  piece = is.piece;
  front = is.front;
  rest = is.rest;
  goes_on = is.goes_on;
  read = is.read;
  told = f (facts_in setup seated (Piece is.piece ∷ is.turns)) 0 is.told;
  signal = is.signal;
  cut = is.cut;
  answered = is.answered;
})
ends_as setup seated S P Q bytes written (Session cause) f is =
    by_session_as setup seated S P Q bytes written cause f is
ends_as setup seated S P Q bytes written (Post fault) f (inl is) =
    inl (refused_as setup seated S P Q bytes written (stored_of fault) f is)
ends_as setup seated S P Q bytes written (Post fault) f (inr (never, is)) = inr (
  never,
  record {
    turns = is.turns;
    shown = is.shown;
    piece = is.piece;
    front = is.front;
    rest = is.rest;
    goes_on = is.goes_on;
    read = is.read;
    told = f (facts_in setup seated is.turns)
        (length (talk setup seated bytes).facts - length (facts_in setup seated is.turns)) is.told;
    signal = is.signal;
    cut = is.cut;
    answered = is.answered;
  },
)
ends_as setup seated S P Q bytes written Look f is = absurd is

-- what a session's receipts show once its pass was given back
pub served_whole : (hub : Beginning) (seated : Bool) (worker : Worker)
    (start now : Traffic) (seat : Option ℕ) (served : Served)
    → seated ≡ is_some seat → seat_at worker.poster ≡ seat
    → ((whats : List What) (n : ℕ) → PosterTells hub worker.poster whats n
    → SeatIsServed hub seat served whats n)
    → Works hub seated worker start now
    → IsServedWhole hub seat start now served
served_whole hub seated worker start now seat served same sits f w =
    let setup : Setup = setup_of hub.config in record {
      bytes = taken_in w.turns;
      written = answers_in setup seated w.turns;
      carried = w.carried;
      ends = subst (λ b. IsAnswered setup b (AreTellings hub b seat) (SeatIsServed hub seat served)
          None (taken_in w.turns) (answers_in setup seated w.turns)) same (record {
            turns = w.turns;
            shown = subst (λ s. AreTellings hub seated s w.turns) sits w.work.shown;
            read = refl;
            ends = w.work.goes_on;
            told = f (facts_in setup seated w.turns) 0 w.work.told;
            answered = refl;
          });
    }

pub served_until : (hub : Beginning) (seated : Bool) (worker : Worker)
    (start now : Traffic) (seat : Option ℕ) (faulted : Faulted)
    → seated ≡ is_some seat → seat_at worker.poster ≡ seat
    → ((whats : List What) (n : ℕ) → PosterTells hub worker.poster whats n
    → SeatIsServed hub seat faulted.served whats n)
    → Stops hub seated worker start now faulted.cause → IsServedUntil hub seat
    start now faulted
served_until hub seated worker start now seat faulted same sits f s =
    let setup : Setup = setup_of hub.config in record {
      bytes = s.bytes;
      written = s.written;
      carried = s.carried;
      ends = subst (λ b. EndsBy setup b (AreTellings hub b seat)
          (SeatIsServed hub seat faulted.served) s.bytes s.written faulted.cause) same
          (subst (λ o. EndsBy setup seated (AreTellings hub seated o)
          (SeatIsServed hub seat faulted.served) s.bytes s.written faulted.cause) sits
          (ends_as setup seated (AreTellings hub seated (seat_at worker.poster))
          (PosterTells hub worker.poster) (SeatIsServed hub seat faulted.served)
          s.bytes s.written faulted.cause f s.ends));
    }

-- a signal is sent
pub signalled : (hub : Beginning) (seated : Bool) (old new : Worker) (signal : Signal)
    (start : Traffic) (given taken more : Option (List ℕ))
    → new.session.seated ≡ old.session.seated → new.session.stage ≡ old.session.stage
    → new.poster ≡ old.poster → new.pushing ≡ old.pushing
    → Works hub seated old start (so_far given taken)
    → Appends taken more (text_of_signal signal)
    → Works hub seated new start (so_far given more)
signalled hub seated old new signal start given taken more same stage poster pushing w sends =
    let setup : Setup = setup_of hub.config in record {
      turns = Send signal ∷ w.turns;
      work = record {
        has_seat = same ∙ w.work.has_seat;
        stands = stage ∙ w.work.stands;
        goes_on = w.work.goes_on;
        told = subst (λ d. PosterTells hub d (facts_in setup seated w.turns) 0)
            (sym poster) w.work.told;
        shown = shown_at hub seated old.poster new.poster w.turns (ap seat_at poster) w.work.shown;
        tells = tells_signal hub seated w.turns signal old.pushing new.pushing pushing
            w.work.tells;
      };
      carried = record {
        gave = w.carried.gave;
        took = wrote_more start.taken taken more (answers_in setup seated w.turns)
            (text_of_signal signal) w.carried.took sends;
      };
    }

-- a signal couldn't be sent
pub unsignalled : (hub : Beginning) (seated : Bool) (old new : Worker)
    (start : Traffic) (given taken more : Option (List ℕ)) → new.poster ≡ old.poster
    → Works hub seated old start (so_far given taken) → WroteSignal taken more
    → Stops hub seated new start (so_far given more) Write
unsignalled hub seated old new start given taken more poster w sends =
    let setup : Setup = setup_of hub.config in record {
      bytes = taken_in w.turns;
      written = answers_in setup seated w.turns ++ sends.front.front;
      carried = record {
        gave = w.carried.gave;
        took = wrote_more start.taken taken more (answers_in setup seated w.turns)
            sends.front.front w.carried.took sends.front.wrote;
      };
      ends = inl (record {
        turns = w.turns;
        shown = shown_at hub seated old.poster new.poster w.turns (ap seat_at poster) w.work.shown;
        last = Send sends.signal;
        front = sends.front.front;
        rest = sends.front.rest;
        goes_on = w.work.goes_on;
        read = refl;
        told = subst (λ d. PosterTells hub d (facts_in setup seated w.turns) 0)
            (sym poster) w.work.told;
        answer = sends.front.split;
        answered = refl;
      });
    }

-- silence ends a session, whatever it keeps then
pub silenced : (hub : Beginning) (seated : Bool) (old new : Worker)
    (start now : Traffic) → new.poster ≡ old.poster
    → Works hub seated old start now
    → Stops hub seated new start now (Session causes.TimedOut)
silenced hub seated old new start now poster w =
    let setup : Setup = setup_of hub.config in record {
      bytes = taken_in w.turns;
      written = answers_in setup seated w.turns;
      carried = w.carried;
      ends = record {
        turns = w.turns;
        shown = shown_at hub seated old.poster new.poster w.turns (ap seat_at poster) w.work.shown;
        read = refl;
        ends = w.work.goes_on;
        told = subst (λ d. PosterTells hub d (facts_in setup seated w.turns) 0)
            (sym poster) w.work.told;
        answered = refl;
      };
    }

-- the same, where nothing was said to a worker that is otherwise as it was
pub works_still : (hub : Beginning) (seated : Bool) (old new : Worker)
    (start now : Traffic) → new.session.seated ≡ old.session.seated
    → new.session.stage ≡ old.session.stage → new.poster ≡ old.poster → new.pushing ≡ old.pushing
    → Works hub seated old start now
    → Works hub seated new start now
works_still hub seated old new start now same stage poster pushing w =
    let setup : Setup = setup_of hub.config in record {
      turns = w.turns;
      work = record {
        has_seat = same ∙ w.work.has_seat;
        stands = stage ∙ w.work.stands;
        goes_on = w.work.goes_on;
        told = subst (λ d. PosterTells hub d (facts_in setup seated w.turns) 0)
            (sym poster) w.work.told;
        shown = shown_at hub seated old.poster new.poster w.turns (ap seat_at poster) w.work.shown;
        tells = subst (TellsOn hub seated w.turns) (sym pushing) w.work.tells;
      };
      carried = w.carried;
    }

-- what becomes of a session's last batch: it ends for its cause, or at the batch
abbrev pub EndsSo : Beginning → Bool → Worker → Traffic → Traffic
    → Result SessionCause AnswerFault → Type 0
EndsSo hub seated worker start now (Ok cause) =
    Stops hub seated worker start now (Session cause)
EndsSo hub seated worker start now (Err fault) =
    Stops hub seated worker start now (cause_of_turn (turn_fault_of fault))

-- a session whose last batch was settled, for a cause other than out of memory
ends_then : (hub : Beginning) (seated : Bool) (old new : Worker)
    (start : Traffic) (given after taken more : Option (List ℕ)) (piece : List ℕ)
    (fault : SessionFault)
    (result : Result SessionCause AnswerFault) → TookIt fault.cause → Appends given after piece
    → (w : Works hub seated old start (so_far given taken))
    → ContinuesTalk (setup_of hub.config) seated (taken_in w.turns) piece fault.batch
    (Some fault.cause)
    new.session.stage → new.session.seated ≡ seated → seat_at new.poster ≡ seat_at old.poster
    → SettlesThen hub new.poster (facts_in (setup_of hub.config) seated w.turns) fault
    taken more result
    → EndsSo hub seated new start (so_far after more) result
ends_then hub seated old new start given after taken more piece fault (Ok cause) took
    gives w stands same seat ends =
    subst (λ cause. Stops hub seated new start (so_far after more) (Session cause)) (sym ends.is)
    (stops_settled hub seated old new start given after taken more piece fault.batch fault.cause
    took gives w stands seat ends.settles.0 ends.settles.1)
ends_then hub seated old new start given after taken more piece fault (Err answer) took
    gives w stands same seat ends =
    unsettled SessionCause hub seated old new start given after taken more piece
    fault.batch (Some fault.cause) answer gives w stands seat ends.settles

-- a session that ends with a fault
pub ended_by : (hub : Beginning) (seated : Bool) (old new : Worker)
    (start : Traffic) (given after taken more : Option (List ℕ)) (piece : List ℕ)
    (fault : SessionFault)
    (result : Result SessionCause AnswerFault) → Appends given after piece
    → (w : Works hub seated old start (so_far given taken)) → new.session.seated ≡ seated
    → seat_at new.poster ≡ seat_at old.poster
    → FaultAnswersTalk fault.cause fault.batch (setup_of hub.config) seated (taken_in w.turns) piece
    new.session.stage
    → EndsTo hub old.poster new.poster (facts_in (setup_of hub.config) seated w.turns) fault
    taken more result
    → EndsSo hub seated new start (so_far after more) result
ended_by hub seated old new start given after taken more piece fault result gives w same seat
    answers ends = by_cause fault.cause refl answers ends
  where
    then : TookIt fault.cause → SettlesThen hub new.poster
        (facts_in (setup_of hub.config) seated w.turns) fault taken more result
        → EndsSo hub seated new start (so_far after more) result
    then took settles =
        ends_then hub seated old new start given after taken more piece fault
        result took gives w
        (fault_stands fault.cause fault.batch (setup_of hub.config) seated (taken_in w.turns) piece
        new.session.stage took answers) same seat settles

    by_cause : (cause : SessionCause) → fault.cause ≡ cause → FaultAnswersTalk cause fault.batch
        (setup_of hub.config) seated (taken_in w.turns) piece new.session.stage
        → EndsFor cause hub old.poster new.poster (facts_in (setup_of hub.config) seated w.turns)
        fault
        taken more result → EndsSo hub seated new start (so_far after more) result
    by_cause (causes.Refused status) is a e = then (subst TookIt (sym is) tt) e
    by_cause (causes.Wire wire) is a e = then (subst TookIt (sym is) tt) e
    by_cause causes.PeerError is a e = then (subst TookIt (sym is) tt) e
    by_cause causes.TimedOut is a e = then (subst TookIt (sym is) tt) e
    by_cause causes.NoMemory is a e =
        subst (λ r. EndsSo hub seated new start (so_far after more) r) (sym e.is)
        (subst (λ wrote. Stops hub seated new start (so_far after wrote) (Session causes.NoMemory))
        (sym e.kept)
        (stops_for_memory hub seated old new start given after taken piece gives e.poster w))

-- a poster that tells is of the hub
poster_is_of : (hub : Beginning) (poster : Option Poster) (whats : List What) (n : ℕ)
    → PosterTells hub poster whats n → IsPosterOf hub poster
poster_is_of hub None whats n told = tt
poster_is_of hub (Some poster) whats n told = ap (λ (b : Beginning). b.of) told.seen.same

poster_of_session : (hub : Beginning) (seated : Bool) (S : List Turn → Type 0)
    (poster : Option Poster)
    (bytes written : List ℕ) (cause : SessionCause)
    → EndsBySession (setup_of hub.config) seated S (PosterTells hub poster) bytes written cause →
    IsPosterOf hub poster
poster_of_session hub seated S poster bytes written (causes.Refused status) ends =
    poster_is_of hub poster (facts_in (setup_of hub.config) seated ends.turns) 0 ends.told
poster_of_session hub seated S poster bytes written (causes.Wire wire) ends =
    poster_is_of hub poster (facts_in (setup_of hub.config) seated ends.turns) 0 ends.told
poster_of_session hub seated S poster bytes written causes.PeerError ends =
    poster_is_of hub poster (facts_in (setup_of hub.config) seated ends.turns) 0 ends.told
poster_of_session hub seated S poster bytes written causes.TimedOut ends =
    poster_is_of hub poster (facts_in (setup_of hub.config) seated ends.turns) 0 ends.told
poster_of_session hub seated S poster bytes written causes.NoMemory ends =
    poster_is_of hub poster (facts_in (setup_of hub.config) seated ends.turns) 0 ends.told

poster_of_stops : (hub : Beginning) (seated : Bool) (S : List Turn → Type 0)
    (poster : Option Poster)
    (bytes written : List ℕ) (cause : Cause)
    → EndsBy (setup_of hub.config) seated S (PosterTells hub poster) bytes written cause →
    IsPosterOf hub poster
poster_of_stops hub seated S poster bytes written Read ends =
    poster_is_of hub poster (facts_in (setup_of hub.config) seated ends.turns) 0 ends.told
poster_of_stops hub seated S poster bytes written Write (inl ends) =
    poster_is_of hub poster (facts_in (setup_of hub.config) seated (ends.last ∷ ends.turns)) 0
    ends.told
poster_of_stops hub seated S poster bytes written Write (inr ends) =
    poster_is_of hub poster (facts_in (setup_of hub.config) seated (Piece ends.piece ∷ ends.turns))
    0 ends.told
poster_of_stops hub seated S poster bytes written (Session cause) ends =
    poster_of_session hub seated S poster bytes written cause ends
poster_of_stops hub seated S poster bytes written (Post fault) (inr (is, ends)) =
    poster_is_of hub poster (facts_in (setup_of hub.config) seated ends.turns)
    (length (talk (setup_of hub.config) seated bytes).facts - length
    (facts_in (setup_of hub.config) seated ends.turns)) ends.told
poster_of_stops hub seated S poster bytes written (Post fault) (inl ends) =
    poster_is_of hub poster (facts_in (setup_of hub.config) seated ends.turns)
    (stored_of fault (length (talk (setup_of hub.config) seated bytes).facts - length
    (facts_in (setup_of hub.config) seated ends.turns))) ends.told
poster_of_stops hub seated S poster bytes written Look ends = absurd ends

-- a session that works on or has stopped has a poster of the hub, if it has one
pub poster_of_works : (hub : Beginning) (seated : Bool) (worker : Worker)
    (start now : Traffic) (result : Result (Unit {0}) Cause)
    → WorksOn hub seated worker start now result → IsPosterOf hub worker.poster
poster_of_works hub seated worker start now (Ok done) w =
    poster_is_of hub worker.poster (facts_in (setup_of hub.config) seated w.turns) 0 w.work.told
poster_of_works hub seated worker start now (Err cause) s =
    poster_of_stops hub seated (AreTellings hub seated (seat_at worker.poster)) worker.poster
    s.bytes s.written cause s.ends
