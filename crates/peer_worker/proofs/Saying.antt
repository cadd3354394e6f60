-- How a session at work tells the pushed tables.
use Rattle.std.proofs.Common.{◌≡◌, ℕ, Bool, List, [], ◌∷◌, ◌++◌, Option, None, Some, Ok, Err, inl}
use Rattle.std.proofs.Common.{inr, refl, sym, ap, subst, ◌∙◌, append-nil, take}
use Rattle.std.specs.Prelude.{is_some, true}
use Rattle.std.specs.Io.KnownBytes.{Appends}
use Rattle.peers_msg.specs.declared.message.Message.{Message}
use Rattle.session_core.specs.Piece.{Setup, setup_of}
use Rattle.session_core.specs.Talk.{stage_of, talk}
use Rattle.session_core.specs.TalkAnswers.{OpensWith}
use Rattle.hub.specs.History.{Beginning}
use Rattle.peer_worker.proofs.Tellings.{equipped, is_telling, said_on, some_fact, telling_of}
use Rattle.peer_worker.proofs.Tellings.{turned, unturned}
use Rattle.worker_frame.proofs.Sent.{wrote_more}
use Rattle.peer_worker.specs.Knowing.{Pushing}
use Rattle.worker_frame.specs.declared.writing.WriteFailed.{WriteFailed}
use Rattle.worker_frame.specs.declared.served.Cause.TheVariants.{Write}
use Rattle.peer_worker.specs.declared.worker.Worker.{Worker}
use Rattle.peer_worker.specs.Tellings.{Equips, IsPushing, SaysOn, TellsOn, TurnsTo}
use Rattle.worker_frame.specs.Traffic.{Traffic, so_far}
use Rattle.peer_worker.specs.Turns.{Say, Tell, Telling, Turn, answer_at, answers_in, facts_in}
use Rattle.peer_worker.specs.Turns.{taken_in}
use Rattle.worker_frame.specs.Writing.{WroteFront}
use Rattle.peer_worker.specs.Working.{IsAtWork, Stops, Works}
use Rattle.telling.specs.Telling.{text_of}
use Rattle.telling.specs.Unsaid.{unsaid_messages}

-- the same worker, with what it keeps of the pushed tables
work_with : (hub : Beginning) (seated : Bool) (turns : List Turn) (old : Worker)
    (pushing : Option Pushing) → TellsOn hub seated turns pushing → IsAtWork hub seated old turns
    → IsAtWork hub seated (record old { pushing = pushing }) turns
work_with hub seated turns old pushing tells work = record {
  has_seat = work.has_seat;
  stands = work.stands;
  goes_on = work.goes_on;
  told = work.told;
  shown = work.shown;
  tells = tells;
}

-- a worker whose peer's hello was accepted, once a turn was made or none was
pub turn_with : (hub : Beginning) (seated : Bool) (start now : Traffic) (old : Worker)
    (before equips after : Pushing) → old.pushing ≡ Some before
    → Equips hub before equips → after.pushed ≡ equips.pushed
    → TurnsTo equips after old.poster
    → (w : Works hub seated old start now)
    → (facts_in (setup_of hub.config) seated w.turns ≡ [] → ⊥)
    → Works hub seated (record old { pushing = Some after }) start now
turn_with hub seated start now old before equips after is has tables (inl keeps) w greeted =
    record {
      turns = w.turns;
      work = work_with hub seated w.turns old (Some after)
          (unturned hub seated w.turns equips after tables keeps
          (equipped hub seated w.turns before equips has
          (subst (TellsOn hub seated w.turns) is w.work.tells))) w.work;
      carried = w.carried;
    }
turn_with hub seated start now old before equips after is has tables (inr turn) w greeted =
    let kept = equipped hub seated w.turns before equips has
    (subst (TellsOn hub seated w.turns) is w.work.tells) in
    let telling : Telling = telling_of equips after old.poster turn in record {
      turns = Tell telling ∷ w.turns;
      work = record {
        has_seat = w.work.has_seat;
        stands = w.work.stands;
        goes_on = w.work.goes_on;
        told = w.work.told;
        shown = (
          is_telling hub seated w.turns old.poster equips after turn w.work.shown w.work.told
              greeted kept,
          w.work.shown,
        );
        tells = turned hub seated w.turns old.poster equips after tables turn w.work.shown kept;
      };
      carried = record {
        gave = w.carried.gave;
        took = subst (Appends start.taken now.taken)
            (sym (append-nil (answers_in (setup_of hub.config) seated w.turns))) w.carried.took;
      };
    }

-- a worker whose session has a peer has a first fact
pub greeted_by : (hub : Beginning) (seated : Bool) (turns : List Turn) (worker : Worker)
    (peer : Option ℕ)
    → ((setup : Setup) (taken : List ℕ) → worker.session.stage
    ≡ stage_of setup worker.session.seated taken
    → OpensWith peer (talk setup worker.session.seated taken).facts)
    → is_some peer ≡ true → IsAtWork hub seated worker turns
    → facts_in (setup_of hub.config) seated turns ≡ [] → ⊥
greeted_by hub seated turns worker None opens some work = absurd (cc some)
greeted_by hub seated turns worker (Some peer) opens some work =
    let setup : Setup = setup_of hub.config in
    some_fact peer (facts_in setup seated turns)
    (subst (λ (b : Bool). OpensWith (Some peer) (talk setup b (taken_in turns)).facts)
    work.has_seat (opens setup (taken_in turns)
    (work.stands ∙ ap (λ (b : Bool). stage_of setup b (taken_in turns)) (sym work.has_seat))))

-- what is written of what is unsaid
text_at : (hub : Beginning) (seated : Bool) (turns : List Turn) (pushing : Pushing) (count : ℕ)
    → IsPushing hub seated turns pushing
    → text_of (take count (unsaid_messages pushing.pushed pushing.unsaid))
    ≡ answer_at (setup_of hub.config) seated turns (Say count)
text_at hub seated turns pushing count tells =
    ap (λ (ms : List Message). text_of (take count ms)) tells.unsaid

-- what was to be written was
pub said_whole : {A : Type 0} (hub : Beginning) (seated : Bool) (old : Worker) (start : Traffic)
    (given before after : Option (List ℕ)) (pushing later : Pushing) (done : A)
    → old.pushing ≡ Some pushing → SaysOn pushing later before after (Ok done)
    → Works hub seated old start (so_far given before)
    → Works hub seated (record old { pushing = Some later }) start (so_far given after)
said_whole hub seated old start given before after pushing later done is says w =
    let setup : Setup = setup_of hub.config in
    let count : ℕ = says.wrote.count in
    let tells : IsPushing hub seated w.turns pushing =
    subst (TellsOn hub seated w.turns) is w.work.tells in record {
      turns = Say count ∷ w.turns;
      work = record {
        has_seat = w.work.has_seat;
        stands = w.work.stands;
        goes_on = w.work.goes_on;
        told = w.work.told;
        shown = w.work.shown;
        tells = said_on hub seated w.turns pushing later count says.kept says.wrote.left tells;
      };
      carried = record {
        gave = w.carried.gave;
        took = wrote_more start.taken before after (answers_in setup seated w.turns)
            (answer_at setup seated w.turns (Say count)) w.carried.took
            (subst (Appends before after) (text_at hub seated w.turns pushing count tells)
            says.wrote.sent);
      };
    }

-- a beginning of it was
pub said_short : {A : Type 0} (hub : Beginning) (seated : Bool) (old : Worker) (start : Traffic)
    (given before after : Option (List ℕ)) (pushing later : Pushing) (failed : WriteFailed)
    → old.pushing ≡ Some pushing → SaysOn {A = A} pushing later before after (Err failed)
    → Works hub seated old start (so_far given before)
    → Stops hub seated (record old { pushing = Some later }) start (so_far given after) Write
said_short hub seated old start given before after pushing later failed is says w =
    let setup : Setup = setup_of hub.config in
    let count : ℕ = says.wrote.count in
    let sent : WroteFront before after
    (text_of (take count (unsaid_messages pushing.pushed pushing.unsaid))) = says.wrote.sent in
    record {
      bytes = taken_in w.turns;
      written = answers_in setup seated w.turns ++ sent.front;
      carried = record {
        gave = w.carried.gave;
        took = wrote_more start.taken before after (answers_in setup seated w.turns) sent.front
            w.carried.took sent.wrote;
      };
      ends = inl (record {
        turns = w.turns;
        last = Say count;
        shown = w.work.shown;
        front = sent.front;
        rest = sent.rest;
        goes_on = w.work.goes_on;
        read = refl;
        told = w.work.told;
        answer = sym (text_at hub seated w.turns pushing count
            (subst (TellsOn hub seated w.turns) is w.work.tells)) ∙ sent.split;
        answered = refl;
      });
    }

-- a connection whose source and writer tell nothing
abbrev pub untraced : Traffic
untraced = record { given = None; taken = None }

-- a worker that stands for some turns is at work, whatever was carried
pub works_untraced : (hub : Beginning) (seated : Bool) (worker : Worker) (turns : List Turn)
    (now : Traffic) → IsAtWork hub seated worker turns → Works hub seated worker untraced now
works_untraced hub seated worker turns now work = record {
  turns = turns;
  work = work;
  carried = record {
    gave = tt;
    took = tt;
  };
}
