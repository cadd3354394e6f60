-- What a session writes while a batch waits for its list to be shown.
use Rattle.std.specs.Prelude.{◌≡◌, ◌⊎◌, ℕ, Bool, true, false, List, ◌++◌, length, Option, Result}
use Rattle.std.specs.Prelude.{Ok, Err}
use Rattle.agg_types.specs.declared.event.What.{What}
use Rattle.hub.specs.declared.faults.PostFault.{PostFault}
use Rattle.hub.specs.declared.faults.PostFault.TheVariants.{Pending}
use Rattle.hub.specs.History.{Beginning}
use Rattle.worker_frame.specs.declared.poster.Poster.{Poster}
use Rattle.peer_worker.specs.declared.faults.AnswerFault.{AnswerFault}
use Rattle.peer_worker.specs.declared.faults.AnswerFault.TheVariants.{Write, Post, Signal}
use Rattle.peer_worker.specs.declared.waiting.Awaited.{Awaited}
use Rattle.peer_worker.specs.declared.worker.Worker.{Worker}
use Rattle.worker_frame.specs.Told.{stored_of}
use Rattle.worker_frame.specs.Traffic.{Traffic, so_far}
use Rattle.peer_worker.specs.Turns.{PosterTells, WroteSignal}
use Rattle.peer_worker.specs.Working.{Works}

-- what was written leaves a session at work as it was: it is whole signals, or nothing
abbrev pub Signals : Option (List ℕ) → Option (List ℕ) → Type 0
Signals before after =
    (hub : Beginning) (seated : Bool) (worker : Worker) (start : Traffic)
    (given : Option (List ℕ)) → Works hub seated worker start (so_far given before)
    → Works hub seated worker start (so_far given after)

-- whole signals are written, and then something that goes on from there
pub record SignalsThen (before : Option (List ℕ)) (GoesOn : Option (List ℕ) → Type 0) : Type 0 where
  pub written : Option (List ℕ)
  pub signals : Signals before written
  pub goes_on : GoesOn written

-- whole signals were written, or some beginning of one
abbrev pub SignalsIf : Bool → Option (List ℕ) → Option (List ℕ) → Type 0
SignalsIf true before after = Signals before after
SignalsIf false before after = WroteSignal before after

-- where signals could be written, nothing more was; else some beginning of one
abbrev pub WroteIf : Bool → Option (List ℕ) → Option (List ℕ) → Type 0
WroteIf true written after = after ≡ written
WroteIf false written after = WroteSignal written after

-- how waiting for a ticket ends, behind what was written by then
abbrev pub AwaitsTo : Beginning → Option (List ℕ) → Result Awaited PostFault → Option (List ℕ)
    → Type 0
AwaitsTo ticket after (Ok awaited) written =
    (awaited.receipt ≡ ticket) × WroteIf awaited.is_heard written after
AwaitsTo ticket after (Err fault) written =
    (fault ≡ Pending) × ((after ≡ written) ⊎ WroteSignal written after)

-- a batch is told behind what was told before it, or refused; where a signal couldn't be
-- written, it was told all the same, unless it waits for ever
abbrev pub PostsTo : {A : Type 0} → Beginning → Option Poster → List What → List What
    → Option (List ℕ) → Result A AnswerFault → Option (List ℕ) → Type 0
PostsTo hub poster whats batch after (Ok done) written =
    PosterTells hub poster (whats ++ batch) 0 × (after ≡ written)
PostsTo hub poster whats batch after (Err Write) written = ⊥
PostsTo hub poster whats batch after (Err (Post fault)) written =
    PosterTells hub poster whats (stored_of fault (length batch))
    × ((after ≡ written) ⊎ ((fault ≡ Pending) × WroteSignal written after))
PostsTo hub poster whats batch after (Err Signal) written =
    PosterTells hub poster (whats ++ batch) 0 × WroteSignal written after
