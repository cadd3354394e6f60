-- What a step answers, against the steps before it, newest first.
use Rattle.std.specs.Prelude.{◌≡◌, ⊤, ◌↔◌, ℕ, true, false, List, ◌∷◌, Option, None, Some, Result}
use Rattle.std.specs.Prelude.{Ok, Err}
use Rattle.agg_types.specs.declared.config.Config.{Config}
use Rattle.session_core.specs.declared.cause.SessionCause.{SessionCause}
use Rattle.fleet_core.specs.declared.step.FleetFault.{FleetFault}
use Rattle.fleet_core.specs.declared.step.FleetFault.TheVariants.{NoConn, Spent, NoMemory, Session}
use Rattle.fleet_core.specs.declared.step.Replies.{Replies}
use Rattle.fleet_core.specs.declared.step.Step.{Step}
use Rattle.fleet_core.specs.Events.{added_by}
use Rattle.fleet_core.specs.Possible.{can_be, end_by, sent_by, spends_at}
use Rattle.fleet_core.specs.Represents.{Collected, Represents}
use Rattle.fleet_core.specs.Waiting.{AreHandedOver, IsEndOf}

abbrev pub Answer : Type 0
Answer = Result Replies FleetFault

-- a step is done at Ok and at Session, and is then the newest
abbrev pub past_after : Answer → List Step → Step → List Step
past_after (Ok replies) past step = step ∷ past
past_after (Err NoConn) past step = past
past_after (Err Spent) past step = past
past_after (Err NoMemory) past step = past
past_after (Err (Session cause out)) past step = step ∷ past

-- a fact where the step is done
abbrev pub IfDone : Answer → Type 0 → Type 0
IfDone (Ok replies) Fact = Fact
IfDone (Err NoConn) Fact = ⊤
IfDone (Err Spent) Fact = ⊤
IfDone (Err NoMemory) Fact = ⊤
IfDone (Err (Session cause out)) Fact = Fact

-- a fact where the step is refused before anything is tried
abbrev pub IfRefused : Answer → Type 0 → Type 0
IfRefused (Ok replies) Fact = ⊤
IfRefused (Err NoConn) Fact = Fact
IfRefused (Err Spent) Fact = Fact
IfRefused (Err NoMemory) Fact = ⊤
IfRefused (Err (Session cause out)) Fact = ⊤

-- a fact where an allocation fails
abbrev pub IfNoMemory : Answer → Type 0 → Type 0
IfNoMemory (Ok replies) Fact = ⊤
IfNoMemory (Err NoConn) Fact = ⊤
IfNoMemory (Err Spent) Fact = ⊤
IfNoMemory (Err NoMemory) Fact = Fact
IfNoMemory (Err (Session cause out)) Fact = ⊤

-- a step that is done hands out what is to be sent
abbrev pub Sends : Answer → Replies → Type 0
Sends (Ok replies) due = replies ≡ due
Sends (Err NoConn) due = ⊤
Sends (Err Spent) due = ⊤
Sends (Err NoMemory) due = ⊤
Sends (Err (Session cause out)) due = out ≡ due.out

-- a step that is done is answered Session exactly where a stream ends by it, with the cause
abbrev pub EndsBy : Answer → Option SessionCause → Type 0
EndsBy (Ok replies) end = end ≡ None
EndsBy (Err NoConn) end = ⊤
EndsBy (Err Spent) end = ⊤
EndsBy (Err NoMemory) end = ⊤
EndsBy (Err (Session cause out)) end = end ≡ Some cause

-- all that a step answers and leaves
pub record Answers (answer : Answer) (old new : Collected) (config : Config) (opening : ℕ)
    (past : List Step) (step : Step) : Type 0 where
  pub stands : Represents new config opening (past_after answer past step)
  pub no_conn : (answer ≡ Err NoConn) ↔ (can_be config opening past step ≡ false)
  pub spent : (answer ≡ Err Spent) ↔ (spends_at config opening past step ≡ true)
  pub sent : Sends answer (sent_by config opening past step)
  pub ended : EndsBy answer (end_by config opening past step)
  pub own : IfDone answer (IsEndOf new.waiting (added_by config opening past step))
  pub refused : IfRefused answer (new ≡ old)
  pub handed : IfNoMemory answer (AreHandedOver old.waiting old.book new.waiting new.book)
