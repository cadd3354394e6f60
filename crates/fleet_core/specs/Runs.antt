-- What a run of steps leaves. Steps are given oldest first; those that were done are kept newest
-- first.
use Rattle.std.specs.Prelude.{◌≡◌, ⊤, ℕ, ◌≤◌, not, nat_lt, if◌then◌else◌, List, [], ◌∷◌, ◌++◌}
use Rattle.std.specs.Prelude.{slice_get, Option, None, Some, Result, Ok, Err}
use Rattle.std.specs.Option.{option_map, option_or}
use Rattle.agg_types.specs.Check.{all_faults}
use Rattle.agg_types.specs.declared.config.Config.{Config}
use Rattle.agg_types.specs.declared.limits.TheConstants.{LAST_MOMENT}
use Rattle.fleet_core.specs.declared.runs.Ran.{Ran}
use Rattle.fleet_core.specs.declared.runs.RunFault.{RunFault}
use Rattle.fleet_core.specs.declared.runs.RunFault.TheVariants as faults
use Rattle.fleet_core.specs.declared.step.FleetFault.{FleetFault}
use Rattle.fleet_core.specs.declared.step.FleetFault.TheVariants.{NoConn, Spent, NoMemory, Session}
use Rattle.fleet_core.specs.declared.step.Replies.{Replies}
use Rattle.fleet_core.specs.declared.step.Step.{Step}
use Rattle.fleet_core.specs.Possible.{can_be, does_fit, sent_by, spends_at}
use Rattle.fleet_core.specs.Represents.{Collected, Represents}
use Rattle.fleet_core.specs.Steps.{conn_of}

-- a step whose connection isn't open is passed over
abbrev pub then_done : Config → ℕ → List Step → Step → List Step
then_done config opening past step = if can_be config opening past step then step ∷ past else past

-- the steps that are done: those before, and of these in turn each whose connection is open
unfoldable pub done : Config → ℕ → List Step → List Step → List Step
done config opening past [] = past
done config opening past (step ∷ steps) =
    done config opening (then_done config opening past step) steps

-- what is sent by steps that were done, oldest first
unfoldable pub sent_in : Config → ℕ → List Step → List Replies
sent_in config opening [] = []
sent_in config opening (step ∷ past) =
    sent_in config opening past ++ sent_by config opening past step ∷ []

-- why a step ends a run: it doesn't fit, or else no numbers are left for it
abbrev pub fault_at : Config → ℕ → List Step → Step → Option RunFault
fault_at config opening past step =
    if not (does_fit config step) then Some faults.Unfit
    else (if spends_at config opening past step then Some faults.Spent else None)

-- why the first of these steps, in turn, that ends a run does so
unfoldable pub step_fault : Config → ℕ → List Step → List Step → Option RunFault
step_fault config opening past [] = None
step_fault config opening past (step ∷ steps) =
    option_or (fault_at config opening past step)
    (step_fault config opening (then_done config opening past step) steps)

-- an opening moment that is too late
abbrev pub late_fault : ℕ → Option RunFault
late_fault opening = if nat_lt LAST_MOMENT opening then Some faults.Unfit else None

-- why a run ends early, were there memory for all: the first fault of the configuration, then an
-- opening moment that is too late, then the first step that has a fault
abbrev pub run_fault : Config → ℕ → List Step → Option RunFault
run_fault config opening steps =
    option_or (option_map faults.Config (slice_get (all_faults config) 0))
    (option_or (late_fault opening) (step_fault config opening [] steps))

-- the run did all steps whose connection was open, nothing waits, and each sent what it should; no
-- fault stood in its way
pub record IsRan (ran : Ran) (config : Config) (opening : ℕ) (steps : List Step) : Type 0 where
  pub stands : Represents ran.fleet config opening (done config opening [] steps)
  pub waiting : ran.fleet.waiting ≡ []
  pub sent : ran.sent ≡ sent_in config opening (done config opening [] steps)
  pub no_fault : run_fault config opening steps ≡ None

-- the fault that a run ends by: the one that there is, or `NoMemory` behind the checks of the
-- opening
abbrev pub IsFault : RunFault → Config → ℕ → List Step → Type 0
IsFault (faults.Config fault) config opening steps =
    run_fault config opening steps ≡ Some (faults.Config fault)
IsFault faults.NoMemory config opening steps = (all_faults config ≡ []) × (opening ≤ LAST_MOMENT)
IsFault faults.Spent config opening steps = run_fault config opening steps ≡ Some faults.Spent
IsFault faults.Unfit config opening steps = run_fault config opening steps ≡ Some faults.Unfit

-- what a run makes of what a step answers: what is sent, or none where it is passed over, or why
-- the run ends
abbrev pub run_answer : Result Replies FleetFault → Step → Result (Option Replies) RunFault
run_answer (Ok replies) step = Ok (Some replies)
run_answer (Err NoConn) step = Ok None
run_answer (Err Spent) step = Err faults.Spent
run_answer (Err NoMemory) step = Err faults.NoMemory
run_answer (Err (Session cause out)) step = Ok (Some (record { conn = conn_of step; out = out }))

-- a step more of a run, which has no fault
pub record IsAdvanced (fleet : Collected) (replies : List Replies) (config : Config)
    (opening : ℕ) (past : List Step) (step : Step) : Type 0 where
  pub stands : Represents fleet config opening (then_done config opening past step)
  pub waiting : fleet.waiting ≡ []
  pub sent : replies ≡ sent_in config opening (then_done config opening past step)
  pub no_fault : fault_at config opening past step ≡ None

-- a step more, or the fault by which it ends the run
abbrev pub Goes : Result (Unit {0}) RunFault → Collected → List Replies → Config → ℕ → List Step
    → Step → Type 0
Goes (Ok done) fleet replies config opening past step =
    IsAdvanced fleet replies config opening past step
Goes (Err (faults.Config fault)) fleet replies config opening past step = ⊥
Goes (Err faults.NoMemory) fleet replies config opening past step = ⊤
Goes (Err faults.Spent) fleet replies config opening past step =
    fault_at config opening past step ≡ Some faults.Spent
Goes (Err faults.Unfit) fleet replies config opening past step =
    fault_at config opening past step ≡ Some faults.Unfit
