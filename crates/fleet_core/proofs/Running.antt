-- What one more step of a run leaves.
use Rattle.std.proofs.Common.{suc, ◌+◌, ◌<◌, ◌≤◌, length, get_or, drop-cons, add-one, nat_lt}
use Rattle.std.proofs.Common.{◌≡◌, ℕ, true, false, List, [], ◌∷◌, ◌++◌, Option, None}
use Rattle.std.proofs.Common.{Some, Result, Ok, Err, drop, inl, inr, arith, sym, ap, ◌∙◌}
use Rattle.std.proofs.Common.{refl}
use Rattle.std.proofs.lemmas.Bool.{lt-ltb, ltb-true}
use Rattle.std.specs.Option.{option_or}
use Rattle.agg_types.specs.Check.{all_faults}
use Rattle.agg_types.specs.declared.config.Config.{Config}
use Rattle.agg_types.specs.declared.limits.TheConstants.{LAST_MOMENT}
use Rattle.session_core.specs.declared.cause.SessionCause.{SessionCause}
use Rattle.fleet_core.specs.declared.runs.RunFault.{RunFault}
use Rattle.fleet_core.specs.declared.runs.RunFault.TheVariants as faults
use Rattle.fleet_core.specs.declared.step.FleetFault.{FleetFault}
use Rattle.fleet_core.specs.declared.step.FleetFault.TheVariants.{NoConn, Spent, NoMemory, Session}
use Rattle.fleet_core.specs.declared.step.Replies.{Replies}
use Rattle.fleet_core.specs.declared.step.Step.{Step}
use Rattle.fleet_core.specs.declared.step.Step.TheVariants.{Connect, Bytes, Lost, Clear, AddFilter}
use Rattle.fleet_core.specs.declared.step.Step.TheVariants.{DropFilter, Moment, Told}
use Rattle.fleet_core.specs.Answers.{Answers}
use Rattle.fleet_core.specs.Possible.{can_be, does_fit, end_by, sent_by, spends_at}
use Rattle.fleet_core.specs.Runs.{Goes, IsAdvanced, IsFault, done, fault_at, late_fault, run_answer}
use Rattle.fleet_core.specs.Runs.{run_fault, sent_in, step_fault, then_done}
use Rattle.fleet_core.specs.Represents.{Collected, Represents}
use Rattle.fleet_core.specs.Steps.{conn_of}
use Rattle.fleet_core.proofs.Answered.{same_replies}
use Rattle.fleet_core.proofs.Counts.{bool_tells}

session_conn : (config : Config) (opening : ℕ) (past : List Step) (step : Step)
    (cause : SessionCause) → end_by config opening past step ≡ Some cause → conn_of step
    ≡ (sent_by config opening past step).conn
unfolding end_by sent_by
session_conn config opening past Connect cause is = cc
session_conn config opening past (Bytes conn piece) cause is = refl
session_conn config opening past (Lost conn) cause is = cc
session_conn config opening past (Clear table sel) cause is = cc
session_conn config opening past (AddFilter filter) cause is = cc
session_conn config opening past (DropFilter name) cause is = cc
session_conn config opening past (Moment moment) cause is = cc
session_conn config opening past (Told conn) cause is = cc

-- what is known behind the answer of a step
pub record Sent (replies : Replies) (new : Collected) (config : Config) (opening : ℕ)
    (past : List Step) (step : Step) : Type 0 where
  pub could_be : can_be config opening past step ≡ true
  pub unspent : spends_at config opening past step ≡ false
  pub stands : Represents new config opening (step ∷ past)
  pub is : replies ≡ sent_by config opening past step

abbrev pub Tells : Result (Option Replies) RunFault → Collected → Collected → Config → ℕ → List Step
    → Step → Type 0
Tells (Ok None) old new config opening past step = (can_be config opening past step ≡ false)
    × (new ≡ old)
Tells (Ok (Some replies)) old new config opening past step =
    Sent replies new config opening past step
Tells (Err (faults.Config fault)) old new config opening past step = ⊥
Tells (Err faults.NoMemory) old new config opening past step = Unit {0}
Tells (Err faults.Spent) old new config opening past step =
    spends_at config opening past step ≡ true
Tells (Err faults.Unfit) old new config opening past step = ⊥

-- what isn't answered isn't so
pub could : (answer : Result Replies FleetFault) (old new : Collected) (config : Config)
    (opening : ℕ) (past : List Step) (step : Step) → Answers answer old new config opening past step
    → (answer ≡ Err NoConn → ⊥) → can_be config opening past step ≡ true
could answer old new config opening past step h apart =
    elim (bool_tells (can_be config opening past step)) [
      | inl is ↦ is
      | inr is ↦
          absurd (apart (h.no_conn.1 is))
    ]

pub unspent : (answer : Result Replies FleetFault) (old new : Collected) (config : Config)
    (opening : ℕ) (past : List Step) (step : Step) → Answers answer old new config opening past step
    → (answer ≡ Err Spent → ⊥) → spends_at config opening past step ≡ false
unspent answer old new config opening past step h apart =
    elim (bool_tells (spends_at config opening past step)) [
      | inl is ↦ absurd (apart (h.spent.1 is))
      | inr is ↦ is
    ]

pub tells : (answer : Result Replies FleetFault) (old new : Collected) (config : Config)
    (opening : ℕ) (past : List Step) (step : Step) → Answers answer old new config opening past step
    → Tells (run_answer answer step) old new config opening past step
tells (Ok replies) old new config opening past step h =
    record {
      could_be = could _ old new config opening past step h (λ same. cc);
      unspent =
          unspent _ old new config opening past step h (λ same. cc);
      stands = h.stands;
      is = h.sent;
    }
tells (Err NoConn) old new config opening past step h = (h.no_conn.0 refl, h.refused)
tells (Err Spent) old new config opening past step h = h.spent.0 refl
tells (Err NoMemory) old new config opening past step h = tt
tells (Err (Session cause out)) old new config opening past step h =
    record {
      could_be = could _ old new config opening past step h (λ same. cc);
      unspent = unspent _ old new config opening past step h (λ same. cc);
      stands = h.stands;
      is = same_replies (record { conn = conn_of step; out = out })
          (sent_by config opening past step) (session_conn config opening past step cause h.ended)
          h.sent;
    }

no_fault : (config : Config) (opening : ℕ) (past : List Step) (step : Step)
    → does_fit config step ≡ true → spends_at config opening past step ≡ false
    → fault_at config opening past step ≡ None
no_fault config opening past step fits unspent = rw (fits, unspent) refl

never_spends : (config : Config) (opening : ℕ) (past : List Step) (step : Step)
    → can_be config opening past step ≡ false → spends_at config opening past step ≡ false
never_spends config opening past step closed = rw closed refl

-- a step that was passed over
pub passed_over : (old new : Collected) (replies : List Replies) (config : Config) (opening : ℕ)
    (past : List Step) (step : Step) → Represents old config opening past → old.waiting ≡ []
    → replies ≡ sent_in config opening past → does_fit config step ≡ true
    → Tells (Ok None) old new config opening past step
    → IsAdvanced new replies config opening past step
passed_over old new replies config opening past step h none sent fits passed =
    record {
      stands = rw (passed.1, passed.0) h;
      waiting = ap (λ fleet. fleet.waiting) passed.1 ∙ none;
      sent = rw passed.0 sent;
      no_fault = no_fault config opening past step fits
          (never_spends config opening past step passed.0);
    }

-- a step that was done
pub went_on : (old new : Collected) (replies all : List Replies) (one : Replies) (config : Config)
    (opening : ℕ) (past : List Step) (step : Step) → replies ≡ sent_in config opening past
    → does_fit config step ≡ true
    → Tells (Ok (Some one)) old new config opening past step → new.waiting ≡ []
    → all ≡ replies ++ one ∷ [] → IsAdvanced new all config opening past step
unfolding sent_in
went_on old new replies all one config opening past step sent fits was none is =
    record {
      stands = rw was.could_be was.stands;
      waiting = none;
      sent = rw was.could_be (is ∙ rw (sent, was.is) refl);
      no_fault = no_fault config opening past step fits was.unspent;
    }

pub ends_by : (fault : RunFault) (old new : Collected) (replies : List Replies) (config : Config)
    (opening : ℕ) (past : List Step) (step : Step) → does_fit config step ≡ true
    → Tells (Err fault) old new config opening past step
    → Goes (Err fault) new replies config opening past step
ends_by (faults.Config fault) old new replies config opening past step fits h = h
ends_by faults.NoMemory old new replies config opening past step fits h = h
ends_by faults.Spent old new replies config opening past step fits h = rw (fits, h) refl
ends_by faults.Unfit old new replies config opening past step fits h = elim h [ ]

pub unfit_ends : (config : Config) (opening : ℕ) (past : List Step) (step : Step)
    → does_fit config step ≡ false → fault_at config opening past step ≡ Some faults.Unfit
unfit_ends config opening past step unfit = rw unfit refl

-- ---- the steps that are left

-- how a step more changes what the steps that are left decide
pub left_then : (config : Config) (opening : ℕ) (past left steps : List Step) (step : Step)
    → done config opening past (step ∷ left) ≡ done config opening [] steps
    → done config opening (then_done config opening past step) left ≡ done config opening [] steps
unfolding done
left_then config opening past left steps step h = h

pub no_fault_then : (config : Config) (opening : ℕ) (past left steps : List Step) (step : Step)
    → fault_at config opening past step ≡ None → step_fault config opening past (step ∷ left)
    ≡ step_fault config opening [] steps
    → step_fault config opening (then_done config opening past step) left
    ≡ step_fault config opening [] steps
unfolding step_fault
no_fault_then config opening past left steps step none h =
    sym (ap (λ o. option_or o (step_fault config opening (then_done config opening past step) left))
    none) ∙ h

early : (opening : ℕ) → opening ≤ LAST_MOMENT → late_fault opening ≡ None
early opening le = rw (not_lt LAST_MOMENT opening le) refl
  where
    not_lt : (a b : ℕ) → b ≤ a → nat_lt a b ≡ false
    not_lt a b le = elim (bool_tells (nat_lt a b)) [
      | inl e ↦
          (let lt = ltb-true a b e in let no : ⊥ = omega (arith, lt, le) in elim no [ ])
      | inr e ↦ e
    ]

-- behind the checks of the opening the first fault of a step decides
pub behind_opening : (config : Config) (opening : ℕ) (steps : List Step) → all_faults config ≡ []
    → opening ≤ LAST_MOMENT → run_fault config opening steps ≡ step_fault config opening [] steps
behind_opening config opening steps sound le = rw (sound, early opening le) refl

pub opened_late : (config : Config) (opening : ℕ) (steps : List Step) → all_faults config ≡ []
    → LAST_MOMENT < opening → run_fault config opening steps ≡ Some faults.Unfit
opened_late config opening steps sound lt = rw (sound, lt-ltb LAST_MOMENT opening lt) refl

-- the step that is at hand ends the run
fault_first : (fault : RunFault) (config : Config) (opening : ℕ) (past left steps : List Step)
    (step : Step) → fault_at config opening past step ≡ Some fault
    → step_fault config opening past (step ∷ left) ≡ step_fault config opening [] steps
    → step_fault config opening [] steps ≡ Some fault
unfolding step_fault
fault_first fault config opening past left steps step is so_far = sym so_far
    ∙ ap (λ o. option_or o (step_fault config opening (then_done config opening past step) left)) is

pub fault_is : (fault : RunFault) (fleet : Collected) (replies : List Replies) (config : Config)
    (opening : ℕ) (past left steps : List Step) (step : Step) → all_faults config ≡ []
    → opening ≤ LAST_MOMENT
    → step_fault config opening past (step ∷ left) ≡ step_fault config opening [] steps
    → Goes (Err fault) fleet replies config opening past step → IsFault fault config opening steps
fault_is (faults.Config fault) fleet replies config opening past left steps step sound le so_far h =
    elim h [ ]
fault_is faults.NoMemory fleet replies config opening past left steps step sound le so_far h =
    (sound, le)
fault_is faults.Spent fleet replies config opening past left steps step sound le so_far h =
    behind_opening config opening steps sound le ∙ fault_first faults.Spent config opening past left
    steps step h so_far
fault_is faults.Unfit fleet replies config opening past left steps step sound le so_far h =
    behind_opening config opening steps sound le ∙ fault_first faults.Unfit config opening past left
    steps step h so_far

-- no step is left
pub all_done : (config : Config) (opening : ℕ) (past : List Step)
    → done config opening past [] ≡ past
unfolding done
all_done config opening past = refl

pub none_left : (config : Config) (opening : ℕ) (past : List Step)
    → step_fault config opening past [] ≡ None
unfolding step_fault
none_left config opening past = refl

pub none_sent : (config : Config) (opening : ℕ) → sent_in config opening [] ≡ []
unfolding sent_in
none_sent config opening = refl

pub next_left : (steps : List Step) (i : ℕ) (step : Step) → i < length steps
    → step ≡ get_or steps i step → drop i steps ≡ step ∷ drop (i + 1) steps
next_left steps i step lt is =
    drop-cons steps i step lt
    ∙ ap (λ first. first ∷ drop (suc i) steps) (sym is)
    ∙ ap (λ n. step ∷ drop n steps) (sym (add-one i))
