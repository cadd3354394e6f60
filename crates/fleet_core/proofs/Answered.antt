-- What a step answers, from what is known behind it.
use Rattle.std.proofs.Common.{◌≡◌, ◌↔◌, ℕ, Bool, true, false, ◌&&◌, List, None, Some}
use Rattle.std.proofs.Common.{Ok, Err, sym, ap, ap₂, ◌∙◌, refl}
use Rattle.agg_types.specs.declared.config.Config.{Config}
use Rattle.session_core.specs.declared.cause.SessionCause.{SessionCause}
use Rattle.fleet_core.specs.declared.step.FleetFault.TheVariants.{NoConn, Spent, NoMemory, Session}
use Rattle.fleet_core.specs.declared.step.Replies.{Replies}
use Rattle.fleet_core.specs.declared.step.Step.{Step}
use Rattle.fleet_core.specs.Adds.{Adds, Keeps}
use Rattle.fleet_core.specs.Answers.{Answer, Answers}
use Rattle.fleet_core.specs.Possible.{can_be, end_by, is_spent, sent_by, spends_at}
use Rattle.fleet_core.specs.Represents.{Collected, Represents}

-- a step that names an open connection, and whether numbers are spent for it
pub record Finds (config : Config) (opening : ℕ) (past : List Step) (step : Step) (spent : Bool)
    : Type 0 where
  pub could_be : can_be config opening past step ≡ true
  pub numbers : is_spent config opening past step ≡ spent

other_than : (answer fault : Answer) (b tells : Bool) → b ≡ tells → (answer ≡ fault → ⊥)
    → (tells ≡ true → ⊥) → (answer ≡ fault) ↔ (b ≡ true)
other_than answer fault b tells is apart never =
    (λ same. absurd (apart same), λ yes. absurd (never (sym is ∙ yes)))

found_open : (answer : Answer) (b : Bool) → b ≡ true → (answer ≡ Err NoConn → ⊥)
    → (answer ≡ Err NoConn) ↔ (b ≡ false)
found_open answer b is apart =
    (λ same. absurd (apart same), λ no. absurd (let both = sym is ∙ no in cc))

no_spending : (a b : Bool) → a ≡ true → b ≡ false → (a && b) ≡ false
no_spending a b is none = rw (is, none) refl

unspent : (answer : Answer) (config : Config) (opening : ℕ) (past : List Step) (step : Step)
    → Finds config opening past step false → (answer ≡ Err Spent → ⊥)
    → (answer ≡ Err Spent) ↔ (spends_at config opening past step ≡ true)
unspent answer config opening past step finds apart =
    other_than answer (Err Spent) _ false (no_spending _ _ finds.could_be finds.numbers)
    apart (λ yes. cc)

pub same_replies : (a b : Replies) → a.conn ≡ b.conn → a.out ≡ b.out → a ≡ b
same_replies a b conn out = ap₂ make conn out
  where
    make : ℕ → List ℕ → Replies
    make conn out = record { conn = conn; out = out }

pub at_ok : (replies : Replies) (old new : Collected) (config : Config) (opening : ℕ)
    (past : List Step) (step : Step)
    → Finds config opening past step false → Adds new config opening past step
    → end_by config opening past step ≡ None
    → replies.conn ≡ (sent_by config opening past step).conn
    → replies.out ≡ (sent_by config opening past step).out
    → Answers (Ok replies) old new config opening past step
at_ok replies old new config opening past step finds adds ended conn out =
    record {
      stands = adds.stands;
      no_conn = found_open _ _ finds.could_be (λ same. cc);
      spent = unspent _ config opening past step finds (λ same. cc);
      sent = same_replies replies (sent_by config opening past step) conn out;
      ended = ended;
      own = adds.own;
      refused = tt;
      handed = tt;
    }

pub at_session : (cause : SessionCause) (out : List ℕ) (old new : Collected) (config : Config)
    (opening : ℕ) (past : List Step) (step : Step)
    → Finds config opening past step false → Adds new config opening past step
    → end_by config opening past step ≡ Some cause
    → out ≡ (sent_by config opening past step).out
    → Answers (Err (Session cause out)) old new config opening past step
at_session cause out old new config opening past step finds adds ended sent =
    record {
      stands = adds.stands;
      no_conn = found_open _ _ finds.could_be (λ same. cc);
      spent = unspent _ config opening past step finds (λ same. cc);
      sent = sent;
      ended = ended;
      own = adds.own;
      refused = tt;
      handed = tt;
    }

pub at_no_conn : (fleet : Collected) (config : Config) (opening : ℕ)
    (past : List Step) (step : Step)
    → Represents fleet config opening past → can_be config opening past step ≡ false
    → Answers (Err NoConn) fleet fleet config opening past step
at_no_conn fleet config opening past step h none =
    record {
      stands = h;
      no_conn = (λ same. none, λ no. refl);
      spent = other_than _ (Err Spent) _ false (ap (λ b. b && is_spent config opening past step)
          none) (λ same. cc) (λ yes. cc);
      sent = tt;
      ended = tt;
      own = tt;
      refused = refl;
      handed = tt;
    }

pub at_spent : (fleet : Collected) (config : Config) (opening : ℕ) (past : List Step) (step : Step)
    → Represents fleet config opening past → Finds config opening past step true
    → Answers (Err Spent) fleet fleet config opening past step
at_spent fleet config opening past step h finds =
    record {
      stands = h;
      no_conn = found_open _ _ finds.could_be (λ same. cc);
      spent = (λ same. rw (finds.could_be, finds.numbers) refl, λ yes. refl);
      sent = tt;
      ended = tt;
      own = tt;
      refused = refl;
      handed = tt;
    }

pub at_no_memory : (old new : Collected) (config : Config) (opening : ℕ)
    (past : List Step) (step : Step)
    → Finds config opening past step false → Keeps old new config opening past
    → Answers (Err NoMemory) old new config opening past step
at_no_memory old new config opening past step finds keeps =
    record {
      stands = keeps.stands;
      no_conn = found_open _ _ finds.could_be (λ same. cc);
      spent = unspent _ config opening past step finds (λ same. cc);
      sent = tt;
      ended = tt;
      own = tt;
      refused = tt;
      handed = keeps.handed;
    }
