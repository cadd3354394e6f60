-- What a step of a script leaves and prints.
use Rattle.std.proofs.Common.{◌≡◌, ◌≢◌, ℕ, Bool, true, false, ◌&&◌, List, [], ◌∷◌, ◌++◌, codes}
use Rattle.std.proofs.Common.{Option, None, Some, Result, Ok, Err, sym, ap, subst}
use Rattle.std.proofs.Common.{append_assoc, append-nil}
use Rattle.std.proofs.Common.{◌∙◌, refl}
use Rattle.std.proofs.lemmas.Bool.{and_parts}
use Rattle.agg_types.specs.declared.config.Config.{Config}
use Rattle.session_core.specs.declared.cause.SessionCause.{SessionCause}
use Rattle.fleet_core.proofs.Running.{could, unspent}
use Rattle.fleet_core.specs.Answers.{Answers}
use Rattle.fleet_core.specs.Possible.{can_be, end_by, is_spent, sent_by, spends_at}
use Rattle.fleet_core.specs.Represents.{Collected}
use Rattle.fleet_core.specs.Steps.{conn_of}
use Rattle.fleet_core.specs.declared.step.FleetFault.{FleetFault}
use Rattle.fleet_core.specs.declared.step.FleetFault.TheVariants.{NoConn, Spent, NoMemory, Session}
use Rattle.fleet_core.specs.declared.step.Replies.{Replies}
use Rattle.fleet_core.specs.declared.step.Step.{Step}
use Rattle.fleet_core.specs.declared.step.Step.TheVariants.{Connect, Bytes, Lost, Clear, AddFilter}
use Rattle.fleet_core.specs.declared.step.Step.TheVariants.{DropFilter, Moment, Told}
use Rattle.replay.specs.Given.{Did, IsSettled, answer_ending, answer_text, done_text}
use Rattle.replay.specs.Given.{step_given}
use Rattle.replay.specs.Tellings.{shown_text}
use Rattle.replay.specs.Texts.{end_text, sent_text}
use Rattle.replay.specs.declared.ending.Ending.{Ending}
use Rattle.replay.specs.declared.ending.Ending.TheVariants.{Failed}

-- what is given in each of the three cases
given_done : (config : Config) (opening : ℕ) (past : List Step) (step : Step)
    → can_be config opening past step ≡ true → spends_at config opening past step ≡ false
    → step_given config opening past step ≡ record {
      past = step ∷ past;
      text =
          done_text step (sent_by config opening past step) (end_by config opening past step)
          ++ shown_text config opening (step ∷ past) step;
      ending = None;
    }
given_done config opening past step could unspent =
    rw (
      could,
      numbers (can_be config opening past step) (is_spent config opening past step)
          could unspent,
    ) refl
  where
    numbers : (a b : Bool) → a ≡ true → (a && b) ≡ false → b ≡ false
    numbers true b is none = none
    numbers false b is none = cc

given_closed : (config : Config) (opening : ℕ) (past : List Step) (step : Step)
    → can_be config opening past step ≡ false → step_given config opening past step
    ≡ record { past = past; text = codes "fault NoConn\n"; ending = None }
given_closed config opening past step closed = rw closed refl

given_spent : (config : Config) (opening : ℕ) (past : List Step) (step : Step)
    → spends_at config opening past step ≡ true → step_given config opening past step
    ≡ record { past = past; text = codes "fault Spent\n"; ending = Some Failed }
given_spent config opening past step spends = let both =
    and_parts (can_be config opening past step) (is_spent config opening past step) spends in
    rw (both.0, both.1) refl

-- only bytes end a session
session_text : (config : Config) (opening : ℕ) (past : List Step) (step : Step)
    (cause : SessionCause) (out : List ℕ) → end_by config opening past step ≡ Some cause → out
    ≡ (sent_by config opening past step).out
    → sent_text (conn_of step) out ++ end_text (conn_of step) cause ≡ done_text step
    (sent_by config opening past step) (end_by config opening past step)
unfolding end_by sent_by
session_text config opening past Connect cause out ended sent = cc
session_text config opening past (Bytes conn piece) cause out ended sent = rw (ended, sent) refl
session_text config opening past (Lost conn) cause out ended sent = cc
session_text config opening past (Clear table sel) cause out ended sent = cc
session_text config opening past (AddFilter filter) cause out ended sent = cc
session_text config opening past (DropFilter name) cause out ended sent = cc
session_text config opening past (Moment moment) cause out ended sent = cc
session_text config opening past (Told conn) cause out ended sent = cc

-- behind a step that isn't done nothing is shown, nor behind one that ends a session
closed_shows : (config : Config) (opening : ℕ) (past : List Step) (step : Step)
    → can_be config opening past step ≡ false → shown_text config opening past step ≡ []
unfolding can_be
closed_shows config opening past Connect closed = refl
closed_shows config opening past (Bytes conn piece) closed = refl
closed_shows config opening past (Lost conn) closed = refl
closed_shows config opening past (Clear table sel) closed = refl
closed_shows config opening past (AddFilter filter) closed = refl
closed_shows config opening past (DropFilter name) closed = refl
closed_shows config opening past (Moment moment) closed = refl
closed_shows config opening past (Told conn) closed = rw closed refl

spent_shows : (config : Config) (opening : ℕ) (past : List Step) (step : Step)
    → is_spent config opening past step ≡ true → shown_text config opening past step ≡ []
unfolding is_spent
spent_shows config opening past Connect spent = refl
spent_shows config opening past (Bytes conn piece) spent = refl
spent_shows config opening past (Lost conn) spent = refl
spent_shows config opening past (Clear table sel) spent = refl
spent_shows config opening past (AddFilter filter) spent = refl
spent_shows config opening past (DropFilter name) spent = refl
spent_shows config opening past (Moment moment) spent = refl
spent_shows config opening past (Told conn) spent = cc

ended_shows : (config : Config) (opening : ℕ) (past later : List Step) (step : Step)
    (cause : SessionCause) → end_by config opening past step ≡ Some cause
    → shown_text config opening later step ≡ []
unfolding end_by
ended_shows config opening past later Connect cause ended = cc
ended_shows config opening past later (Bytes conn piece) cause ended = refl
ended_shows config opening past later (Lost conn) cause ended = cc
ended_shows config opening past later (Clear table sel) cause ended = cc
ended_shows config opening past later (AddFilter filter) cause ended = cc
ended_shows config opening past later (DropFilter name) cause ended = cc
ended_shows config opening past later (Moment moment) cause ended = cc
ended_shows config opening past later (Told conn) cause ended = cc

-- what a step shows comes behind what it prints otherwise
behind : (before middle after given shown : List ℕ) → middle ≡ before ++ given
    → after ≡ middle ++ shown → after ≡ before ++ (given ++ shown)
behind before middle after given shown first second =
    second ∙ ap (λ (text : List ℕ). text ++ shown) first ∙ append_assoc before given shown

none_behind : (before middle after given shown : List ℕ) → middle ≡ before ++ given
    → after ≡ middle ++ shown → shown ≡ [] → after ≡ before ++ given
none_behind before middle after given shown first second none =
    second ∙ ap (λ (text : List ℕ). middle ++ text) none ∙ append-nil middle ∙ first

pub stepped : (answer : Result Replies FleetFault) (old new : Collected) (config : Config)
    (opening : ℕ) (past : List Step) (step : Step) (before middle after : List ℕ)
    (ending : Option Ending)
    → Answers answer old new config opening past step → answer ≢ Err NoMemory
    → IsSettled old config opening past → new.waiting ≡ []
    → middle ≡ before ++ answer_text step answer → ending ≡ answer_ending answer
    → ((then : List Step) → IsSettled new config opening then
    → after ≡ middle ++ shown_text config opening then step)
    → Did (step_given config opening past step) new config opening before after ending
stepped (Ok replies) old new config opening past step before middle after ending h kept settled
    none text ended shown =
    let is = given_done config opening past step (could _ old new config opening past step h
    (λ same. cc)) (unspent _ old new config opening past step h (λ same. cc)) in
    let now : IsSettled new config opening (step ∷ past) =
    record { stands = h.stands; waiting = none } in
    subst (λ given. Did given new config opening before after ending) (sym is)
    (record {
      settled = now;
      text = behind before middle after _ _
          (text ∙ ap (λ some. before ++ some) (rw (h.sent, h.ended) refl))
          (shown (step ∷ past) now);
      ended = ended;
    })
stepped (Err NoConn) old new config opening past step before middle after ending h kept settled
    none text ended shown =
    let now : IsSettled new config opening past = rw h.refused settled in
    subst (λ given. Did given new config opening before after ending)
    (sym (given_closed config opening past step (h.no_conn.0 refl)))
    (record {
      settled = now;
      text = none_behind before middle after _ _ text (shown past now)
          (closed_shows config opening past step (h.no_conn.0 refl));
      ended = ended;
    })
stepped (Err Spent) old new config opening past step before middle after ending h kept settled
    none text ended shown =
    let now : IsSettled new config opening past = rw h.refused settled in
    let both =
    and_parts (can_be config opening past step) (is_spent config opening past step)
    (h.spent.0 refl) in
    subst (λ given. Did given new config opening before after ending)
    (sym (given_spent config opening past step (h.spent.0 refl)))
    (record {
      settled = now;
      text = none_behind before middle after _ _ text (shown past now)
          (spent_shows config opening past step both.1);
      ended = ended;
    })
stepped (Err NoMemory) old new config opening past step before middle after ending h kept settled
    none text ended shown = absurd (kept refl)
stepped (Err (Session cause out)) old new config opening past step before middle after ending h
    kept settled none text ended shown =
    let is = given_done config opening past step (could _ old new config opening past step h
    (λ same. cc)) (unspent _ old new config opening past step h (λ same. cc)) in
    let now : IsSettled new config opening (step ∷ past) =
    record { stands = h.stands; waiting = none } in
    subst (λ given. Did given new config opening before after ending) (sym is)
    (record {
      settled = now;
      text = behind before middle after _ _
          (text ∙ ap (λ some. before ++ some) (session_text config opening past step cause out
          h.ended h.sent)) (shown (step ∷ past) now);
      ended = ended;
    })
