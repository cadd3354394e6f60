-- What a line that prints, and a command, leave.
use Rattle.std.proofs.Common.{◌≡◌, ◌≢◌, ℕ, List, ◌++◌, true, Option, None, Some, Result}
use Rattle.std.proofs.Common.{Ok, Err, IfOk, OnOk, codes, inl, inr, sym, ap, subst, ◌∙◌, refl}
use Rattle.std.proofs.Common.{append_assoc}
use Rattle.std.specs.Fmt.{decimal}
use Rattle.agg_types.specs.declared.config.Config.{Config}
use Rattle.agg_types.specs.declared.no_memory.NoMemory as Refusal
use Rattle.fleet_core.specs.Possible.{does_fit}
use Rattle.fleet_core.specs.Represents.{Collected}
use Rattle.fleet_core.specs.declared.step.Step.{Step}
use Rattle.fleet_model.specs.State.{State}
use Rattle.fleet_core.proofs.Opening.{all_taken}
use Rattle.show_clear.specs.Answer.{Answers}
use Rattle.show_clear.specs.Change.{ChangeFits}
use Rattle.show_clear.specs.Parse.{Read, Tells, command_of}
use Rattle.show_clear.specs.Refusal.{refusal_text}
use Rattle.show_clear.specs.declared.command.Command.{Command}
use Rattle.show_clear.specs.declared.command.Command.TheVariants.{Ask, Change as Changes}
use Rattle.show_clear.specs.declared.command.Question.{Question}
use Rattle.show_clear.specs.declared.command.Change.{Change}
use Rattle.show_clear.specs.declared.command.Change.TheVariants.{Clear, AddFilter, DropFilter}
use Rattle.show_clear.specs.declared.fault.CommandFault.{CommandFault}
use Rattle.show_clear.specs.declared.fault.CommandFault.TheVariants.{Empty, Unknown, NoTable}
use Rattle.show_clear.specs.declared.fault.CommandFault.TheVariants.{BadColumn, BadOperator}
use Rattle.show_clear.specs.declared.fault.CommandFault.TheVariants.{BadValue, BadKey, TooMany}
use Rattle.show_clear.specs.declared.fault.CommandFault.TheVariants.{NoMemory, BadName, Exists}
use Rattle.show_clear.specs.declared.fault.CommandFault.TheVariants.{Full}
use Rattle.replay.specs.Given.{Did, Given, IsSettled}
use Rattle.replay.specs.Runs.{AskGives, AskOrRefusal, CommandGives, LineDid, bad_line, change_given}
use Rattle.replay.specs.Runs.{ok_if, printing, state_after, step_of}
use Rattle.replay.specs.declared.ending.Ending.{Ending}
use Rattle.replay.specs.declared.ending.Ending.TheVariants.{BadScript}

-- a settled fleet's book answers what is recomputed
pub book_is : (fleet : Collected) (config : Config) (opening : ℕ) (past : List Step)
    → IsSettled fleet config opening past → fleet.book ≡ state_after config opening past
book_is fleet config opening past h = all_taken fleet config opening past h.stands h.waiting

-- a line that prints and leaves the fleet as it is
pub printed : (Gives : Given → Type 0) (fleet : Collected) (config : Config) (opening : ℕ)
    (past : List Step) (text before after : List ℕ) → Gives (printing past text)
    → IsSettled fleet config opening past → after ≡ before ++ text
    → LineDid Gives fleet config opening before after None
printed Gives fleet config opening past text before after gives settled is =
    record {
      given = printing past text;
      gives = gives;
      did =
          record { settled = settled; text = is; ended = refl };
    }

-- what was given of one thing is given of another
pub given_too : (r : Result (Option Ending) Refusal.NoMemory) (Gives Others : Given → Type 0)
    (fleet : Collected) (config : Config) (opening : ℕ) (before after : List ℕ)
    → ((given : Given) → Gives given → Others given)
    → IfOk r (LineDid Gives fleet config opening before after)
    → IfOk r (LineDid Others fleet config opening before after)
given_too (Ok ending) Gives Others fleet config opening before after too h =
    record { given = h.given; gives = too h.given h.gives; did = h.did }
given_too (Err e) Gives Others fleet config opening before after too h = h

pub just_given : (r : Result (Option Ending) Refusal.NoMemory) (Gives : Given → Type 0)
    (given : Given) (fleet : Collected) (config : Config) (opening : ℕ) (before after : List ℕ)
    → Gives given
    → IfOk r (Did given fleet config opening before after)
    → IfOk r (LineDid Gives fleet config opening before after)
just_given (Ok ending) Gives given fleet config opening before after gives h =
    record { given = given; gives = gives; did = h }
just_given (Err e) Gives given fleet config opening before after gives h = h

-- a command that was read
pub read_ok : (state : State) (config : Config) (opening : ℕ) (past : List Step) (line : List ℕ)
    (command : Command) (given : Given) → state ≡ state_after config opening past
    → command_of state line ≡ Ok command
    → CommandGives config opening past command given
    → AskOrRefusal config opening past (command_of (state_after config opening past) line) given
read_ok state config opening past line command given is read gives =
    inl (subst (λ (read : Read Command). AskGives config opening past read given)
    (sym (ap (λ s. command_of s line) (sym is) ∙ read)) gives)

-- one that was refused
pub refused_gives : (fault : CommandFault) (state : State) (config : Config) (opening : ℕ)
    (past : List Step) (line : List ℕ) → state ≡ state_after config opening past
    → Tells (command_of state line) (Err fault)
    → AskOrRefusal config opening past (command_of (state_after config opening past) line)
    (printing past (refusal_text fault))
refused_gives fault state config opening past line is read = by fault read
  where
    other : (fault : CommandFault) → fault ≢ NoMemory → Tells (command_of state line) (Err fault)
        → AskOrRefusal config opening past (command_of (state_after config opening past) line)
        (printing past (refusal_text fault))
    other fault apart read = inl (subst (λ (r : Read Command). AskGives config opening past r
        (printing past (refusal_text fault))) (sym (ap (λ s. command_of s line) (sym is)
        ∙ read apart)) refl)

    by : (fault : CommandFault) → Tells (command_of state line) (Err fault)
        → AskOrRefusal config opening past (command_of (state_after config opening past) line)
        (printing past (refusal_text fault))
    by NoMemory read = inr refl
    by Empty read = other Empty (λ same. cc) read
    by Unknown read = other Unknown (λ same. cc) read
    by NoTable read = other NoTable (λ same. cc) read
    by BadColumn read = other BadColumn (λ same. cc) read
    by BadOperator read = other BadOperator (λ same. cc) read
    by BadValue read = other BadValue (λ same. cc) read
    by BadKey read = other BadKey (λ same. cc) read
    by TooMany read = other TooMany (λ same. cc) read
    by BadName read = other BadName (λ same. cc) read
    by Exists read = other Exists (λ same. cc) read
    by Full read = other Full (λ same. cc) read

-- an answer that was appended
pub answered : (state : State) (fleet : Collected) (config : Config) (opening : ℕ)
    (past : List Step) (question : Question) (before after : List ℕ) → fleet.book ≡ state
    → IsSettled fleet config opening past → Answers state (Ask question) before after
    → LineDid (CommandGives config opening past (Ask question)) fleet config opening before after
    None
answered state fleet config opening past question before after book settled h =
    printed (CommandGives config opening past (Ask question)) fleet config opening past
    h.0 before after
    (h.0, rw (sym (book_is fleet config opening past settled), book) h.2, refl) settled h.1

-- a change, with its `ok`
pub with_ok : (given : Given) (fleet : Collected) (config : Config) (opening : ℕ)
    (before middle after : List ℕ) (ending : Option Ending)
    → Did given fleet config opening before middle ending → after ≡ middle ++ ok_if ending
    → Did (change_given given) fleet config opening before after ending
with_ok given fleet config opening before middle after ending h is =
    record {
      settled = h.settled;
      text = is ∙ ap (λ some. some ++ ok_if ending) h.text
          ∙ append_assoc before given.text (ok_if ending)
          ∙ ap (λ e. before ++ (given.text ++ ok_if e)) h.ended;
      ended = h.ended;
    }

-- a faulty line
pub bad_did : (r : Result (Option Ending) Refusal.NoMemory) (Gives : Given → Type 0)
    (fleet : Collected) (config : Config) (opening : ℕ) (past : List Step) (number : ℕ)
    (fault before after : List ℕ) → Gives (bad_line past number fault)
    → IsSettled fleet config opening past
    → OnOk r (after ≡ before ++ (codes "script line " ++ decimal number ++ fault))
    → IfOk r (λ ending. ending ≡ Some BadScript) → IfOk r (LineDid Gives fleet config opening before
    after)
bad_did (Ok ending) Gives fleet config opening past number fault before after gives
    settled text ended =
    record {
      given = bad_line past number fault;
      gives = gives;
      did =
          record { settled = settled; text = text; ended = ended };
    }
bad_did (Err e) Gives fleet config opening past number fault before after gives settled text ended =
    tt

-- the step of a change fits, where the change does
pub step_fits : (state : State) (change : Change) → ChangeFits state (Changes change)
    → does_fit state.config (step_of change) ≡ true
step_fits state (Clear table sel) fits = fits
step_fits state (AddFilter filter) fits = fits
step_fits state (DropFilter name) fits = fits
