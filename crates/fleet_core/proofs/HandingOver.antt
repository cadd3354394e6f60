-- What the book takes of the events that wait, and what a step that was done leaves.
use Rattle.std.proofs.Common.{length, length-append, length-drop, drop, arith, Bool, ◌+◌, ◌-◌, ◌≡◌}
use Rattle.std.proofs.Common.{ℕ, ◌<◌, false, true, List, [], ◌∷◌, ◌++◌, fold, append_assoc}
use Rattle.std.proofs.Common.{append-nil, sym, ap, ◌∙◌, refl, subst}
use Rattle.std.proofs.lemmas.List.Sums.{fold-append}
use Rattle.std.specs.List.{list_any}
use Rattle.agg_types.specs.declared.config.Config.{Config}
use Rattle.agg_types.specs.declared.event.Event.{Event}
use Rattle.agg_types.specs.declared.event.What.{What}
use Rattle.fleet_model.proofs.Runs.{step_by_step}
use Rattle.fleet_model.specs.Machine.{after, opened}
use Rattle.fleet_model.specs.Seats.{numbered}
use Rattle.fleet_model.specs.State.{State, state_of}
use Rattle.fleet_core.specs.declared.step.Step.{Step}
use Rattle.std.proofs.lemmas.List.{append_cancel_left}
use Rattle.fleet_core.specs.Adds.{Adds, Keeps}
use Rattle.fleet_core.specs.Events.{added_by, count_of, events_of}
use Rattle.fleet_core.specs.Possible.{are_possible, is_possible}
use Rattle.fleet_core.specs.Links.{link_of, linked}
use Rattle.fleet_core.specs.Represents.{Collected, Represents, WasTold}
use Rattle.fleet_core.specs.declared.connection.Connection.{Connection}
use Rattle.fleet_core.specs.Steps.{connects, names}
use Rattle.fleet_core.specs.Waiting.{AreHandedOver, IsOneHandedOver, leave_if}
use Rattle.book.proofs.Updates.{length-numbered}

-- more events after some
more : (config : Config) (opening : ℕ) (events later : List Event)
    → fold after (state_of config opening events) later ≡ state_of config opening (events ++ later)
more config opening events later =
    ap (λ state. fold after state later) (step_by_step config opening events)
    ∙ sym (fold-append after (opened config opening) events later)
    ∙ sym (step_by_step config opening (events ++ later))

-- the book takes some of what waits: the fleet stands for the same steps
pub settled : (f g : Collected) (config : Config) (opening : ℕ) (past : List Step)
    → AreHandedOver f.waiting f.book g.waiting g.book → g.links ≡ f.links
    → g.connected ≡ f.connected → g.next_seq ≡ f.next_seq → Represents f config opening past
    → Represents g config opening past
settled f g config opening past are links connected front h =
    record {
      handed = h.handed ++ are.gone;
      split = h.split ∙ ap (λ waiting. h.handed ++ waiting) are.split
          ∙ sym (append_assoc h.handed are.gone g.waiting);
      book = are.taken ∙ ap (λ book. fold after book are.gone) h.book
          ∙ more config opening h.handed are.gone;
      links = λ conn. ap (λ links. linked links conn) links ∙ h.links conn;
      told = λ conn. subst (λ (links : List (ℕ × Connection)). WasTold links config opening past
          conn)
          (sym links) (h.told conn);
      connected = connected ∙ h.connected;
      next_seq = front ∙ h.next_seq;
      strangers = h.strangers;
      possible = h.possible;
    }

-- one more step that could be done
all_possible : (config : Config) (opening : ℕ) (past : List Step) (step : Step)
    → is_possible config opening past step ≡ true → are_possible config opening past ≡ true
    → are_possible config opening (step ∷ past) ≡ true
unfolding are_possible
all_possible config opening past step possible all = rw (possible, all) refl

added_now : (config : Config) (opening : ℕ) (past : List Step) (step : Step) (waiting : List Event)
    → events_of config opening (step ∷ past) ≡ events_of config opening past ++ waiting
    → added_by config opening past step ≡ waiting
unfolding events_of
added_now config opening past step waiting is =
    append_cancel_left (events_of config opening past) _ _ is

-- nothing more, one more
pub none_taken : (waiting : List Event) (book : State) → AreHandedOver waiting book waiting book
none_taken waiting book = record { gone = []; split = refl; taken = refl }

pub one_more_taken : (waiting : List Event) (book : State) (left : List Event) (later : State)
    (least : List Event) (last : State) → AreHandedOver waiting book left later
    → IsOneHandedOver left later least last → AreHandedOver waiting book least last
one_more_taken waiting book [] later least last are one =
    record {
      gone = are.gone;
      split = are.split ∙ ap (λ left. are.gone ++ left) (sym one.0);
      taken = one.1 ∙ are.taken;
    }
one_more_taken waiting book (e ∷ rest) later least last are one =
    record {
      gone = are.gone ++ e ∷ [];
      split = are.split ∙ ap (λ left. are.gone ++ e ∷ left) (sym one.0)
          ∙ sym (append_assoc are.gone (e ∷ []) least);
      taken = one.1 ∙ ap (λ state. after state e) are.taken
          ∙ sym (fold-append after book are.gone (e ∷ []));
    }

-- a step was done where the book had taken all before it, and its own events wait
pub record Queued (new : Collected) (config : Config) (opening : ℕ) (past : List Step) (step : Step)
    : Type 0 where
  pub stands : Represents new config opening (step ∷ past)
  pub own : new.waiting ≡ added_by config opening past step

pub done : (f g : Collected) (config : Config) (opening : ℕ) (past : List Step) (step : Step)
    → Represents f config opening past → f.waiting ≡ []
    → g.book ≡ f.book → events_of config opening (step ∷ past) ≡ events_of config opening
    past ++ g.waiting
    → ((conn : ℕ) → linked g.links conn ≡ link_of config (events_of config opening (step ∷ past))
    (step ∷ past) conn)
    → g.connected ≡ connects (step ∷ past)
    → g.next_seq ≡ count_of 0 (events_of config opening (step ∷ past))
    → ((conn : ℕ) → connects (step ∷ past) < conn → list_any (names conn) (step ∷ past) ≡ false)
    → is_possible config opening past step ≡ true
    → ((conn : ℕ) → WasTold g.links config opening (step ∷ past) conn)
    → Queued g config opening past step
done f g config opening past step h none book events links connected front strangers possible told =
    record {
      stands = record {
        handed = h.handed;
        split = events ∙ ap (λ some. some ++ g.waiting) (h.split
            ∙ ap (λ waiting. h.handed ++ waiting) none ∙ append-nil h.handed);
        book = book ∙ h.book;
        links = links;
        connected = connected;
        next_seq = front;
        told = told;
        strangers = strangers;
        possible = all_possible config opening past step possible h.possible;
      };
      own = sym (added_now config opening past step g.waiting events);
    }

-- some of the events that a step queued are handed to the book
pub handed_on : (f g : Collected) (config : Config) (opening : ℕ) (past : List Step) (step : Step)
    → AreHandedOver f.waiting f.book g.waiting g.book → g.links ≡ f.links
    → g.connected ≡ f.connected → g.next_seq ≡ f.next_seq → Queued f config opening past step
    → Adds g config opening past step
handed_on f g config opening past step are links connected front queued =
    record {
      stands = settled f g config opening (step ∷ past) are links connected front queued.stands;
      own = record { first = are.gone; split = sym queued.own ∙ are.split };
    }

-- `NoMemory` before anything is queued
pub kept : (f g : Collected) (config : Config) (opening : ℕ) (past : List Step)
    → AreHandedOver f.waiting f.book g.waiting g.book → g.links ≡ f.links
    → g.connected ≡ f.connected → g.next_seq ≡ f.next_seq → Represents f config opening past
    → Keeps f g config opening past
kept f g config opening past are links connected front h =
    record { stands = settled f g config opening past are links connected front h; handed = are }

pub one_less : (waiting : List Event) (book : State) (left : List Event) (later : State)
    (counter end : ℕ) → IsOneHandedOver waiting book left later → length waiting + counter ≡ end
    → counter < end → length left + (counter + 1) ≡ end
one_less [] book left later counter end one all less = let no : ⊥ =
    omega (arith, all, less) in elim no [ ]
one_less (e ∷ rest) book left later counter end one all less =
    let same : length left ≡ length rest = ap length one.0 in omega (arith, all, same)

-- how many events wait
pub how_many : (seat seq taken : ℕ) (facts : List What) (leaves : Bool) (waiting : List Event)
    → numbered seat seq (drop taken facts ++ leave_if leaves) ≡ waiting
    → (length facts - taken) + length (leave_if leaves) ≡ length waiting
how_many seat seq taken facts leaves waiting is =
    ap (λ n. n + length (leave_if leaves)) (sym (length-drop taken facts))
    ∙ sym (length-append (drop taken facts) (leave_if leaves))
    ∙ sym (length-numbered seat seq (drop taken facts ++ leave_if leaves))
    ∙ ap length is
