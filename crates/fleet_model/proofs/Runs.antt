-- Laws over whole lists of events, from what one more event does.
use Rattle.std.proofs.Common.{◌≡◌, ℕ, List, [], ◌∷◌, ◌++◌, sym, ap, ◌∙◌, subst, append_assoc, false}
use Rattle.std.proofs.Common.{cond, length, ◌<◌}
use Rattle.std.proofs.lemmas.List.{append-nil}
use Rattle.std.specs.List.{fold}
use Rattle.agg_types.specs.declared.config.Config.{Config}
use Rattle.agg_types.specs.declared.event.Event.{Event}
use Rattle.fleet_model.proofs.Order.{no_events}
use Rattle.fleet_model.proofs.Seats.{found-seats}
use Rattle.fleet_model.proofs.Sessions.{found-session}
use Rattle.fleet_model.proofs.Step.{one_more}
use Rattle.fleet_model.specs.History.{judged}
use Rattle.fleet_model.specs.Machine.{after, counts_now, happened, number_of, opened, session_of}
use Rattle.fleet_model.specs.Rows.{counted_of}
use Rattle.fleet_model.specs.Seats.{number}
use Rattle.fleet_model.specs.Sessions.{session}
use Rattle.fleet_model.specs.State.{State, state_of}

more : (config : Config) (opening : ℕ) (events later : List Event)
    → state_of config opening (events ++ later) ≡ fold after (state_of config opening events) later
more config opening events [] = ap (state_of config opening) (append-nil events)
more config opening events (e ∷ later) =
    ap (state_of config opening) (sym (append_assoc events (e ∷ []) later))
    ∙ more config opening (events ++ e ∷ []) later
    ∙ ap (λ state. fold after state later) (one_more config opening events e)

-- a list of events leaves what the machine leaves that takes them one by one
pub step_by_step : (config : Config) (opening : ℕ) (events : List Event)
    → state_of config opening events ≡ fold after (opened config opening) events
step_by_step config opening events = more config opening [] events
    ∙ ap (λ state. fold after state events) (no_events config opening)

uncounted_after : (s : State) (e : Event) → counts_now s e ≡ false → after s e ≡ s
unfolding after
uncounted_after s e does = ap (λ b. cond b (happened s e e.what) s) does

-- an event that doesn't count changes nothing
pub uncounted : (config : Config) (opening : ℕ) (events : List Event) (e : Event)
    → counts_now (state_of config opening events) e ≡ false
    → state_of config opening (events ++ e ∷ []) ≡ state_of config opening events
uncounted config opening events e does = one_more config opening events e
    ∙ uncounted_after (state_of config opening events) e does

-- what is found of a seat, and of a peer
pub numbers : (config : Config) (opening : ℕ) (events : List Event) (seat : ℕ)
    → number_of (state_of config opening events) seat
    ≡ number (counted_of (judged config opening events)) seat
unfolding state_of
numbers config opening events seat = found-seats seat (counted_of (judged config opening events))

pub sessions : (config : Config) (opening : ℕ) (events : List Event) (peer : ℕ)
    → peer < length config.peers → session_of (state_of config opening events) peer
    ≡ session (counted_of (judged config opening events)) peer
unfolding state_of
sessions config opening events peer =
    found-session config (counted_of (judged config opening events)) peer

from : (config : Config) (opening : ℕ) (P : State → Type 0)
    → ((events : List Event) (e : Event) → P (state_of config opening events)
    → P (after (state_of config opening events) e)) → (events later : List Event)
    → P (state_of config opening events) → P (state_of config opening (events ++ later))
from config opening P step events [] h =
    subst (λ es. P (state_of config opening es)) (sym (append-nil events)) h
from config opening P step events (e ∷ later) h =
    subst (λ es. P (state_of config opening es)) (append_assoc events (e ∷ []) later)
    (from config opening P step (events ++ e ∷ []) later
    (subst P (sym (one_more config opening events e)) (step events e h)))

-- what holds of the opened fleet, and stays through each event, holds of each state
pub along : (config : Config) (opening : ℕ) (P : State → Type 0) → P (opened config opening)
    → ((events : List Event) (e : Event) → P (state_of config opening events)
    → P (after (state_of config opening events) e)) → (events : List Event)
    → P (state_of config opening events)
along config opening P start step events =
    from config opening P step [] events (subst P (sym (no_events config opening)) start)
