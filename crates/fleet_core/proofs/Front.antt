-- What a clear, a filter that is added or dropped, or a moment leaves.
use Rattle.std.proofs.Common.{◌≡◌, ℕ, zero, suc, ◌+◌, false, true, ◌||◌, List, [], ◌∷◌, ◌++◌}
use Rattle.std.proofs.Common.{Option, None, Some, if◌then◌else◌, sym, ap, ◌∙◌, refl, add-zero}
use Rattle.std.proofs.Common.{arith}
use Rattle.std.specs.List.{list_any}
use Rattle.agg_types.specs.declared.config.Config.{Config}
use Rattle.agg_types.specs.declared.event.Event.{Event}
use Rattle.agg_types.specs.declared.event.What.{What}
use Rattle.fleet_model.specs.Seats.{numbered}
use Rattle.fleet_core.specs.declared.step.Step.{Step}
use Rattle.fleet_core.specs.declared.step.Step.TheVariants.{Connect, Bytes, Lost, Clear, AddFilter}
use Rattle.fleet_core.specs.declared.step.Step.TheVariants.{DropFilter, Moment, Told}
use Rattle.fleet_core.specs.Events.{added, at_front, count_of, events_of}
use Rattle.fleet_core.specs.Links.{link_of, linked}
use Rattle.fleet_core.specs.Possible.{is_possible}
use Rattle.fleet_core.specs.Represents.{Collected, Represents}
use Rattle.fleet_core.specs.Steps.{connects, is_connect, names, what_at}
use Rattle.fleet_core.proofs.Counts.{apart_from_lt, count-append, count-other, count-own}
use Rattle.fleet_core.proofs.Links.{link_kept, no_link}
use Rattle.fleet_core.proofs.HandingOver.{Queued, done}
use Rattle.fleet_core.proofs.Telling.{told_other}

some_events : (config : Config) (opening : ℕ) (past : List Step) (step : Step) (what : What)
    → what_at step ≡ Some what → events_of config opening (step ∷ past) ≡ events_of config opening
    past ++ at_front (events_of config opening past) what
unfolding events_of added
some_events config opening past Connect what is = cc
some_events config opening past (Bytes conn piece) what is = cc
some_events config opening past (Lost conn) what is = cc
some_events config opening past (Told conn) what is = cc
some_events config opening past (Clear table sel) what is =
    ap (λ o. events_of config opening past ++ (if_some o)) is
  where
    if_some : Option What → List Event
    if_some None = []
    if_some (Some what) = at_front (events_of config opening past) what
some_events config opening past (AddFilter filter) what is =
    ap (λ o. events_of config opening past ++ (if_some o)) is
  where
    if_some : Option What → List Event
    if_some None = []
    if_some (Some what) = at_front (events_of config opening past) what
some_events config opening past (DropFilter name) what is =
    ap (λ o. events_of config opening past ++ (if_some o)) is
  where
    if_some : Option What → List Event
    if_some None = []
    if_some (Some what) = at_front (events_of config opening past) what
some_events config opening past (Moment moment) what is =
    ap (λ o. events_of config opening past ++ (if_some o)) is
  where
    if_some : Option What → List Event
    if_some None = []
    if_some (Some what) = at_front (events_of config opening past) what

pub front_quiet : (step : Step) (what : What) → what_at step ≡ Some what → (is_connect step ≡ false)
    × ((conn : ℕ) → names conn step ≡ false)
front_quiet Connect what is = cc
front_quiet (Bytes conn piece) what is = cc
front_quiet (Lost conn) what is = cc
front_quiet (Told conn) what is = cc
front_quiet (Clear table sel) what is = (refl, λ conn. refl)
front_quiet (AddFilter filter) what is = (refl, λ conn. refl)
front_quiet (DropFilter name) what is = (refl, λ conn. refl)
front_quiet (Moment moment) what is = (refl, λ conn. refl)

pub front_done : (f g : Collected) (config : Config) (opening : ℕ) (past : List Step) (step : Step)
    (what : What) → what_at step ≡ Some what → Represents f config opening past → f.waiting ≡ []
    → g.book ≡ f.book → g.waiting ≡ numbered 0 f.next_seq (what ∷ []) → g.links ≡ f.links
    → g.connected ≡ f.connected → g.next_seq ≡ f.next_seq + 1
    → is_possible config opening past step ≡ true
    → Queued g config opening past step
front_done f g config opening past step what is h none book waiting links connected front possible =
    done f g config opening past step h none book
    (events ∙ ap (λ n. before ++ numbered 0 n (what ∷ [])) (sym h.next_seq)
    ∙ ap (λ some. before ++ some) (sym waiting))
    kept
    (connected ∙ h.connected ∙ sym came)
    (front ∙ ap (λ n. n + 1) h.next_seq
    ∙ sym (counted 0 ∙ ap (λ n. count_of 0 before + n)
    (count-own 0 (count_of 0 before) (what ∷ []))))
    (λ conn later. ap (λ b. b || list_any (names conn) past) (quiet.1 conn)
    ∙ h.strangers conn (rw came at later))
    possible
    (λ conn. rw (links, told_other config opening past step conn (quiet.1 conn)) (h.told conn))
  where
    before : List Event
    before = events_of config opening past

    quiet : (is_connect step ≡ false) × ((conn : ℕ) → names conn step ≡ false)
    quiet = front_quiet step what is

    came : connects (step ∷ past) ≡ connects past
    came = ap (λ b. if b then connects past + 1 else connects past) quiet.0

    events : events_of config opening (step ∷ past) ≡ before
        ++ numbered 0 (count_of 0 before) (what ∷ [])
    events = some_events config opening past step what is

    counted : (conn : ℕ) → count_of conn (events_of config opening (step ∷ past))
        ≡ count_of conn before + count_of conn (numbered 0 (count_of 0 before) (what ∷ []))
    counted conn = ap (count_of conn) events
        ∙ count-append conn before (numbered 0 (count_of 0 before) (what ∷ []))

    kept : (conn : ℕ) → linked g.links conn
        ≡ link_of config (events_of config opening (step ∷ past)) (step ∷ past) conn
    kept zero = ap (λ some. linked some 0) links ∙ h.links 0 ∙ no_link config before past
        ∙ sym (no_link config (events_of config opening (step ∷ past)) (step ∷ past))
    kept (suc conn) =
        ap (λ some. linked some (suc conn)) links ∙ h.links (suc conn)
        ∙ sym (link_kept config before (events_of config opening (step ∷ past)) past step (suc conn)
        quiet.0 (quiet.1 (suc conn))
        (counted (suc conn) ∙ ap (λ n. count_of (suc conn) before + n)
        (count-other 0 (suc conn) (count_of 0 before) (what ∷ [])
        (apart_from_lt 0 (suc conn) (omega arith))) ∙ add-zero (count_of (suc conn) before)))
