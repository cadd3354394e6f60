-- What is told of a filter's sets on the way of a run.
use Rattle.std.proofs.Common.{◌≡◌, ◌-◌, ◌+◌, ◌<◌, ◌≤◌, ℕ, List, [], ◌∷◌, drop, length}
use Rattle.std.proofs.Common.{take, sym, ap, ◌∙◌, subst, arith, length-append, length-drop}
use Rattle.std.proofs.lemmas.List.{take-append-le, take_all}
use Rattle.agg_types.specs.declared.event.Event.{Event}
use Rattle.agg_types.specs.declared.event.What.{What}
use Rattle.agg_types.specs.declared.limits.TheConstants.{NUMBERS_END}
use Rattle.fleet_model.specs.Machine.{after, event_of}
use Rattle.fleet_model.specs.Sound.{IsSound}
use Rattle.fleet_model.specs.State.{State}
use Rattle.standing_filters.specs.Flips.{Flipped}
use Rattle.book.specs.Flips.{TellsAllIfKnown, TellsStepIfKnown, part_of}
use Rattle.book.specs.Runs.{IsPartApplied, left_at}
use Rattle.book_machine.specs.Turns.{IsUpdateOf, counted_to, with_update}
use Rattle.book.proofs.ToldAll.{if_known_then, tells_all_none, tells_one}
use Rattle.book.proofs.Updates.{length-numbered, part_more, part_none, part_on, update_after}

left_length : (seat first from : ℕ) (whats : List What)
    → length (left_at seat first whats from) ≡ length whats - from
left_length seat first from whats =
    length-numbered seat (first + from) (drop from whats) ∙ length-drop from whats

-- the events that have been applied are those up to the place
part_same : (seat first from to : ℕ) (whats : List What) (old new : State) → from ≤ to
    → to ≤ length whats → (part : IsPartApplied seat first whats from to old new)
    → part_of seat first whats from to ≡ part.part
part_same seat first from to whats old new onwards within part =
    let rest : List Event = left_at seat first whats to in
    let all : length (left_at seat first whats from) ≡ length part.part + length rest =
    ap length part.whole ∙ length-append part.part rest in
    let before : length (left_at seat first whats from) ≡ length whats - from =
    left_length seat first from whats in
    let behind : length rest ≡ length whats - to = left_length seat first to whats in
    let size : length part.part ≡ to - from = omega arith in
    ap (take (to - from)) part.whole
    ∙ take-append-le (to - from) part.part rest (omega arith)
    ∙ take_all (to - from) part.part (omega arith)

-- nothing has been applied yet
pub told_none : (seat first place : ℕ) (whats : List What) (s : State) (x : Flipped)
    → place ≤ length whats → TellsAllIfKnown s (part_of seat first whats place place) x x
unfolding part_none
told_none seat first place whats s x within = λ known.
    subst (λ (es : List Event). TellsAllIfKnown s es x x)
    (sym (part_same seat first place place whats s s (omega arith) within
    (part_none seat first place whats s s (λ i. s)))) (tells_all_none s x) known

-- one part and the next
pub told_on : (seat first from at to : ℕ) (whats : List What) (old state new : State)
    (x y z : Flipped) → from ≤ at → at ≤ to → to ≤ length whats
    → IsPartApplied seat first whats from at old state
    → IsPartApplied seat first whats at to state new
    → TellsAllIfKnown old (part_of seat first whats from at) x y
    → TellsAllIfKnown state (part_of seat first whats at to) y z
    → TellsAllIfKnown old (part_of seat first whats from to) x z
unfolding part_on
told_on seat first from at to whats old state new x y z onwards on within before then one other =
    let whole = part_on seat first from at to whats old state new before then in
    subst (λ (es : List Event). TellsAllIfKnown old es x z)
    (sym (part_same seat first from to whats old new (omega arith) within whole))
    (if_known_then old before.part then.part x y z
    (subst (λ (es : List Event). TellsAllIfKnown old es x y)
    (part_same seat first from at whats old state onwards (omega arith) before) one)
    (subst (λ (s : State). TellsAllIfKnown s then.part y z) before.applied
    (subst (λ (es : List Event). TellsAllIfKnown state es y z)
    (part_same seat first at to whats state new on within then) other)))

-- one event more
pub told_more : (seat first from to : ℕ) (whats : List What) (what : What) (old state new : State)
    (x y z : Flipped) → from ≤ to → to < length whats
    → IsPartApplied seat first whats from to old state
    → drop to whats ≡ what ∷ drop (to + 1) whats
    → new ≡ after state (event_of seat (first + to) what)
    → TellsAllIfKnown old (part_of seat first whats from to) x y
    → TellsAllIfKnown state (event_of seat (first + to) what ∷ []) y z
    → TellsAllIfKnown old (part_of seat first whats from (to + 1)) x z
unfolding part_more
told_more seat first from to whats what old state new x y z onwards there before is turned one
    other =
    let e : Event = event_of seat (first + to) what in
    let whole = part_more seat first from to whats what old state new before is turned in
    subst (λ (es : List Event). TellsAllIfKnown old es x z)
    (sym (part_same seat first from (to + 1) whats old new (omega arith) (omega arith) whole))
    (if_known_then old before.part (e ∷ []) x y z
    (subst (λ (es : List Event). TellsAllIfKnown old es x y)
    (part_same seat first from to whats old state onwards (omega arith) before) one)
    (subst (λ (s : State). TellsAllIfKnown s (e ∷ []) y z) before.applied other))

-- an update more of a state whose seat isn't counted up
pub told_update : (seat first from to peer : ℕ) (whats : List What) (what : What)
    (old state : State) (x y z : Flipped) → IsSound state → IsUpdateOf state.config peer what
    → first + to < NUMBERS_END → from ≤ to → to < length whats
    → IsPartApplied seat first whats from to old (counted_to state seat (first + to))
    → drop to whats ≡ what ∷ drop (to + 1) whats
    → TellsAllIfKnown old (part_of seat first whats from to) x y
    → TellsStepIfKnown state (with_update state seat what) y z
    → TellsAllIfKnown old (part_of seat first whats from (to + 1)) x z
told_update seat first from to peer whats what old state x y z sound update small onwards there
    before is one other =
    let later : State = counted_to (with_update state seat what) seat ((first + to) + 1) in
    let turned : later ≡ after (counted_to state seat (first + to))
    (event_of seat (first + to) what) =
    sym (update_after state seat (first + to) peer what sound update small) in
    told_more seat first from to whats what old (counted_to state seat (first + to)) later x y z
    onwards there before is turned one
    (tells_one (counted_to state seat (first + to)) later (event_of seat (first + to) what) y z
    turned (λ known.
    let step = other known in
    record { filters = step.filters; told = step.told }))
