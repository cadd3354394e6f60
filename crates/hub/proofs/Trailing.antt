-- The trail of a copy: the events that it took, and the book that they leave.
use Rattle.std.proofs.Common.{◌≡◌, ℕ, ◌+◌, ◌-◌, ◌≤◌, List, [], ◌∷◌, ◌++◌, fold, length, drop, take}
use Rattle.std.proofs.Common.{refl, sym, ap, ◌∙◌, arith, length-append, length-drop}
use Rattle.std.proofs.lemmas.List.Sums.{fold-append}
use Rattle.agg_types.specs.declared.config.Config.{Config}
use Rattle.agg_types.specs.declared.event.Event.{Event}
use Rattle.book.proofs.Updates.{length-numbered}
use Rattle.book.specs.Runs.{IsPartApplied}
use Rattle.fleet_model.proofs.Order.{no_events}
use Rattle.fleet_model.proofs.Runs.{step_by_step}
use Rattle.fleet_model.specs.Machine.{after, opened}
use Rattle.fleet_model.specs.State.{IsStateOf, State, state_of}
use Rattle.hub.specs.Batches.{Batched, IsApplied, left_of, part_of}
use Rattle.hub.specs.Trailed.{StandsAt, Trailed, further}

-- ---- a part of a batch

take_whole : {A : Type 0} (xs ys : List A) → take (length xs) (xs ++ ys) ≡ xs
take_whole [] ys = refl
take_whole (x ∷ xs) ys = ap (λ zs. x ∷ zs) (take_whole xs ys)

take_first : {A : Type 0} (xs ys : List A) (n : ℕ) → n ≡ length xs → take n (xs ++ ys) ≡ xs
take_first xs ys n is = ap (λ k. take k (xs ++ ys)) is ∙ take_whole xs ys

length-left : (batch : Batched) (place : ℕ) → length (left_of batch place) ≡ length batch.whats
    - place
length-left batch place =
    length-numbered batch.seat (batch.first + place) (drop place batch.whats)
    ∙ length-drop place batch.whats

-- what was applied is what stands between the two places
pub applied_part : (batch : Batched) (from to : ℕ) (old new : State) → from ≤ to
    → to ≤ length batch.whats
    → IsPartApplied batch.seat batch.first batch.whats from to old new
    → IsApplied batch from to old new
applied_part batch from to old new onwards within is =
    let both : length is.part + length (left_of batch to) ≡ length (left_of batch from) =
    sym (ap length is.whole ∙ length-append is.part (left_of batch to)) in
    let long : to - from ≡ length is.part =
    omega (arith, both, length-left batch from, length-left batch to) in
    let same : part_of batch from to ≡ is.part = ap (take (to - from)) is.whole
    ∙ take_first is.part (left_of batch to) (to - from) long in
    record {
      onwards = onwards;
      split = is.whole ∙ ap (λ es. es ++ left_of batch to) (sym same);
      applied = is.applied ∙ ap (fold after old) (sym same);
    }

-- ---- the book that a trail leaves

-- recomputing from events and more of them
pub state_and_more : (config : Config) (opening : ℕ) (events more : List Event)
    → state_of config opening (events ++ more) ≡ fold after (state_of config opening events) more
state_and_more config opening events more =
    step_by_step config opening (events ++ more)
    ∙ (fold-append after (opened config opening) events more
    ∙ ap (λ s. fold after s more) (sym (step_by_step config opening events)))

-- a book that took more events stands at the longer trail
pub stands_on : (book new : State) (trail : Trailed) (more : List Event) → StandsAt book trail
    → new ≡ fold after book more → StandsAt new (further trail more)
unfolding IsStateOf
stands_on book new trail more is took =
    took ∙ (ap (λ s. fold after s more) is
    ∙ sym (state_and_more trail.config trail.opening trail.events more))

-- a book that was just opened stands at its trail
pub stands_opened : (book : State) (config : Config) (opening : ℕ) → book ≡ opened config opening
    → StandsAt book (record { config = book.config; opening = book.moment; events = [] })
unfolding IsStateOf opened
stands_opened book config opening is =
    let config_is : book.config ≡ config = ap (λ (s : State). s.config) is in
    let moment_is : book.moment ≡ opening = ap (λ (s : State). s.moment) is in
    is ∙ sym (ap (λ (c : Config). state_of c book.moment []) config_is
    ∙ (ap (λ m. state_of config m []) moment_is ∙ no_events config opening))

-- how many events stand between two places
pub length-part : (batch : Batched) (from to : ℕ) (old new : State)
    → IsApplied batch from to old new → to ≤ length batch.whats
    → length (part_of batch from to) ≡ to - from
length-part batch from to old new is within =
    let both : length (part_of batch from to) + length (left_of batch to)
    ≡ length (left_of batch from) =
    sym (ap length is.split ∙ length-append (part_of batch from to) (left_of batch to)) in
    let onwards : from ≤ to = is.onwards in
    omega (arith, both, onwards, within, length-left batch from, length-left batch to)

-- what is noted of a part is noted of the same batch
pub noted_as : (trail later : Trailed) (noted batch : Batched) (from to : ℕ) → noted ≡ batch
    → later ≡ further trail (part_of noted from to)
    → later ≡ further trail (part_of batch from to)
noted_as trail later noted batch from to same notes =
    notes ∙ ap (λ (b : Batched). further trail (part_of b from to)) same
