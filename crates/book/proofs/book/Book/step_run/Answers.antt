use Rattle.std.proofs.Common.{refl, rules, arith, subst, sym, ◌∙◌, ◌≡◌, ◌<◌, length, ℕ, List}
use Rattle.agg_types.specs.Whats.{as_what}
use Rattle.agg_types.specs.declared.event.What.{What}
use Rattle.fleet_model.specs.State.{State}
use Rattle.standing_filters.specs.Flips.{Flipped}
use Rattle.book.specs.Flips.{TellsAllIfKnown, part_of}
use Rattle.book.specs.Runs.{IsPartApplied}
use Rattle.book.proofs.ToldRuns.{told_more, told_none, told_on}
use Rattle.book.proofs.Updates.{part_more, part_none, part_on}
use Rattle.book.proofs.book.Book.step_run.Goals as goal
use Rattle.book.proofs.book.Book.step_run.Goals.{else-places-test, then-places-test+then-came}
use Rattle.book.proofs.book.Book.step_run.Goals.{then-places-test+else-came+else-done-len+in_default}

pub places-init : goal.places-init
places-init c = record {
  onwards = omega arith;
  within = c.requires.from_in;
  applied = part_none c.args.seat c.args.first c.args.from c.args.posted.now c.args.self.now
      c.args.self.now refl;
  flips = told_none c.args.seat c.args.first c.args.from c.args.posted.now c.args.self.now
      c.args.flips.now c.requires.from_in;
}

pub places-preserved : goal.places-preserved
places-preserved c =
    let came = c.take_updates-came in
    let seat : ℕ = c.args.seat in
    let first : ℕ = c.args.first in
    let place : ℕ = c.take_updates-came.result.place in
    let whats : List What = c.args.posted.now in
    let there : c.take_updates-came.result.place < length c.args.posted.now = omega arith in
    record {
      onwards = search rules;
      within = omega arith;
      applied = part_more seat first c.args.from place whats (as_what c.at.result)
          c.args.self.now came.new.self c.apply_telling.new.self
          (part_on seat first c.args.from c.places.done place whats c.args.self.now c.places.self
          came.new.self c.places.invariant.applied came.ensures.applied)
          c.at.ensures.left
          c.in-Ok.ensures.ok;
      flips = told_more seat first c.args.from place whats (as_what c.at.result) c.args.self.now
          came.new.self c.apply_telling.new.self c.args.flips.now came.new.flips
          c.apply_telling.new.flips (omega arith) there
          (part_on seat first c.args.from c.places.done place whats c.args.self.now c.places.self
          came.new.self c.places.invariant.applied came.ensures.applied)
          c.at.ensures.left
          c.in-Ok.ensures.ok
          (told_on seat first c.args.from c.places.done place whats c.args.self.now c.places.self
          came.new.self c.args.flips.now c.places.flips came.new.flips
          c.places.invariant.onwards came.ensures.onwards came.ensures.within
          c.places.invariant.applied came.ensures.applied c.places.invariant.flips
          came.ensures.flips) c.in-Ok.ensures.flips;
    }

-- a part at the place and the state that a path came to
come_to : (seat first from to done : ℕ) (whats : List What) (old state new : State)
    → IsPartApplied seat first whats from to old state → done ≡ to → new ≡ state
    → IsPartApplied seat first whats from done old new
come_to seat first from to done whats old state new part place same =
    subst (λ (n : ℕ). IsPartApplied seat first whats from n old new) (sym place)
    (subst (λ (s : State). IsPartApplied seat first whats from to old s) (sym same) part)

pub returns-clause-applied : goal.returns-clause-applied
returns-clause-applied c =
    let seat : ℕ = c.args.seat in
    let first : ℕ = c.args.first in
    let whats : List What = c.args.posted.now in
    let old : State = c.args.self.now in
    elim c.places-test.branch [
      | else-places-test w ↦
          come_to seat first c.args.from c.places.done c.places-test.done whats old c.places.self
          c.places-test.self c.places.invariant.applied w.done-is w.self-is
      | then-places-test+then-came w ↦
          come_to seat first c.args.from w.take_updates-came.result.place c.places-test.done whats
          old w.take_updates-came.new.self c.places-test.self
          (part_on seat first c.args.from c.places.done w.take_updates-came.result.place whats old
          c.places.self w.take_updates-came.new.self c.places.invariant.applied
          w.take_updates-came.ensures.applied) w.done-is w.self-is
      | then-places-test+else-came+else-done-len+in_default w ↦
          let kept : w.apply_telling.new.self ≡ w.take_updates-came.new.self = search rules in
          come_to seat first c.args.from w.take_updates-came.result.place c.places-test.done whats
          old w.take_updates-came.new.self c.places-test.self
          (part_on seat first c.args.from c.places.done w.take_updates-came.result.place whats old
          c.places.self w.take_updates-came.new.self c.places.invariant.applied
          w.take_updates-came.ensures.applied) w.done-is (w.self-is ∙ kept)
    ]

-- what is told up to the place and with the flips that a path came to
told_to : (seat first from to done : ℕ) (whats : List What) (old : State) (x y z : Flipped)
    → TellsAllIfKnown old (part_of seat first whats from to) x y → done ≡ to → z ≡ y
    → TellsAllIfKnown old (part_of seat first whats from done) x z
told_to seat first from to done whats old x y z told place same =
    subst (λ (n : ℕ). TellsAllIfKnown old (part_of seat first whats from n) x z) (sym place)
    (subst (λ (f : Flipped). TellsAllIfKnown old (part_of seat first whats from to) x f) (sym same)
    told)

pub returns-clause-flips : goal.returns-clause-flips
returns-clause-flips c =
    let seat : ℕ = c.args.seat in
    let first : ℕ = c.args.first in
    let whats : List What = c.args.posted.now in
    let old : State = c.args.self.now in
    elim c.places-test.branch [
      | else-places-test w ↦
          told_to seat first c.args.from c.places.done c.places-test.done whats old c.args.flips.now
          c.places.flips c.places-test.flips c.places.invariant.flips w.done-is w.flips-is
      | then-places-test+then-came w ↦
          let came = w.take_updates-came in
          told_to seat first c.args.from came.result.place c.places-test.done whats old
          c.args.flips.now came.new.flips c.places-test.flips
          (told_on seat first c.args.from c.places.done came.result.place whats old c.places.self
          came.new.self c.args.flips.now c.places.flips came.new.flips c.places.invariant.onwards
          came.ensures.onwards came.ensures.within c.places.invariant.applied came.ensures.applied
          c.places.invariant.flips came.ensures.flips) w.done-is w.flips-is
      | then-places-test+else-came+else-done-len+in_default w ↦
          let came = w.take_updates-came in
          let kept : w.apply_telling.new.flips ≡ came.new.flips = search rules in
          told_to seat first c.args.from came.result.place c.places-test.done whats old
          c.args.flips.now came.new.flips c.places-test.flips
          (told_on seat first c.args.from c.places.done came.result.place whats old c.places.self
          came.new.self c.args.flips.now c.places.flips came.new.flips c.places.invariant.onwards
          came.ensures.onwards came.ensures.within c.places.invariant.applied came.ensures.applied
          c.places.invariant.flips came.ensures.flips) w.done-is (w.flips-is ∙ kept)
    ]
