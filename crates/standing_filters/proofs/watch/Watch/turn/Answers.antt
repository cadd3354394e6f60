use Rattle.std.proofs.Common.{◌≡◌, ◌<◌, ◌≤◌, ℕ, List, false, refl, sym, ◌∙◌}
use Rattle.std.proofs.Common.{subst, arith}
use Rattle.crossing.specs.First.{IsFlatSoon}
use Rattle.place_index.specs.Places.{in_order}
use Rattle.standing_filters.specs.Flips.{TellsAt}
use Rattle.standing_filters.specs.Placed.{VerdictPlaces, verdict_in}
use Rattle.standing_filters.specs.Plans.{kept_by, view_of_watch}
use Rattle.standing_filters.specs.Turns.{is_due}
use Rattle.standing_filters.specs.Watched.{verdict_at}
use Rattle.standing_filters.proofs.OneByOne.{due_count, due_fewer, none_due, one_more, set_length}
use Rattle.standing_filters.proofs.OneByOne.{so_none, turned_all, turned_place}
use Rattle.standing_filters.proofs.Planning.{watch_but}
use Rattle.standing_filters.proofs.Said.{at_none, at_then}
use Rattle.standing_filters.proofs.watch.Watch.turn.Goals as goal

pub loop-at-init : goal.loop-at-init
loop-at-init g c = record {
  watch = c.requires;
  so = so_none (g.V.Values.summed c.args.values.now) (g.V.Values.living c.args.values.now) c.args.t
      (view_of_watch c.args.self.now) c.args.meter.now.evals
      ((table : ℕ) (key : List ℕ) → IsFlatSoon c.args.t
      (g.V.Values.flat c.args.values.now table key));
  flips = λ known. at_none c.args.place (λ key. (verdict_at (kept_by c.args.self.now) key).holds)
      c.args.flips.now known;
}

pub loop-at-preserved : goal.loop-at-preserved
loop-at-preserved g c =
    let old = c.loop-at.self in
    let mid = c.take_due.new.self in
    let new = c.turn_place.new.self in
    record {
      watch = c.turn_place.ensures.stay;
      so = turned_place (g.V.Values.summed c.args.values.now) (g.V.Values.living c.args.values.now)
          c.args.t (view_of_watch c.args.self.now) old mid new c.args.meter.now.evals
          c.loop-at.meter.evals c.turn_place.new.meter.evals
          ((table : ℕ) (key : List ℕ)
          → IsFlatSoon c.args.t (g.V.Values.flat c.args.values.now table key)) c.in-Some.at
          c.loop-at.invariant.so c.in-Some.ensures.watch c.in-Some.ensures.filter
          c.in-Some.ensures.places c.in-Some.ensures.due c.turn_place.ensures.touched
          c.turn_place.ensures.counted;
      flips = λ known.
          let told = c.turn_place.ensures.flips known in
          at_then c.args.place (λ key. (verdict_at (kept_by c.args.self.now) key).holds)
          (λ key. (verdict_at (kept_by old) key).holds) (λ key. (verdict_at
          (kept_by new) key).holds)
          c.args.flips.now c.loop-at.flips c.turn_place.new.flips
          (c.loop-at.invariant.flips told.known)
          (subst (λ (l : VerdictPlaces). TellsAt c.args.place
          (λ key. (verdict_at (in_order l) key).holds)
          (λ key. (verdict_at (kept_by new) key).holds) c.loop-at.flips c.turn_place.new.flips)
          c.in-Some.ensures.places told);
    }

pub loop-at-smaller : goal.loop-at-smaller
loop-at-smaller g c =
    subst (λ (l : VerdictPlaces). due_count c.args.t c.turn_place.new.self.places
    < due_count c.args.t l) c.in-Some.ensures.places
    (due_fewer c.args.t c.in-Some.at c.take_due.new.self.places c.turn_place.new.self.places
    c.turn_place.ensures.set c.in-Some.ensures.due c.turn_place.ensures.turned)

pub returns-then-not-is_lost-clause-turned : goal.returns-then-not-is_lost-clause-turned
returns-then-not-is_lost-clause-turned g c =
    turned_all (g.V.Values.summed c.args.values.now) (g.V.Values.living c.args.values.now) c.args.t
    (view_of_watch c.args.self.now) c.loop-at.self c.take_due.new.self c.args.meter.now.evals
    c.loop-at.meter.evals ((table : ℕ) (key : List ℕ)
    → IsFlatSoon c.args.t (g.V.Values.flat c.args.values.now table key))
    c.loop-at.invariant.so c.take_due.ensures.filter c.take_due.ensures.places
    (c.in_default.ensures.none (sym c.is_lost.ensures ∙ c.if-not-is_lost.true))

pub loop-other-preserved : goal.loop-other-preserved
loop-other-preserved g c =
    let old = c.loop-other.self in
    let new = c.turn_place-in-loop-other.new.self in
    record {
      watch = c.turn_place-in-loop-other.ensures.stay;
      so = turned_place (g.V.Values.summed c.args.values.now) (g.V.Values.living c.args.values.now)
          c.args.t (view_of_watch c.args.self.now) old old new c.args.meter.now.evals
          c.loop-other.meter.evals c.turn_place-in-loop-other.new.meter.evals
          ((table : ℕ) (key : List ℕ)
          → IsFlatSoon c.args.t (g.V.Values.flat c.args.values.now table key)) c.loop-other.other
          c.loop-other.invariant.so (watch_but c.loop-other.other old c.loop-other.invariant.watch)
          refl refl (sym c.is_due.ensures ∙ c.if-not-is_due.false)
          c.turn_place-in-loop-other.ensures.touched c.turn_place-in-loop-other.ensures.counted;
      flips = λ known.
          let told = c.turn_place-in-loop-other.ensures.flips known in
          at_then c.args.place (λ key. (verdict_at (kept_by c.args.self.now) key).holds)
          (λ key. (verdict_at (kept_by old) key).holds) (λ key. (verdict_at
          (kept_by new) key).holds)
          c.args.flips.now c.loop-other.flips c.turn_place-in-loop-other.new.flips
          (c.loop-other.invariant.flips told.known) told;
      bound = subst (λ n. n ≤ c.places-count.result)
          (sym (set_length c.loop-other.other old.places new.places
          c.turn_place-in-loop-other.ensures.set))
          c.loop-other.invariant.bound;
      turned = one_more c.args.t c.loop-other.other c.loop-other.other old.places new.places
          c.turn_place-in-loop-other.ensures.set refl c.turn_place-in-loop-other.ensures.turned
          c.loop-other.invariant.turned;
    }

pub returns-then-not-is_turned-clause-turned : goal.returns-then-not-is_turned-clause-turned
returns-then-not-is_turned-clause-turned g c =
    turned_all (g.V.Values.summed c.args.values.now) (g.V.Values.living c.args.values.now) c.args.t
    (view_of_watch c.args.self.now) c.loop-other.self c.loop-other.self c.args.meter.now.evals
    c.loop-other.meter.evals ((table : ℕ) (key : List ℕ)
    → IsFlatSoon c.args.t (g.V.Values.flat c.args.values.now table key))
    c.loop-other.invariant.so refl refl
    (none_due c.args.t c.loop-other.other c.loop-other.self.places (omega arith)
    c.loop-other.invariant.turned)

pub returns-clause-turned : goal.returns-clause-turned
returns-clause-turned g c =
    let places = c.loop-other.self.places in
    let none : (p : ℕ) → is_due c.args.t (verdict_in places p) ≡ false =
    none_due c.args.t c.loop-other.other places (omega arith) c.loop-other.invariant.turned in
    turned_all (g.V.Values.summed c.args.values.now) (g.V.Values.living c.args.values.now) c.args.t
    (view_of_watch c.args.self.now) c.loop-other.self c.plan_all.new.self c.args.meter.now.evals
    c.loop-other.meter.evals ((table : ℕ) (key : List ℕ)
    → IsFlatSoon c.args.t (g.V.Values.flat c.args.values.now table key))
    c.loop-other.invariant.so c.plan_all.ensures.filter c.plan_all.ensures.places
    (subst (λ (l : VerdictPlaces). (p : ℕ) → is_due c.args.t (verdict_in l p) ≡ false)
    (sym c.plan_all.ensures.places) none)
