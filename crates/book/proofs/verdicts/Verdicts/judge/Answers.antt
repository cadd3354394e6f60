use Rattle.std.proofs.Common.{◌≡◌, ℕ, ap, subst}
use Rattle.crossing.specs.First.{IsFlatSoon}
use Rattle.fleet_model.specs.State.{State}
use Rattle.standing_filters.specs.Watched.{AreTouched}
use Rattle.book.specs.OneKey.{flat_of}
use Rattle.book.specs.Verdicts.{AreAll, living_in, sums_in}
use Rattle.book.proofs.FewReads.{touched_few}
use Rattle.book.proofs.ToldAll.{kept_told}
use Rattle.book.proofs.OneKeyed.{one_flat_soon, one_touches_all}
use Rattle.book.proofs.Judging.{kept_holds, touched_held}
use Rattle.book.proofs.verdicts.Verdicts.judge.Goals as goal

pub returns-clause-held : goal.returns-clause-held
returns-clause-held c = λ state changes held.
    let later : State = c.args.machine.now in
    let old = c.args.self.now.standing.filters in
    let new = c.touch_near-touched.new.self.filters in
    let moment : c.machine.inside.moment ≡ later.moment =
    ap (λ (s : State). s.moment) c.machine.view_is in
    touched_held c.touch_keeps_verdicts.ensures state later c.args.table c.args.key.now old new
    changes
    (subst (λ (t : ℕ). AreTouched (sums_in later) (living_in later) c.args.table c.args.key.now t
    old new) moment
    (one_touches_all later c.args.table c.args.key.now c.new-values.result
    c.machine.inside.moment old new c.new-values.ensures c.in-Ok.ensures.ok)) held

pub returns-clause-few : goal.returns-clause-few
returns-clause-few c = λ state held.
    touched_few state (IsFlatSoon c.machine.inside.moment (flat_of c.new-values.result))
    c.args.table c.args.self.now.standing.filters c.args.meter.now.evals
    c.touch_near-touched.new.meter.evals held
    (one_flat_soon c.args.machine.now c.args.table c.args.key.now c.new-values.result
    c.machine.inside.moment c.requires.sound (ap (λ (s : State). s.moment) c.machine.view_is)
    c.new-values.ensures) c.touch_near-touched.ensures.counted

pub returns-clause-flips : goal.returns-clause-flips
returns-clause-flips c = λ state sound changes held.
    let later : State = c.args.machine.now in
    let old = c.args.self.now.standing.filters in
    let new = c.touch_near-touched.new.self.filters in
    let moment : c.machine.inside.moment ≡ later.moment =
    ap (λ (s : State). s.moment) c.machine.view_is in
    let after : AreAll later new =
    touched_held c.touch_keeps_verdicts.ensures state later c.args.table c.args.key.now old new
    changes
    (subst (λ (t : ℕ). AreTouched (sums_in later) (living_in later) c.args.table c.args.key.now t
    old new) moment
    (one_touches_all later c.args.table c.args.key.now c.new-values.result
    c.machine.inside.moment old new c.new-values.ensures c.in-Ok.ensures.ok)) held in
    kept_told state later old new c.args.flips.now c.touch_near-touched.new.flips
    (kept_holds state old sound held) (kept_holds later new c.requires.sound after)
    changes.config c.in-Ok.ensures.flips
