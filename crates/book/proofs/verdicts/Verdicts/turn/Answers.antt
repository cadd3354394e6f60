use Rattle.std.proofs.Common.{◌≡◌, ℕ, ap, subst}
use Rattle.fleet_model.specs.State.{State}
use Rattle.standing_filters.specs.Turns.{AreTurned}
use Rattle.book.specs.Verdicts.{AreAll, living_in, sums_in}
use Rattle.book.proofs.FewReads.{turned_few, turned_quiet}
use Rattle.book.proofs.ToldAll.{kept_told}
use Rattle.book.proofs.Judging.{kept_holds, turned_held}
use Rattle.book.proofs.verdicts.Verdicts.turn.Goals as goal

pub returns-clause-held : goal.returns-clause-held
returns-clause-held c = λ told state sound goes held.
    let later : State = c.args.machine.now in
    let old = c.args.self.now.standing.filters in
    let new = c.moment-turned.new.self.filters in
    let moment : c.machine.inside.moment ≡ later.moment =
    ap (λ (s : State). s.moment) c.machine.view_is in
    turned_held c.moment_keeps_verdicts.ensures told state later old new sound c.requires.sound goes
    (subst (λ (t : ℕ). AreTurned (sums_in later) (living_in later) t old new) moment
    c.in-Ok.ensures.ok) held

pub returns-clause-few : goal.returns-clause-few
returns-clause-few c = λ told state sound goes held zero.
    turned_few state c.args.machine.now c.machine.inside.moment c.args.self.now.standing.filters
    c.args.meter.now.evals c.moment-turned.new.meter.evals sound c.requires.sound held
    (ap (λ (s : State). s.moment) c.machine.view_is) zero c.moment-turned.ensures.counted

pub returns-clause-quiet : goal.returns-clause-quiet
returns-clause-quiet c = λ told state sound goes held zero still.
    turned_quiet state c.args.machine.now.moment c.machine.inside.moment
    c.args.self.now.standing.filters c.args.meter.now.evals c.moment-turned.new.meter.evals sound
    held still (ap (λ (s : State). s.moment) c.machine.view_is) zero c.moment-turned.ensures.quiet

pub returns-clause-flips : goal.returns-clause-flips
returns-clause-flips c = λ told state sound goes held.
    let later : State = c.args.machine.now in
    let old = c.args.self.now.standing.filters in
    let new = c.moment-turned.new.self.filters in
    let moment : c.machine.inside.moment ≡ later.moment =
    ap (λ (s : State). s.moment) c.machine.view_is in
    let after : AreAll later new =
    turned_held c.moment_keeps_verdicts.ensures told state later old new sound c.requires.sound goes
    (subst (λ (t : ℕ). AreTurned (sums_in later) (living_in later) t old new) moment
    c.in-Ok.ensures.ok) held in
    kept_told state later old new c.args.flips.now c.moment-turned.new.flips
    (kept_holds state old sound held) (kept_holds later new c.requires.sound after) goes.config
    c.in-Ok.ensures.flips
