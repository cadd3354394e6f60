use Rattle.std.proofs.Common.{◌≤◌, ◌+◌, ◌*◌, ℕ, subst, arith, length}
use Rattle.book.specs.Reads.{filters_at}
use Rattle.book.proofs.ToldAll.{stays_told}
use Rattle.book.proofs.Judging.{stays_held}
use Rattle.book.proofs.Prepared.{more_held, pairs_later}
use Rattle.book.proofs.verdicts.Verdicts.follow_other.Goals as goal

pub returns-in-Sit-clause-held : goal.returns-in-Sit-clause-held
returns-in-Sit-clause-held c = rw c.in-Sit.is (λ state sound follows leaving gone held.
    stays_held state c.args.machine.now c.args.self.now.standing.filters follows held)

pub returns-in-Sit-clause-flips : goal.returns-in-Sit-clause-flips
returns-in-Sit-clause-flips c = rw c.in-Sit.is (λ state sound follows gone held.
    stays_told state c.args.machine.now c.args.flips.now follows)

pub returns-in-Open-clause-held : goal.returns-in-Open-clause-held
returns-in-Open-clause-held c = rw c.in-Open.is (λ state sound follows leaving gone held.
    stays_held state c.args.machine.now c.args.self.now.standing.filters follows held)

pub returns-in-Open-clause-flips : goal.returns-in-Open-clause-flips
returns-in-Open-clause-flips c = rw c.in-Open.is (λ state sound follows gone held.
    stays_told state c.args.machine.now c.args.flips.now follows)

pub returns-in-Leave-clause-held : goal.returns-in-Leave-clause-held
returns-in-Leave-clause-held c = rw c.in-Leave.is (λ state sound follows leaving gone held.
    stays_held state c.args.machine.now c.args.self.now.standing.filters follows held)

pub returns-in-Leave-clause-flips : goal.returns-in-Leave-clause-flips
returns-in-Leave-clause-flips c = rw c.in-Leave.is (λ state sound follows gone held.
    stays_told state c.args.machine.now c.args.flips.now follows)

pub returns-in-Put-clause-held : goal.returns-in-Put-clause-held
returns-in-Put-clause-held c = rw c.in-Put.is (λ state sound follows leaving gone held.
    c.touch.ensures.held state follows held)

pub returns-in-Put-clause-few : goal.returns-in-Put-clause-few
returns-in-Put-clause-few c = rw c.in-Put.is (λ state sound follows held before.
    let few : c.touch.new.meter.evals ≤ c.args.meter.now.evals
    + 505 * filters_at state c.in-Put.table = c.touch.ensures.few state held in
    omega (arith, few, before))

pub returns-in-Clear-clause-held : goal.returns-in-Clear-clause-held
returns-in-Clear-clause-held c = rw c.in-Clear.is (λ state sound follows leaving gone held.
    c.forget.ensures.held state follows gone held)

pub returns-in-Clear-clause-flips : goal.returns-in-Clear-clause-flips
returns-in-Clear-clause-flips c = rw c.in-Clear.is (λ state sound follows gone held.
    c.forget.ensures.flips state sound follows gone held)

pub returns-in-AddFilter-clause-held : goal.returns-in-AddFilter-clause-held
returns-in-AddFilter-clause-held c = rw c.in-AddFilter.is (λ state sound follows leaving gone held.
    more_held c.in-AddFilter.field-0 state c.args.machine.now c.args.self.now.standing.filters
    follows held)

pub returns-in-AddFilter-clause-few : goal.returns-in-AddFilter-clause-few
returns-in-AddFilter-clause-few c = rw c.in-AddFilter.is (λ state sound follows held before.
    subst (λ (n : ℕ). c.args.meter.now.evals ≤ 505 * n)
    (pairs_later c.in-AddFilter.field-0 state c.args.machine.now (length state.config.filters)
    follows) before)

pub returns-in-DropFilter-clause-held : goal.returns-in-DropFilter-clause-held
returns-in-DropFilter-clause-held c = rw c.in-DropFilter.is
    (λ state sound follows leaving gone held.
    c.drop_one.ensures state c.args.machine.now c.in-DropFilter.field-0 follows leaving held)
