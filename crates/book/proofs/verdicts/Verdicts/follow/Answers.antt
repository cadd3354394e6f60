use Rattle.std.proofs.Common.{◌≤◌, ◌+◌, ◌*◌, arith}
use Rattle.book.specs.Reads.{filters_at}
use Rattle.book.proofs.verdicts.Verdicts.follow.Goals as goal

pub returns-in-Put-clause-held : goal.returns-in-Put-clause-held
returns-in-Put-clause-held c = rw c.in-Put.is (λ state sound follows leaving gone held.
    c.touch.ensures.held state follows held)

pub returns-in-Put-clause-few : goal.returns-in-Put-clause-few
returns-in-Put-clause-few c = rw c.in-Put.is (λ state sound follows held before.
    let few : c.touch.new.meter.evals ≤ c.args.meter.now.evals
    + 505 * filters_at state c.in-Put.table = c.touch.ensures.few state held in
    omega (arith, few, before))
