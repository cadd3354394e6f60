use Rattle.std.proofs.Common.{sym}
use Rattle.place_index.proofs.Ordered.{lookup-absent, lookup-held}
use Rattle.ranked.proofs.bounds.find.Goals as goal

pub returns-in_err-at-clause-value : goal.returns-in_err-at-clause-value
returns-in_err-at-clause-value c = rw c.from_residual.ensures
    (sym (lookup-absent c.args.zeros.now.places c.args.key.now c.in_err-at.ensures.none))

pub returns-clause-value : goal.returns-clause-value
returns-clause-value c =
    sym (lookup-held c.args.zeros.now.places c.in_ok-at.at c.args.key.now c.in_ok-own.own.now
    c.find_near.ensures.distinct c.in_ok-at.ensures.some (sym c.in_ok-own.ensures))
