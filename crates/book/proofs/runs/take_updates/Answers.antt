use Rattle.std.proofs.Common.{◌+◌, sym, subst, arith}
use Rattle.fleet_model.specs.State.{State}
use Rattle.book.specs.Verdicts.{IsBook}
use Rattle.book.proofs.ToldRuns.{told_none}
use Rattle.book.proofs.Updates.{book_counted}
use Rattle.book.proofs.runs.take_updates.Goals as goal

pub returns-clause-book : goal.returns-clause-book
returns-clause-book c =
    let came = c.take_each-came in
    subst (λ (s : State). IsBook s came.new.verdicts.standing) (sym c.count_to.ensures)
    (book_counted came.new.machine c.args.seat (c.args.first + came.result.place)
    came.new.verdicts.standing came.ensures.book)

pub returns-in_default-clause-flips : goal.returns-in_default-clause-flips
returns-in_default-clause-flips c =
    told_none c.args.seat c.args.first c.args.from c.args.whats.now c.args.machine.now
    c.args.flips.now (let inside = c.requires.from_in in omega arith)
