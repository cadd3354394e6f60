use Rattle.std.proofs.Common.{sym, subst, ap}
use Rattle.replay.specs.Given.{step_given}
use Rattle.replay.specs.Runs.{CommandGives, change_given}
use Rattle.replay.proofs.Asking.{answered, just_given, step_fits}
use Rattle.replay.proofs.commands.obey.Goals as goal
use Rattle.show_clear.specs.Change.{ChangeFits}

pub change_fleet-requires : goal.change_fleet-requires
change_fleet-requires c = record {
  fits = rw c.step_of.ensures (step_fits c.args.fleet.now.book c.in-Change.change
      (subst (ChangeFits c.args.fleet.now.book) c.in-Change.is c.requires.fits));
}

pub returns-in-Change : goal.returns-in-Change
returns-in-Change c = λ config opening past settled.
    just_given c.change_fleet.result (CommandGives config opening past c.args.command)
    (change_given (step_given config opening past c.step_of.result)) c.change_fleet.new.fleet
    config opening c.args.out.now.items c.change_fleet.new.out.items
    (rw c.in-Change.is (ap (λ step. change_given (step_given config opening past step))
    c.step_of.ensures)) (c.change_fleet.ensures config opening past settled)

pub returns-in_ok-answer-in-Ask : goal.returns-in_ok-answer-in-Ask
returns-in_ok-answer-in-Ask c = λ config opening past settled.
    rw c.in-Ask.is (answered c.book.result.now c.args.fleet.now config opening past
    c.in-Ask.question c.args.out.now.items c.answer.new.out.items (sym c.book.ensures) settled
    c.in_ok-answer-in-Ask.ensures.ok)
