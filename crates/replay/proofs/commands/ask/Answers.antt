use Rattle.std.proofs.Common.{◌∙◌}
use Rattle.replay.specs.Runs.{AskOrRefusal, CommandGives, state_after}
use Rattle.show_clear.specs.Parse.{command_of}
use Rattle.replay.proofs.Asking.{book_is, given_too, printed, read_ok, refused_gives}
use Rattle.replay.proofs.commands.ask.Goals as goal

pub returns-in-Ok : goal.returns-in-Ok
returns-in-Ok c = λ config opening past settled.
    given_too c.obey.result (CommandGives config opening past c.in-Ok.command)
    (AskOrRefusal config opening past
    (command_of (state_after config opening past) c.args.line.now)) c.obey.new.fleet config
    opening c.args.out.now.items c.obey.new.out.items
    (λ given gives. read_ok _ config opening past c.args.line.now c.in-Ok.command given
    (c.book.ensures ∙ book_is c.args.fleet.now config opening past settled)
    c.in-Ok.ensures.read gives)
    (c.obey.ensures config opening past settled)

pub returns-in_ok-refusal-in-Err : goal.returns-in_ok-refusal-in-Err
returns-in_ok-refusal-in-Err c = λ config opening past settled.
    printed _ c.args.fleet.now config opening past _ c.args.out.now.items c.refusal.new.out.items
    (refused_gives c.in-Err.fault _ config opening past c.args.line.now (c.book.ensures
    ∙ book_is c.args.fleet.now config opening past settled) c.in-Err.ensures.read)
    settled c.in_ok-refusal-in-Err.ensures.ok
