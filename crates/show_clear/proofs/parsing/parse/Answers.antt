use Rattle.std.proofs.Common.{Ok, Err}
use Rattle.show_clear.proofs.FaultAlone.{told_alone}
use Rattle.show_clear.proofs.parsing.parse.Goals as goal

pub returns-in-Ok-clause-read : goal.returns-in-Ok-clause-read
returns-in-Ok-clause-read c = told_alone c.args.book.now c.args.line.now
    (Ok c.in-Ok.command) c.in-Ok.ensures.read

pub returns-in-Err-clause-read : goal.returns-in-Err-clause-read
returns-in-Err-clause-read c = told_alone c.args.book.now c.args.line.now
    (Err c.in-Err.refused) c.in-Err.ensures.read
