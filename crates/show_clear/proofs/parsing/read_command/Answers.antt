use Rattle.std.proofs.lemmas.Result.{IfOk-weaker}
use Rattle.show_clear.specs.Answer.{NamesExist}
use Rattle.show_clear.specs.Change.{ChangeFits}
use Rattle.show_clear.proofs.Fitting.{IsGood, told_good}
use Rattle.show_clear.proofs.parsing.read_command.Goals as goal

pub returns-clause-stands : goal.returns-clause-stands
returns-clause-stands c = IfOk-weaker c.read_line.result (IsGood c.args.book.now)
    (NamesExist c.args.book.now) (λ command good. good.stands)
    (told_good c.args.book.now c.args.line.now c.read_line.result c.read_line.ensures.read)

pub returns-clause-fits : goal.returns-clause-fits
returns-clause-fits c = IfOk-weaker c.read_line.result (IsGood c.args.book.now)
    (ChangeFits c.args.book.now) (λ command good. good.fits)
    (told_good c.args.book.now c.args.line.now c.read_line.result c.read_line.ensures.read)
