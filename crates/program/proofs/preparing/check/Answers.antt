use Rattle.std.proofs.Common.{rules}
use Rattle.std.proofs.lemmas.Result.{IfOk-weaker, on_err_weaker}
use Rattle.line_words.specs.Words.{lines_of}
use Rattle.agg_config.specs.Faults.{AreFaults}
use Rattle.program.specs.Wiring.{Checks, Reported, streams}
use Rattle.program.proofs.Reporting.{is_begun, is_checked}
use Rattle.program.proofs.preparing.check.Goals as goal

-- all faults were reported
pub returns-clause-done : goal.returns-clause-done
returns-clause-done g c = λ known read.
    let faults = c.as_slice.result.now in
    let all : AreFaults (lines_of c.args.text.now) faults = search rules in
    let s = streams (g.O.Write.contents c.args.output.now) (g.O.Write.contents c.report.new.output)
    (g.E.Write.contents c.args.errors.now) (g.E.Write.contents c.report.new.errors) in
    IfOk-weaker c.report.result (Reported c.args.text.now faults s) (Checks known s)
    (λ prepared h. is_checked c.args.text.now faults known s prepared read all h)
    c.report.ensures.done

-- not to the end
pub returns-clause-cut : goal.returns-clause-cut
returns-clause-cut g c = λ known read.
    let faults = c.as_slice.result.now in
    let all : AreFaults (lines_of c.args.text.now) faults = search rules in
    on_err_weaker c.report.result (is_begun AreFaults c.args.text.now faults known _ read all)
    c.report.ensures.cut
