use Rattle.std.proofs.Common.{rules, ◌≢◌, [], ◌∷◌, inl, refl}
use Rattle.std.proofs.KnownBytes.{Appends-nil, Keeps-refl}
use Rattle.std.proofs.lemmas.Result.{IfOk-weaker, on_err_weaker}
use Rattle.agg_config.specs.Reading.{IsFirstFault, Write}
use Rattle.agg_config.specs.declared.causes.LineCause.TheVariants as cause
use Rattle.line_words.specs.Words.{lines_of}
use Rattle.program.proofs.Known.{of_known}
use Rattle.program.specs.Wiring.{Begins, IsFirstAlone, Reported, streams}
use Rattle.program.proofs.Reporting.{is_begun, is_faulty}
use Rattle.program.proofs.preparing.listen.Goals as goal

-- there is no fault
pub returns-in-Ok-clause-done : goal.returns-in-Ok-clause-done
returns-in-Ok-clause-done g c = λ known read.
    inl (record {
      config = c.in-Ok.config;
      left = refl;
      written =
          of_known known c.args.text.now (λ text. Write (lines_of text) c.in-Ok.config) read
          (search rules);
      faultless = search rules;
      silent = (
        Appends-nil (g.O.Write.contents c.args.output.now),
        Keeps-refl (g.E.Write.contents c.args.errors.now),
      );
    })

-- the first fault was reported
pub returns-clause-done : goal.returns-clause-done
returns-clause-done g c = λ known read.
    let fault = c.in-Err.fault in
    let first : IsFirstFault (lines_of c.args.text.now) fault = search rules in
    let faulty : fault.cause ≢ cause.NoMemory = search rules in
    let s = streams (g.O.Write.contents c.args.output.now) (g.O.Write.contents c.report.new.output)
    (g.E.Write.contents c.args.errors.now) (g.E.Write.contents c.report.new.errors) in
    IfOk-weaker c.report.result (Reported c.args.text.now (fault ∷ []) s)
    (Begins known c.args.endpoints s)
    (λ prepared h.
    is_faulty c.args.text.now fault known c.args.endpoints s prepared read first faulty h)
    c.report.ensures.done

-- not to the end
pub returns-clause-cut : goal.returns-clause-cut
returns-clause-cut g c = λ known read.
    let fault = c.in-Err.fault in
    let first : IsFirstFault (lines_of c.args.text.now) fault = search rules in
    let faulty : fault.cause ≢ cause.NoMemory = search rules in
    on_err_weaker c.report.result (is_begun IsFirstAlone c.args.text.now (fault ∷ []) known _ read
    (fault, refl, first, faulty)) c.report.ensures.cut
