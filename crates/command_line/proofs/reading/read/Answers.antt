use Rattle.std.proofs.Common.{◌∙◌, sym, subst, Option, List, map}
use Rattle.std.proofs.lemmas.Result.{IfErr-weaker, IfOk-weaker}
use Rattle.clap.specs.Words.{Row, Text, app_of}
use Rattle.command_line.specs.Asked.{IsJob}
use Rattle.command_line.proofs.Commands.{EntersCommand, command_entered}
use Rattle.command_line.proofs.Told.{both_told, err_only, is_refused, none_entered}
use Rattle.command_line.proofs.Told.{told_refused, words_taken}
use Rattle.command_line.proofs.reading.read.Goals as goal

pub unreachable-requires : goal.unreachable-requires
unreachable-requires g c =
    let words = map g.S.AsStr.text c.args.words.now in
    let told = words_taken (app_of c.in_ok-program.field-0) words c.in_ok-matches.matches
    c.in_ok-program.ensures.ok c.in_ok-matches.ensures.kinds c.in_ok-matches.ensures.matches in
    none_entered _ c.in_default.ensures.rows
    (subst EntersCommand (sym told.1) (command_entered words told.0))

pub job-requires : goal.job-requires
job-requires g c =
    let words = map g.S.AsStr.text c.args.words.now in
    let told = words_taken (app_of c.in_ok-program.field-0) words c.in_ok-matches.matches
    c.in_ok-program.ensures.ok c.in_ok-matches.ensures.kinds c.in_ok-matches.ensures.matches in
    subst EntersCommand (sym told.1 ∙ both_told _ _ _ c.in-Some.ensures.name c.in-Some.ensures.rows)
    (command_entered words told.0)

pub returns-clause-job : goal.returns-clause-job
returns-clause-job g c =
    let words = map g.S.AsStr.text c.args.words.now in
    let told = words_taken (app_of c.in_ok-program.field-0) words c.in_ok-matches.matches
    c.in_ok-program.ensures.ok c.in_ok-matches.ensures.kinds c.in_ok-matches.ensures.matches in
    let found = sym (both_told _ _ _ c.in-Some.ensures.name c.in-Some.ensures.rows) ∙ told.1 in
    IfOk-weaker c.job.result _ _ (λ job asked. record {
      taken = told.0;
      is = subst (λ (o : Option (Text × List Row)). IsJob o job) found asked;
    }) c.job.ensures.job

pub returns-clause-usage : goal.returns-clause-usage
returns-clause-usage g c =
    let words = map g.S.AsStr.text c.args.words.now in
    let told = words_taken (app_of c.in_ok-program.field-0) words c.in_ok-matches.matches
    c.in_ok-program.ensures.ok c.in_ok-matches.ensures.kinds c.in_ok-matches.ensures.matches in
    let found = sym (both_told _ _ _ c.in-Some.ensures.name c.in-Some.ensures.rows) ∙ told.1 in
    IfErr-weaker c.job.result _ _ (λ usage none. is_refused words _ usage told.0 found none)
    c.job.ensures.none

pub returns-in_err-matches-clause-usage : goal.returns-in_err-matches-clause-usage
returns-in_err-matches-clause-usage g c =
    err_only c.from_residual-in_err-matches.result c.from_residual-in_err-matches.ensures.1
    (λ usage told. told_refused (map g.S.AsStr.text c.args.words.now)
    (app_of c.in_ok-program.field-0) c.in_err-matches.field-0.0 usage c.in_ok-program.ensures.ok
    c.in_err-matches.ensures.kinds told)
