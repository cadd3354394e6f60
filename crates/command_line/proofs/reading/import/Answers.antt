use Rattle.std.proofs.Common.{◌∙◌, ◌||◌, ap, ap₂}
use Rattle.std.proofs.lemmas.Result.{IfOk-weaker}
use Rattle.clap.specs.Words.{with_rule}
use Rattle.clap.specs.Simple.{app_of_fields}
use Rattle.command_line.proofs.reading.import.Goals as goal

pub returns-clause-app : goal.returns-clause-app
returns-clause-app c =
    let one = c.in_ok-arg.ensures.shape c.option.ensures.local
    ∙ ap₂ with_rule (ap app_of_fields c.about.ensures ∙ c.new.ensures.app) c.option.ensures.rule in
    IfOk-weaker c.arg-2.result _ _ (λ command h. h.shape c.files.ensures.local
    ∙ ap₂ with_rule one c.files.ensures.rule) c.arg-2.ensures

pub returns-clause-local : goal.returns-clause-local
returns-clause-local c =
    let one = c.in_ok-arg.ensures.globals
    ∙ ap₂ (λ x y. x || y) (ap (λ f. f.has_globals) c.about.ensures ∙ c.new.ensures.local)
    c.option.ensures.local in
    IfOk-weaker c.arg-2.result _ _ (λ command h. h.globals
    ∙ ap₂ (λ x y. x || y) one c.files.ensures.local) c.arg-2.ensures
