use Rattle.std.proofs.Common.{◌∙◌, ◌||◌, ap, ap₂}
use Rattle.std.proofs.lemmas.Result.{IfOk-weaker}
use Rattle.clap.specs.Words.{with_rule}
use Rattle.clap.specs.Simple.{app_of_fields}
use Rattle.command_line.proofs.reading.listen.Goals as goal

pub returns-clause-app : goal.returns-clause-app
returns-clause-app c =
    let one = c.in_ok-arg.ensures.shape c.option.ensures.local
    ∙ ap₂ with_rule (ap app_of_fields c.about.ensures ∙ c.new.ensures.app) c.option.ensures.rule in
    let two = c.in_ok-arg-2.ensures.shape c.needed.ensures.local
    ∙ ap₂ with_rule one c.needed.ensures.rule in
    let three = c.in_ok-arg-3.ensures.shape c.option-2.ensures.local
    ∙ ap₂ with_rule two c.option-2.ensures.rule in
    let four = c.in_ok-arg-4.ensures.shape c.option-3.ensures.local
    ∙ ap₂ with_rule three c.option-3.ensures.rule in
    let five = c.in_ok-arg-5.ensures.shape c.option-4.ensures.local
    ∙ ap₂ with_rule four c.option-4.ensures.rule in
    let six = c.in_ok-arg-6.ensures.shape c.repeated.ensures.local
    ∙ ap₂ with_rule five c.repeated.ensures.rule in
    let seven = c.in_ok-arg-7.ensures.shape c.option-5.ensures.local
    ∙ ap₂ with_rule six c.option-5.ensures.rule in
    IfOk-weaker c.arg-8.result _ _ (λ command h. h.shape c.repeated-2.ensures.local
    ∙ ap₂ with_rule seven c.repeated-2.ensures.rule) c.arg-8.ensures

pub returns-clause-local : goal.returns-clause-local
returns-clause-local c =
    let one = c.in_ok-arg.ensures.globals
    ∙ ap₂ (λ x y. x || y) (ap (λ f. f.has_globals) c.about.ensures ∙ c.new.ensures.local)
    c.option.ensures.local in
    let two = c.in_ok-arg-2.ensures.globals
    ∙ ap₂ (λ x y. x || y) one c.needed.ensures.local in
    let three = c.in_ok-arg-3.ensures.globals
    ∙ ap₂ (λ x y. x || y) two c.option-2.ensures.local in
    let four = c.in_ok-arg-4.ensures.globals
    ∙ ap₂ (λ x y. x || y) three c.option-3.ensures.local in
    let five = c.in_ok-arg-5.ensures.globals
    ∙ ap₂ (λ x y. x || y) four c.option-4.ensures.local in
    let six = c.in_ok-arg-6.ensures.globals
    ∙ ap₂ (λ x y. x || y) five c.repeated.ensures.local in
    let seven = c.in_ok-arg-7.ensures.globals
    ∙ ap₂ (λ x y. x || y) six c.option-5.ensures.local in
    IfOk-weaker c.arg-8.result _ _ (λ command h. h.globals
    ∙ ap₂ (λ x y. x || y) seven c.repeated-2.ensures.local) c.arg-8.ensures
