use Rattle.std.proofs.Common.{Option, IfOk, ap, subst, ◌∙◌}
use Rattle.agg_types.specs.declared.config.Config.{Config}
use Rattle.admin_worker.specs.Commands.{RepliesTo}
use Rattle.admin_worker.specs.Status.{asked_in}
use Rattle.admin_worker.specs.declared.answering.Answered.{Answered}
use Rattle.admin_worker.specs.declared.asked.Asked.{Asked}
use Rattle.admin_worker.proofs.answering.answer_to.Goals as goal

pub returns-in-None-clause-replies : goal.returns-in-None-clause-replies
returns-in-None-clause-replies g c =
    subst (λ (asked : Option Asked). IfOk c.answer_to_command.result (λ (a : Answered).
    RepliesTo c.args.manner asked c.args.book.now c.args.line.now a.change a.text.items))
    (c.in-None.ensures ∙ ap (λ (config : Config). asked_in config c.args.line.now)
    c.config.ensures.value)
    c.answer_to_command.ensures.replies

pub returns-in-Some-clause-replies : goal.returns-in-Some-clause-replies
returns-in-Some-clause-replies g c =
    subst (λ (asked : Option Asked). IfOk c.told.result (λ (a : Answered).
    RepliesTo c.args.manner asked c.args.book.now c.args.line.now a.change a.text.items))
    (c.in-Some.ensures ∙ ap (λ (config : Config). asked_in config c.args.line.now)
    c.config.ensures.value)
    c.told.ensures.told
