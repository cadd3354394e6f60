use Rattle.std.proofs.Common.{ap, ◌∙◌}
use Rattle.session_core.specs.declared.stage.Stage.TheVariants.{Greeting}
use Rattle.session_core.proofs.TalkAnswerLemmas.{stage_of_none}
use Rattle.session_core.proofs.session.Session.accept.Goals as goal

pub returns-clause-stands : goal.returns-clause-stands
returns-clause-stands c = λ setup. ap (λ bytes. Greeting bytes) c.new.ensures ∙ stage_of_none setup c.args.seated
