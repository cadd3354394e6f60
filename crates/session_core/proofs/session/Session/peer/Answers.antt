use Rattle.std.proofs.Common.{ap, ◌∙◌}
use Rattle.session_core.specs.Silence.{peer_of}
use Rattle.session_core.specs.State.{SessionState}
use Rattle.session_core.proofs.TalkAnswerLemmas.{opens}
use Rattle.session_core.proofs.session.Session.peer.Goals as goal

pub returns-clause-opened : goal.returns-clause-opened
returns-clause-opened c =
    λ setup taken stands. opens setup c.args.self.now.seated taken c.peer_at.result
    c.args.self.now.stage (c.peer_at.ensures
    ∙ ap (λ (s : SessionState). peer_of s.stage) c.self.view_is) stands
