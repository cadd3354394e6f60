use Rattle.std.proofs.Common.{◌∙◌, ap, length}
use Rattle.fleet_model.specs.State.{State}
use Rattle.book.proofs.Prepared.{gone_back_by}
use Rattle.book.proofs.verdicts.Verdicts.go_back.Goals as goal

pub returns : goal.returns
returns c = λ what held.
    gone_back_by what c.args.machine.now c.args.self.now.standing c.len.result
    c.drop_at.new.standing.filters
    (c.len.ensures ∙ ap (λ (s : State). length s.config.filters) c.machine.view_is)
    c.drop_at.ensures held
