use Rattle.std.proofs.Common.{ap}
use Rattle.fleet_model.specs.State.{State}
use Rattle.book.proofs.ByPeer.{foretold}
use Rattle.book.proofs.foretold.verdict.Goals as goal

pub returns : goal.returns
returns c = foretold c.args.machine.now c.args.filter.now c.args.key.now c.new-values.result
    c.machine.inside.moment c.judge.result c.requires.sound
    (ap (λ (s : State). s.moment) c.machine.view_is) c.new-values.ensures c.judge.ensures.verdict
