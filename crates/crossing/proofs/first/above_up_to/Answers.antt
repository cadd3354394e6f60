use Rattle.std.proofs.Common.{◌+◌, ◌≤◌, arith}
use Rattle.crossing.proofs.first.above_up_to.Goals as goal

pub returns-clause-counted : goal.returns-clause-counted
returns-clause-counted g c = λ soon.
    let rest : c.between.new.meter.evals ≤ c.is_below.new.self.evals + 33 =
    c.between.ensures.counted (omega arith) in
    omega arith
