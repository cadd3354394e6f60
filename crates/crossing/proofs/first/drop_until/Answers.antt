use Rattle.std.proofs.Common.{◌+◌, ◌≤◌, arith}
use Rattle.crossing.proofs.first.drop_until.Goals as goal

pub returns-then-flat-not_yet-gt-SHORT_MS-clause-counted :
    goal.returns-then-flat-not_yet-gt-SHORT_MS-clause-counted
returns-then-flat-not_yet-gt-SHORT_MS-clause-counted g c = λ soon. c.between.ensures.counted soon

pub returns-clause-counted : goal.returns-clause-counted
returns-clause-counted g c = λ soon.
    let rest : c.between-2.new.meter.evals ≤ c.is_below.new.self.evals + 32 =
    c.between-2.ensures.counted (omega arith) in
    omega arith
