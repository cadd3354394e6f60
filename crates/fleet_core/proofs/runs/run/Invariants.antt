use Rattle.std.proofs.Common.{◌≡◌, [], drop, List}
use Rattle.fleet_core.specs.declared.step.Step.{Step}
use Rattle.fleet_core.specs.Runs.{done, sent_in, step_fault}
use Rattle.fleet_core.specs.Represents.{Represents}
use Rattle.fleet_core.proofs.runs.run.Given as goal

-- of the steps so far those that could be were done, and those that are left decide what is still
-- to be said
abbrev pub invariant-loop-step : goal.invariant-loop-step
invariant-loop-step l =
    record {
      past : List Step;
      stands : Represents l.fleet l.fn.config l.fn.moment past;
      waiting : l.fleet.waiting ≡ [];
      rest : done l.fn.config l.fn.moment past (drop l.step-index l.steps)
          ≡ done l.fn.config l.fn.moment [] l.steps;
      sent : l.sent ≡ sent_in l.fn.config l.fn.moment past;
      no_fault : step_fault l.fn.config l.fn.moment past (drop l.step-index l.steps)
          ≡ step_fault l.fn.config l.fn.moment [] l.steps;
    }
