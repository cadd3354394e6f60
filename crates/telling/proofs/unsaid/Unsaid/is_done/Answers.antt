use Rattle.std.proofs.Common.{rules}
use Rattle.std.specs.Prelude.{IsTrue}
use Rattle.telling.specs.Unsaid.{IsSaid}
use Rattle.telling.proofs.Steps.{said_none}
use Rattle.telling.proofs.unsaid.Unsaid.is_done.Goals as goal

pub returns-then-is_none-clause-done : goal.returns-then-is_none-clause-done
returns-then-is_none-clause-done c = λ yes pushed.
    let said : IsTrue c.is_none-then-is_none.result → IsSaid c.args.self.now = search rules in
    said_none c.args.self.now (said yes) pushed
