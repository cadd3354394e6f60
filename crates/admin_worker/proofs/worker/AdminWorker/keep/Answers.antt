use Rattle.std.proofs.Common.{ℕ, List, Result, Ok, Err, OnOk, ◌≡◌, ◌++◌}
use Rattle.admin_worker.specs.Commanding.{kept_of}
use Rattle.admin_worker.proofs.worker.AdminWorker.keep.Goals as goal

kept : {A E : Type 0} (line more old new : List ℕ) (result : Result A E) → old ≡ kept_of line
    → OnOk result ((line : List ℕ) → old ≡ kept_of line → new ≡ kept_of (line ++ more))
    → OnOk result (new ≡ kept_of (line ++ more))
kept line more old new (Ok done) is then = then line is
kept line more old new (Err fault) is then = tt

pub returns-clause-keeps : goal.returns-clause-keeps
returns-clause-keeps c =
    λ line is. kept line c.args.bytes.now c.args.self.now.line.bytes.items
    c.add.new.self.bytes.items c.add.result is c.add.ensures.ok
