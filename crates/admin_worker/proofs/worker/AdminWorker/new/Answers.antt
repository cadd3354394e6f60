use Rattle.std.proofs.Common.{ap}
use Rattle.hub.specs.Posts.{Seated}
use Rattle.admin_worker.proofs.Commanded.{learned_none}
use Rattle.admin_worker.proofs.worker.AdminWorker.new.Goals as goal

pub returns-clause-learned : goal.returns-clause-learned
returns-clause-learned c =
    λ hub sits seen follows. learned_none hub c.args.pass.seat _
    (ap (λ (p : Seated). p.seat) c.new-poster.ensures.pass) follows
    (c.new-poster.ensures.told hub sits seen)
