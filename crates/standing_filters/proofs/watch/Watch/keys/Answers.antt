use Rattle.place_index.proofs.Ordered.{sorted-in_order}
use Rattle.standing_filters.proofs.HeldKeys.{held_exact, held_ordered}
use Rattle.standing_filters.specs.Plans.{kept_by}
use Rattle.standing_filters.proofs.watch.Watch.keys.Goals as goal

pub returns-clause-ordered : goal.returns-clause-ordered
returns-clause-ordered c =
    held_ordered (kept_by c.args.self.now) (sorted-in_order c.args.self.now.places)

pub returns-clause-exact : goal.returns-clause-exact
returns-clause-exact c =
    held_exact (kept_by c.args.self.now) (sorted-in_order c.args.self.now.places)
