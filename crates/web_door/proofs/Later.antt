-- Later lists of one history.
use Rattle.std.proofs.Common.{refl}
use Rattle.hub.proofs.Fronts.{prefix_self}
use Rattle.hub.specs.History.{Beginning}
use Rattle.hub.specs.Posts.{Follows}

-- a list follows itself
pub follows_self : (b : Beginning) → Follows b b
follows_self b = record { same = refl; events = prefix_self b.events }
