-- The plan along which a followed table's updates are read.
use Rattle.std.specs.Prelude.{◌≡◌, ℕ, List, slice_get, Option, Some, None}
use Rattle.peers_msg.specs.Payload.{◌>>=◌}
use Rattle.agg_types.specs.declared.config.Shape.{Shape}
use Rattle.update_values.specs.declared.decode_plan.DecodePlan.{DecodePlan}
use Rattle.update_values.specs.Plan.{IsPlan}
use Rattle.session_core.specs.declared.track.Followed.{Followed}
use Rattle.session_core.specs.Tracked.{Tracked}

-- the plan is that of a followed definition
abbrev pub IsPlanOf : List Shape → Followed → DecodePlan → Type 0
IsPlanOf tables followed plan =
    (shape : Shape) → slice_get tables followed.table ≡ Some shape
    → IsPlan followed.layout shape.cols plan

abbrev pub followed_in : Option ℕ → Tracked → Option Followed
followed_in None t = None
followed_in (Some at) t = slice_get t.entries at >>= λ entry. entry.followed

-- what is in force
abbrev pub followed_now : Tracked → Option Followed
followed_now t = followed_in t.current t

-- the plan is that of the table in force
abbrev pub IsPlanNow : List Shape → Tracked → DecodePlan → Type 0
IsPlanNow tables t plan =
    (followed : Followed) → followed_now t ≡ Some followed → IsPlanOf tables followed plan
