use Rattle.std.proofs.Common.{ℕ, ◌<◌, get_or}
use Rattle.agg_types.specs.declared.event.What.{What}
use Rattle.hub.specs.Roll.{MayPost}
use Rattle.hub.proofs.hub.Hub.allows.Given as goal

-- each of the first ones may be posted
abbrev pub invariant-loop-place : goal.invariant-loop-place
invariant-loop-place g l =
    (k : ℕ) (d : What) → k < l.place → MayPost l.self.config (get_or l.whats k d)
