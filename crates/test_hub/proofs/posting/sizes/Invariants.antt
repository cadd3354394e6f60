use Rattle.std.proofs.Common.{◌≡◌}
use Rattle.test_hub.proofs.posting.sizes.Given as goal

-- the pass stays one of this hub
abbrev pub invariant-loop-puts : goal.invariant-loop-puts
invariant-loop-puts g l = l.pass.seen.of ≡ l.hub.of
