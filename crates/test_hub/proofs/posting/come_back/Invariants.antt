use Rattle.std.proofs.Common.{◌≡◌}
use Rattle.test_hub.proofs.posting.come_back.Given as goal

-- the pass stays one of this hub
abbrev pub invariant-loop-number : goal.invariant-loop-number
invariant-loop-number g l = l.pass.seen.of ≡ l.hub.of
