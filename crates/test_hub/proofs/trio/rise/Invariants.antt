use Rattle.std.proofs.Common.{◌≡◌}
use Rattle.test_hub.proofs.trio.rise.Given as goal

-- its pass stays at the hub
abbrev pub invariant-loop-count : goal.invariant-loop-count
invariant-loop-count g l = l.pass.seen.of ≡ l.trio.hub.now.of
