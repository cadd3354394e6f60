use Rattle.std.proofs.Common.{◌≡◌}
use Rattle.test_hub.proofs.no_memory.steps.Given as goal

-- the pass and the lens stay those of this hub
abbrev pub invariant-loop-batch : goal.invariant-loop-batch
invariant-loop-batch g l = (l.pass.seen.of ≡ l.hub.of) × (l.lens.seen.of ≡ l.hub.of)
